use Rattle.std.proofs.Common.{◌∙◌, ap, map, subst, sym}
use Rattle.std.proofs.Math.Facts.{to_z-of_z}
use Rattle.mail_base.specs.Series.{Held}
use Rattle.folder_letters.specs.Letters.{plain_letter}
use Rattle.folder_letters.specs.declared.letter.Letter.{Letter}
use Rattle.session_events.proofs.MetLemmas.{met_none}
use Rattle.session.specs.Runs.{plain_session}
use Rattle.session_state.specs.Instants.{IsMoment}
use Rattle.session.specs.Starting.{first_state, plain_setup}
use Rattle.session.proofs.BeginningLemmas.{answers_at, no_answer}
use Rattle.session.proofs.StepsLemmas.{off_at, sources_at}
use Rattle.session.proofs.session_type.Session.answers.Goals as goal

pub returns-in_err-session-clause-sources : goal.returns-in_err-session-clause-sources
returns-in_err-session-clause-sources g c =
    off_at (plain_setup c.args.setup) _ _ (to_z-of_z c.ranges.moment) c.sourced.ensures.off

pub returns-clause-sources : goal.returns-clause-sources
returns-clause-sources g c =
    off_at (plain_setup c.args.setup) _ _ (to_z-of_z c.ranges.moment) c.sourced.ensures.off

pub returns-clause-ok : goal.returns-clause-ok
returns-clause-ok g c =
    answers_at (first_state (plain_setup c.args.setup) c.args.moment)
    (plain_session c.in_ok-session.session c.sourced.new.trace.notes) _ _ _ _ _
    (sources_at (plain_setup c.args.setup) _ _ (to_z-of_z c.ranges.moment)
    c.in_ok-session.ensures.sourced.sources)
    c.in_ok-session.ensures.sourced.ready.read (rw c.as_slice.ensures at c.answers.ensures)

pub returns-in_err-session-clause-ok : goal.returns-in_err-session-clause-ok
returns-in_err-session-clause-ok g c =
    no_answer c.from_residual.result _ _ c.from_residual.ensures.1

pub returns-in_err-session-clause-archive : goal.returns-in_err-session-clause-archive
returns-in_err-session-clause-archive g c = c.sourced.ensures.archive

pub returns-clause-archive : goal.returns-clause-archive
returns-clause-archive g c = c.sourced.ensures.archive

pub sourced-requires-clause-events : goal.sourced-requires-clause-events
sourced-requires-clause-events g c = c.requires.events

pub sourced-requires-clause-notes : goal.sourced-requires-clause-notes
sourced-requires-clause-notes g c = c.requires.notes

pub sourced-requires-clause-window : goal.sourced-requires-clause-window
sourced-requires-clause-window g c = c.requires.window

pub sourced-requires-clause-moment : goal.sourced-requires-clause-moment
sourced-requires-clause-moment g c =
    subst IsMoment (sym (to_z-of_z c.ranges.moment)) c.requires.moment

pub returns-in_err-session-clause-met : goal.returns-in_err-session-clause-met
returns-in_err-session-clause-met g c = met_none _ _
    (ap (λ (a : Held Letter). map plain_letter a.items) c.sourced.ensures.archive
    ∙ ap (map plain_letter) c.requires.archive) c.sourced.ensures.off.are

pub returns-clause-met : goal.returns-clause-met
returns-clause-met g c = met_none _ _
    (ap (λ (a : Held Letter). map plain_letter a.items) c.sourced.ensures.archive
    ∙ ap (map plain_letter) c.requires.archive) c.sourced.ensures.off.are

pub sourced-requires-clause-archive : goal.sourced-requires-clause-archive
sourced-requires-clause-archive g c = c.requires.archive
