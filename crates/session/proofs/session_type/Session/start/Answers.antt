use Rattle.std.proofs.Common.{ap, map, subst, sym, ◌∙◌}
use Rattle.mail_base.specs.Series.{Held}
use Rattle.folder_letters.specs.declared.letter.Letter.{Letter}
use Rattle.session_events.proofs.MetLemmas.{met_none}
use Rattle.std.proofs.Math.Facts.{to_z-of_z}
use Rattle.folder_letters.specs.Letters.{plain_letter}
use Rattle.session_state.specs.Instants.{IsMoment}
use Rattle.session.specs.Starting.{first_state, plain_setup}
use Rattle.session.proofs.BeginningLemmas.{fails_early, if_error, no_answer, no_memory}
use Rattle.session.proofs.CallsLemmas.{fails_at, sourced_at, starts_at}
use Rattle.session.proofs.StepsLemmas.{off_at}
use Rattle.session.proofs.session_type.Session.start.Goals as goal

pub returns-in_err-session-clause-err : goal.returns-in_err-session-clause-err
returns-in_err-session-clause-err g c =
    no_memory _ _ c.from_residual.ensures.1 (λ given is.
    fails_early _ given (first_state (plain_setup c.args.setup) c.args.moment) _ _ _ _ _
    is.keeps (off_at (plain_setup c.args.setup) _ _ (to_z-of_z c.ranges.moment)
    c.sourced.ensures.off))

pub returns-in_err-open_wished-clause-err : goal.returns-in_err-open_wished-clause-err
returns-in_err-open_wished-clause-err g c =
    if_error _ c.in_err-open_wished.field-0.0 _ c.from_residual-in_err-open_wished.ensures.1
    (fails_at c.open_wished.new.trace _ _ (to_z-of_z c.ranges.moment)
    (c.in_err-open_wished.ensures.err
    (first_state (plain_setup c.args.setup) c.args.moment) _
    (sourced_at (plain_setup c.args.setup) _ _ (to_z-of_z c.ranges.moment)
    c.in_ok-session.ensures.sourced)))

pub returns-clause-ok : goal.returns-clause-ok
returns-clause-ok g c =
    starts_at c.open_wished.new.self c.open_wished.new.trace _ _ (to_z-of_z c.ranges.moment)
    (c.in_ok-open_wished.ensures.ok
    (first_state (plain_setup c.args.setup) c.args.moment) _
    (sourced_at (plain_setup c.args.setup) _ _ (to_z-of_z c.ranges.moment)
    c.in_ok-session.ensures.sourced))

pub returns-in_err-open_wished-clause-fits : goal.returns-in_err-open_wished-clause-fits
returns-in_err-open_wished-clause-fits g c =
    no_answer c.from_residual-in_err-open_wished.result _ _
    c.from_residual-in_err-open_wished.ensures.1

pub returns-in_err-open_wished-clause-ok : goal.returns-in_err-open_wished-clause-ok
returns-in_err-open_wished-clause-ok g c =
    no_answer c.from_residual-in_err-open_wished.result _ _
    c.from_residual-in_err-open_wished.ensures.1

pub returns-in_err-session-clause-fits : goal.returns-in_err-session-clause-fits
returns-in_err-session-clause-fits g c =
    no_answer c.from_residual.result _ _ c.from_residual.ensures.1

pub returns-in_err-session-clause-ok : goal.returns-in_err-session-clause-ok
returns-in_err-session-clause-ok g c =
    no_answer c.from_residual.result _ _ c.from_residual.ensures.1

pub returns-in_err-open_wished-clause-known : goal.returns-in_err-open_wished-clause-known
returns-in_err-open_wished-clause-known g c =
    no_answer c.from_residual-in_err-open_wished.result _ _
    c.from_residual-in_err-open_wished.ensures.1

pub returns-in_err-session-clause-known : goal.returns-in_err-session-clause-known
returns-in_err-session-clause-known g c =
    no_answer c.from_residual.result _ _ c.from_residual.ensures.1

pub returns-in_err-session-clause-met : goal.returns-in_err-session-clause-met
returns-in_err-session-clause-met g c = met_none _ _
    (ap (λ (a : Held Letter). map plain_letter a.items) c.sourced.ensures.archive
    ∙ ap (map plain_letter) c.requires.archive) c.sourced.ensures.off.are

pub returns-in_err-open_wished-clause-met : goal.returns-in_err-open_wished-clause-met
returns-in_err-open_wished-clause-met g c = c.open_wished.ensures.met c.sourced.ensures.off.are

pub returns-clause-met : goal.returns-clause-met
returns-clause-met g c = c.open_wished.ensures.met c.sourced.ensures.off.are

pub sourced-requires-clause-archive : goal.sourced-requires-clause-archive
sourced-requires-clause-archive g c = c.requires.archive

pub open_wished-requires-clause-ready : goal.open_wished-requires-clause-ready
open_wished-requires-clause-ready g c = c.in_ok-session.ensures.sourced.ready

pub sourced-requires-clause-events : goal.sourced-requires-clause-events
sourced-requires-clause-events g c = c.requires.events

pub sourced-requires-clause-notes : goal.sourced-requires-clause-notes
sourced-requires-clause-notes g c = c.requires.notes

pub sourced-requires-clause-window : goal.sourced-requires-clause-window
sourced-requires-clause-window g c = c.requires.window

pub sourced-requires-clause-moment : goal.sourced-requires-clause-moment
sourced-requires-clause-moment g c =
    subst IsMoment (sym (to_z-of_z c.ranges.moment)) c.requires.moment
