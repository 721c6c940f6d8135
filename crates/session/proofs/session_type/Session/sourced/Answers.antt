use Rattle.std.proofs.Common.{◌∙◌, [], List, ap, length, map, refl, subst, sym}
use Rattle.std.proofs.Math.Facts.{to_z-of_z}
use Rattle.folder_letters.specs.Letters.{plain_letter}
use Rattle.folder_letters.specs.declared.letter.Letter.{Letter}
use Rattle.session_events.specs.declared.open_folder.OpenFolder.{OpenFolder}
use Rattle.mail_base.specs.Series.{plain_texts}
use Rattle.session_events.specs.Events.{plain_events}
use Rattle.session.specs.Core.{IsEmpty}
use Rattle.session.specs.Runs.{State, plain_session}
use Rattle.session.specs.Starting.{first_state, plain_setup}
use Rattle.session.proofs.BeginningLemmas.{files_end, no_answer}
use Rattle.session.proofs.FittingLemmas.{first_fits}
use Rattle.session.proofs.StepsLemmas.{begun_off, begun_read, sources_begun, sources_off}
use Rattle.session.proofs.session_type.Session.sourced.Goals as goal

pub returns-in_err-session-clause-off : goal.returns-in_err-session-clause-off
returns-in_err-session-clause-off g c =
    let first = first_state (plain_setup c.args.setup) c.args.moment in
    sources_off first first _ _ _ _ _ refl refl
    (sources_begun _ first first _ _ refl (ap plain_events c.requires.events))

pub source_all-requires : goal.source_all-requires
source_all-requires g c =
    let is = c.in_ok-session.ensures.state (record { items = []; room = 0 }) refl in record {
      fits = first_fits (map plain_letter c.args.trace.now.archive.items) c.in_ok-session.session
          (plain_setup c.args.setup) c.args.moment c.in_ok-session.ensures.empty
          (is ∙ ap (first_state (plain_setup c.args.setup)) (to_z-of_z c.ranges.moment))
          c.requires.window c.requires.moment;
      met = ap (λ (s : State). s.met) is
          ∙ sym (ap (λ (l : List Letter). length (map plain_letter l)) c.requires.archive);
    }

pub returns-in_err-source_all-clause-off : goal.returns-in_err-source_all-clause-off
returns-in_err-source_all-clause-off g c =
    let first = first_state (plain_setup c.args.setup) c.args.moment in
    let is = c.in_ok-session.ensures.state c.args.trace.now.notes c.requires.notes
    ∙ ap (first_state (plain_setup c.args.setup)) (to_z-of_z c.ranges.moment) in
    begun_off (map plain_letter c.source_all.new.trace.archive.items) first
    (plain_session c.in_ok-session.session c.args.trace.now.notes)
    (plain_events c.args.trace.now.events.items)
    (plain_events c.source_all.new.trace.events.items) (plain_texts c.args.trace.now.notes) _ _ is
    (ap plain_events c.requires.events) refl c.source_all.ensures.reads.files
    c.source_all.ensures.reads.kept
    c.source_all.ensures.reads.on

pub returns-clause-off : goal.returns-clause-off
returns-clause-off g c =
    let first = first_state (plain_setup c.args.setup) c.args.moment in
    let is = c.in_ok-session.ensures.state c.args.trace.now.notes c.requires.notes
    ∙ ap (first_state (plain_setup c.args.setup)) (to_z-of_z c.ranges.moment) in
    begun_off (map plain_letter c.source_all.new.trace.archive.items) first
    (plain_session c.in_ok-session.session c.args.trace.now.notes)
    (plain_events c.args.trace.now.events.items)
    (plain_events c.source_all.new.trace.events.items) (plain_texts c.args.trace.now.notes) _ _ is
    (ap plain_events c.requires.events) refl c.source_all.ensures.reads.files
    c.source_all.ensures.reads.kept
    c.source_all.ensures.reads.on

pub returns-clause-sourced : goal.returns-clause-sourced
returns-clause-sourced g c =
    let first = first_state (plain_setup c.args.setup) c.args.moment in
    let is = c.in_ok-session.ensures.state c.args.trace.now.notes c.requires.notes
    ∙ ap (first_state (plain_setup c.args.setup)) (to_z-of_z c.ranges.moment) in
    let whole = c.in_ok-source_all.ensures.whole in
    let unopened = whole.unopened (ap (λ (s : State). s.turn.stage) is) in record {
      sources = begun_read (map plain_letter c.source_all.new.trace.archive.items) first
          (plain_session c.in_ok-session.session c.args.trace.now.notes)
          (plain_events c.args.trace.now.events.items)
          (plain_events c.source_all.new.trace.events.items) (plain_texts c.args.trace.now.notes)
          _ _ is (ap plain_events c.requires.events) refl c.source_all.ensures.reads.files
          c.source_all.ensures.reads.kept c.source_all.ensures.reads.on
          (plain_session c.source_all.new.self c.source_all.new.trace.notes)
          c.source_all.ensures.reads.window whole.to;
      ready = record {
        unopened = unopened;
        read = files_end _ _ unopened c.in_ok-source_all.ensures.read;
        empty = subst IsEmpty (sym (whole.view (ap (λ (s : State). s.turn.stage) is)))
            c.in_ok-session.ensures.empty;
        none = ap (λ (f : OpenFolder). f.met) c.source_all.ensures.reads.folder
            ∙ ap (λ (s : State). s.met) is;
        fits = whole.fits.fits.can;
      };
    }

pub returns-clause-archive : goal.returns-clause-archive
returns-clause-archive g c = c.source_all.ensures.reads.archive

pub returns-in_err-session-clause-sourced : goal.returns-in_err-session-clause-sourced
returns-in_err-session-clause-sourced g c =
    no_answer c.from_residual.result _ _ c.from_residual.ensures.1

pub returns-in_err-source_all-clause-sourced : goal.returns-in_err-source_all-clause-sourced
returns-in_err-source_all-clause-sourced g c =
    no_answer c.from_residual-in_err-source_all.result _ _
    c.from_residual-in_err-source_all.ensures.1

pub returns-in_err-source_all-clause-archive : goal.returns-in_err-source_all-clause-archive
returns-in_err-source_all-clause-archive g c = c.source_all.ensures.reads.archive
