use Rattle.std.proofs.Common.{◌∙◌, List, ap, map, refl, subst, sym}
use Rattle.folder_letters.specs.Letters.{Mail, plain_letter}
use Rattle.index_view.specs.View.{IsOf}
use Rattle.session_pager.specs.Opening.{reader_again}
use Rattle.session_state.specs.Rules.{weeding_of}
use Rattle.session.specs.Answers.{caught_up}
use Rattle.session.specs.Core.{CoreState}
use Rattle.session.specs.Reading.{refreshed}
use Rattle.session.specs.Runs.{plain_session, with_core}
use Rattle.session.proofs.FittingLemmas.{learnt_fits}
use Rattle.session.proofs.session_type.Session.learn.Goals as goal

pub returns-clause-learns : goal.returns-clause-learns
returns-clause-learns c kept given is notes =
    let mails : List Mail = map plain_letter c.args.archive.now.items in
    let window = c.args.self.now.window in
    let old = plain_session c.args.self.now notes in
    ap (λ (d : CoreState). with_core d old) (c.in_ok-refresh.ensures.core
    ∙ ap (refreshed mails window) c.in_ok-catch_up.ensures.same
    ∙ ap (λ (m : List Mail). refreshed m window (caught_up m old.turn.core)) (sym is.mails_are))

pub returns-clause-fits : goal.returns-clause-fits
returns-clause-fits c =
    let mails : List Mail = map plain_letter c.args.archive.now.items in
    let cols = c.args.self.now.window.cols in
    let weeding = weeding_of c.catch_up.new.self.rules in
    learnt_fits mails c.args.self.now _ cols weeding c.requires refl
    (ap (λ (d : CoreState). d.reader) c.in_ok-refresh.ensures.core
    ∙ ap (reader_again mails cols weeding)
    (ap (λ (d : CoreState). d.reader) c.in_ok-catch_up.ensures.same)) (record {
      over = record {
        is_of = subst (IsOf mails) (sym c.refresh.ensures.view) c.in_ok-catch_up.ensures.is_of;
        reads = c.in_ok-refresh.ensures.reads;
      };
      can = record {
        window = c.requires.can.window;
        moment = c.requires.can.moment;
        few = c.requires.can.few;
      };
    })
