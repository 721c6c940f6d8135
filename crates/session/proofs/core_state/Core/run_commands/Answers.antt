use Rattle.std.proofs.Common.{◌∙◌, List, ap, map, subst, sym, ℕ}
use Rattle.std.proofs.lemmas.Result.{on_ok_weaker}
use Rattle.folder_letters.specs.Letters.{plain_letter}
use Rattle.index_view.specs.View.{IsOf}
use Rattle.mail_base.specs.Series.{Held}
use Rattle.rc_lang.specs.Settings.{plain_names}
use Rattle.session.specs.Answers.{caught_up}
use Rattle.session.specs.Core.{plain_core}
use Rattle.session.specs.Reading.{refreshed}
use Rattle.session.specs.Showing.{texts_run}
use Rattle.session.proofs.ShowingLemmas.{hooks_ran}
use Rattle.session.proofs.core_state.Core.run_commands.Goals as goal

pub catch_up-requires : goal.catch_up-requires
catch_up-requires g c = subst (IsOf (map plain_letter c.args.archive.now.items))
    (sym c.run_texts.ensures.view) c.requires.over.is_of

pub returns-clause-core : goal.returns-clause-core
returns-clause-core g c =
    let mails = map plain_letter c.args.archive.now.items in
    let window = c.args.window in
    let old = plain_core c.args.self.now in
    on_ok_weaker c.refresh.result (λ is later keeps. is
    ∙ ap (refreshed mails window) (c.in_ok-catch_up.ensures.same
    ∙ ap (caught_up mails) (c.in_ok-run_texts.ensures.core later keeps
    ∙ ap (λ (l : List (Held ℕ)). texts_run later c.args.time (plain_names l) old)
    c.as_slice.ensures))
    ∙ hooks_ran later c.args.time mails window c.args.commands.now.items old
    (λ none. c.if-len-eq0.false (c.len.ensures ∙ none))) c.refresh.ensures.core

pub returns-clause-over : goal.returns-clause-over
returns-clause-over g c = on_ok_weaker c.refresh.result (λ reads. record {
  is_of = subst (IsOf (map plain_letter c.args.archive.now.items))
      (sym c.refresh.ensures.view) c.in_ok-catch_up.ensures.is_of;
  reads = reads;
}) c.refresh.ensures.reads
