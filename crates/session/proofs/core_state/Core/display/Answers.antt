use Rattle.std.proofs.Common.{◌≡◌, ◌∙◌, FitsSigned, ap, arith, map, subst, sym, w32}
use Rattle.std.proofs.lemmas.Int.{ints as signed_arith}
use Rattle.std.proofs.Math.Facts.{to_z-of_z}
use Rattle.std.proofs.lemmas.Result.{on_ok_weaker}
use Rattle.folder_letters.specs.Letters.{plain_letter}
use Rattle.patterns.proofs.CauseLemmas.{keeps_on}
use Rattle.rc_lang.specs.Settings.{plain_names}
use Rattle.session.specs.Core.{IsOver, instant_of, plain_core}
use Rattle.session.specs.Showing.{hooked, once_hooked}
use Rattle.session.specs.declared.core_state.Core.{Core}
use Rattle.session.proofs.ShowingLemmas.{displayed_by}
use Rattle.session.proofs.core_state.Core.display.Goals as goal

pub run_commands-requires-clause-over : goal.run_commands-requires-clause-over
run_commands-requires-clause-over g c =
    subst (IsOver (map plain_letter c.args.archive.now.items) c.args.window)
    (sym c.commands_for.ensures.same) c.requires.over

pub returns-in_err-run_commands-clause-keeps : goal.returns-in_err-run_commands-clause-keeps
returns-in_err-run_commands-clause-keeps g c =
    keeps_on _ _ _ c.commands_for.ensures.keeps c.run_commands.ensures.keeps

pub returns-clause-keeps : goal.returns-clause-keeps
returns-clause-keeps g c =
    keeps_on _ _ _ c.commands_for.ensures.keeps c.run_commands.ensures.keeps

pub returns-clause-core : goal.returns-clause-core
returns-clause-core g c =
    let mails = map plain_letter c.args.archive.now.items in
    let window = c.args.window in
    let id = c.args.id in
    let time = c.with_offset-time.result in
    let texts = plain_names c.in_ok-commands.commands.items in
    let offset : FitsSigned w32 window.offset =
    omega (arith, signed_arith, c.requires.window.west, c.requires.window.east) in
    let time_is : time ≡ instant_of window c.args.moment.0 =
    rw (to_z-of_z offset) at c.with_offset-time.ensures.value in
    on_ok_weaker c.show_unless_waiting.result (λ is later keeps. is
    ∙ ap (once_hooked mails id) (c.in_ok-run_commands.ensures.core later keeps
    ∙ ap (λ (core : Core). hooked later time mails window texts (plain_core core))
    c.commands_for.ensures.same)
    ∙ displayed_by later mails window c.args.moment.0 id time texts (plain_core c.args.self.now)
    time_is (c.in_ok-commands.ensures.commands later
    (keeps_on _ _ _ c.run_commands.ensures.keeps keeps))) c.show_unless_waiting.ensures.core
