use Rattle.std.proofs.Common.{◌∙◌, FitsSigned, ap, arith, map, subst, sym, w32}
use Rattle.std.proofs.lemmas.Int.{ints as signed_arith}
use Rattle.std.proofs.Math.Facts.{to_z-of_z}
use Rattle.std.proofs.lemmas.Result.{on_ok_weaker}
use Rattle.folder_letters.specs.Letters.{plain_letter}
use Rattle.index_view.specs.View.{IsOf}
use Rattle.session_state.specs.Frames.{typed_script}
use Rattle.session_state.specs.Told.{nothing_told}
use Rattle.session_state.specs.declared.instant.Instant.{Instant}
use Rattle.session.specs.Answers.{caught_up, ran_to}
use Rattle.session.specs.Core.{plain_core}
use Rattle.session.proofs.CoreLemmas.{stands_as}
use Rattle.session.proofs.core_state.Core.command.Goals as goal

pub catch_up-requires : goal.catch_up-requires
catch_up-requires g c = subst (IsOf (map plain_letter c.args.archive.now.items))
    (sym c.run_text.ensures.view) c.requires.is_of

pub returns-clause-core : goal.returns-clause-core
returns-clause-core g c =
    let mails = map plain_letter c.args.archive.now.items in
    let offset : FitsSigned w32 c.args.window.offset =
    omega (arith, signed_arith, c.requires.window.west, c.requires.window.east) in
    let core = plain_core c.args.self.now in
    on_ok_weaker c.catch_up.result (λ stands later keeps. stands_as mails _ _ _
    (ap (caught_up mails) (c.in_ok-run_text.ensures.core later keeps
    ∙ ap (λ (time : Instant). ran_to (typed_script time later c.args.text.now.items core.frames
    core.rules nothing_told) core)
    (rw (to_z-of_z offset) at c.with_offset.ensures.value))) stands) c.catch_up.ensures
