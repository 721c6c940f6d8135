use Rattle.std.proofs.Common.{◌≡◌, ◌∙◌, None, List, Option, ap, replicate}
use Rattle.std.specs.List.{filter}
use Rattle.mail_base.specs.declared.flags.Flags.{Flags}
use Rattle.folder_core.specs.Difference.{filled, has_others, is_new}
use Rattle.folder_core.proofs.DifferenceLemmas.{differ_so}
use Rattle.folder_core.proofs.difference.difference_of.Goals as goal

pub returns : goal.returns
returns c =
    let table : c.as_slice.result.now ≡ filled (replicate c.args.letters None) c.args.old.now =
    c.as_slice.ensures.value ∙ c.in_ok-before.ensures in
    let again : c.as_slice-2.result.now ≡ filled (replicate c.args.letters None) c.args.old.now =
    c.as_slice-2.ensures.value ∙ c.in_ok-before.ensures in
    differ_so c.args.letters c.args.old.now c.args.new.now _ c.requires.within c.requires.once
    c.in_ok-gone.ensures
    (c.in_ok-came.ensures
    ∙ ap (λ (t : List (Option Flags)). filter (is_new t) c.args.new.now) table)
    (c.in_ok-reflagged.ensures
    ∙ ap (λ (t : List (Option Flags)). filter (has_others t) c.args.new.now) again)
