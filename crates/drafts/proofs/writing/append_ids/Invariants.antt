use Rattle.std.proofs.Common.{◌≡◌, ◌++◌, length}
use Rattle.drafts.specs.Texts.{texts}
use Rattle.drafts.proofs.LoopLemmas.{more_ids}
use Rattle.drafts.proofs.writing.append_ids.Given as goal

abbrev pub invariant-loop-left : goal.invariant-loop-left
invariant-loop-left l =
    l.out.items ++ more_ids (texts l.left)
    ≡ (l.fn.out.items ++ l.first.items) ++ more_ids (texts l.ids)

abbrev pub decreases-loop-left : goal.decreases-loop-left
decreases-loop-left l = length l.left
