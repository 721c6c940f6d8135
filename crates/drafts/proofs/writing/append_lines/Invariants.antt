use Rattle.std.proofs.Common.{◌≡◌, ◌++◌, length}
use Rattle.std.specs.List.{flat_map}
use Rattle.drafts.specs.Spelled.{ended}
use Rattle.drafts.specs.Texts.{texts}
use Rattle.drafts.proofs.writing.append_lines.Given as goal

abbrev pub invariant-loop-left : goal.invariant-loop-left
invariant-loop-left l =
    l.out.items ++ flat_map ended (texts l.left)
    ≡ l.fn.out.items ++ flat_map ended (texts l.lines)

abbrev pub decreases-loop-left : goal.decreases-loop-left
decreases-loop-left l = length l.left
