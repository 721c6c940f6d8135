use Rattle.std.proofs.Common.{◌≡◌, ◌++◌, length}
use Rattle.index_items.specs.Items as spec
use Rattle.index_items.proofs.item.ids_of.Given as goal

abbrev pub invariant-loop-left : goal.invariant-loop-left
invariant-loop-left l = l.ids.items ++ spec.ids_of (spec.plain_items l.left)
    ≡ spec.ids_of (spec.plain_items l.items)

abbrev pub decreases-loop-left : goal.decreases-loop-left
decreases-loop-left l = length l.left
