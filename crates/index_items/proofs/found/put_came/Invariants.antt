use Rattle.std.proofs.Common.{◌≡◌, ◌++◌, length}
use Rattle.index_items.specs.Found as spec
use Rattle.index_items.specs.Items.{plain_items}
use Rattle.index_items.proofs.found.put_came.Given as goal

abbrev pub invariant-loop-left : goal.invariant-loop-left
invariant-loop-left l = plain_items l.items.items ++ spec.came_items l.left
    ≡ plain_items l.initial.items.items ++ spec.came_items l.came

abbrev pub decreases-loop-left : goal.decreases-loop-left
decreases-loop-left l = length l.left
