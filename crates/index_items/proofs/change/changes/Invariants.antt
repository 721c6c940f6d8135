use Rattle.std.proofs.Common.{◌≡◌, ◌++◌, length}
use Rattle.index_items.specs.Changes as spec
use Rattle.index_items.specs.Items.{plain_items}
use Rattle.index_items.proofs.change.changes.Given as goal

abbrev pub invariant-loop-left : goal.invariant-loop-left
invariant-loop-left l = spec.plain_changes l.changes.items
    ++ spec.changes_of l.kind l.purge (plain_items l.left)
    ≡ spec.changes_of l.kind l.purge (plain_items l.items)

abbrev pub decreases-loop-left : goal.decreases-loop-left
decreases-loop-left l = length l.left
