use Rattle.std.proofs.Common.{◌≡◌, ◌++◌, length}
use Rattle.index_items.specs.Items.{plain_items}
use Rattle.index_items.specs.Alteration as spec
use Rattle.index_items.proofs.alteration.altered.Given as goal

abbrev pub invariant-loop-left : goal.invariant-loop-left
invariant-loop-left l = plain_items l.all.items
    ++ spec.alter_at l.id (spec.altered_by l.alteration) (plain_items l.left)
    ≡ spec.alter_at l.id (spec.altered_by l.alteration) (plain_items l.items)

abbrev pub decreases-loop-left : goal.decreases-loop-left
decreases-loop-left l = length l.left
