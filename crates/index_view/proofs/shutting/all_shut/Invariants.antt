use Rattle.std.proofs.Common.{◌≡◌, ◌++◌, length}
use Rattle.index_items.specs.Items.{plain_items}
use Rattle.index_view.specs.Shutting as spec
use Rattle.index_view.proofs.shutting.all_shut.Given as goal

abbrev pub invariant-loop-left : goal.invariant-loop-left
invariant-loop-left l = plain_items l.all.items
    ++ spec.all_shut l.shut l.answers (plain_items l.left)
    ≡ spec.all_shut l.shut l.answers (plain_items l.items)

abbrev pub decreases-loop-left : goal.decreases-loop-left
decreases-loop-left l = length l.left
