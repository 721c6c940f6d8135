use Rattle.std.proofs.Common.{◌≡◌, ◌+◌, ◌≤◌, length}
use Rattle.index_items.specs.Changes.{plain_changes}
use Rattle.index_functions.specs.Syncs.{count_discards}
use Rattle.index_functions.proofs.syncs.count_discards.Given as goal

abbrev pub invariant-loop-left : goal.invariant-loop-left
invariant-loop-left l =
    (l.count + count_discards (plain_changes l.left) ≡ count_discards (plain_changes l.changes))
    × (l.count + length l.left ≤ length l.changes)

abbrev pub decreases-loop-left : goal.decreases-loop-left
decreases-loop-left l = length l.left
