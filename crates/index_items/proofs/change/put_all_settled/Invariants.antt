use Rattle.std.proofs.Common.{◌≡◌, ◌++◌, List, length}
use Rattle.index_items.specs.Changes as spec
use Rattle.index_items.specs.Items.{plain_items}
use Rattle.index_items.proofs.change.put_all_settled.Given as goal

abbrev pub invariant-loop-left : goal.invariant-loop-left
invariant-loop-left l = (changes : List spec.Changed) → spec.Tells l.table changes
    → plain_items l.settled.items ++ spec.settled l.kind changes (plain_items l.left)
    ≡ plain_items l.initial.settled.items ++ spec.settled l.kind changes (plain_items l.items)

abbrev pub decreases-loop-left : goal.decreases-loop-left
decreases-loop-left l = length l.left
