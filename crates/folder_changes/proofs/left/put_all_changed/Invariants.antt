use Rattle.std.proofs.Common.{◌≡◌, ◌++◌, List, length}
use Rattle.index_items.specs.Changes.{Changed, Tells}
use Rattle.folder_changes.specs.Left as spec
use Rattle.folder_changes.proofs.left.put_all_changed.Given as goal

-- what was left so far, and then what is left of the rest
abbrev pub invariant-loop-left : goal.invariant-loop-left
invariant-loop-left l = (changes : List Changed) → Tells l.table changes
    → l.synced.items ++ spec.listing_synced l.kind changes l.left
    ≡ l.initial.synced.items ++ spec.listing_synced l.kind changes l.listing

abbrev pub decreases-loop-left : goal.decreases-loop-left
decreases-loop-left l = length l.left
