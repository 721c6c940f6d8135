use Rattle.std.proofs.Common.{◌≡◌, ◌++◌, List, length}
use Rattle.index_items.specs.Changes.{Changed, Tells}
use Rattle.folder_drivers.specs.MhLeft as spec
use Rattle.mh_syncs.proofs.left.put_stamps.Given as goal

-- what was added so far, and then what is added of the rest
abbrev pub invariant-loop-left : goal.invariant-loop-left
invariant-loop-left l = (changes : List Changed) → Tells l.table changes
    → l.made.items ++ spec.stamps_synced changes l.left l.stamps_left
    ≡ l.initial.made.items ++ spec.stamps_synced changes l.listing l.stamps

abbrev pub decreases-loop-left : goal.decreases-loop-left
decreases-loop-left l = length l.left
