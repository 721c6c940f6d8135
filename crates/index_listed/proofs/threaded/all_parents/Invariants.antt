use Rattle.std.proofs.Common.{◌≡◌, ◌++◌, length, map}
use Rattle.index_listed.specs.Listed.{plain_listed}
use Rattle.index_listed.specs.Threaded.{parents_of}
use Rattle.index_listed.proofs.threaded.all_parents.Given as goal

abbrev pub invariant-loop-left : goal.invariant-loop-left
invariant-loop-left l = l.all.items
    ++ parents_of l.threads (map plain_listed l.left)
    ≡ parents_of l.threads (map plain_listed l.listed)

abbrev pub decreases-loop-left : goal.decreases-loop-left
decreases-loop-left l = length l.left
