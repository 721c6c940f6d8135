use Rattle.std.proofs.Common.{◌≡◌, ◌++◌, length, map}
use Rattle.index_listed.specs.Listed.{ids, plain_listed}
use Rattle.index_listed.specs.Places.{numbers}
use Rattle.index_listed.proofs.threaded.ids_of.Given as goal

abbrev pub invariant-loop-left : goal.invariant-loop-left
invariant-loop-left l = numbers l.all.items ++ ids (map plain_listed l.left)
    ≡ ids (map plain_listed l.listed)

abbrev pub decreases-loop-left : goal.decreases-loop-left
decreases-loop-left l = length l.left
