use Rattle.std.proofs.Common.{◌≡◌, ◌++◌, length}
use Rattle.mh_sequences.specs.Ranges.{without as range_parts}
use Rattle.mh_sequences.proofs.range.without.Given as goal

abbrev pub invariant-loop-left : goal.invariant-loop-left
invariant-loop-left l =
    l.made.items ++ range_parts l.number l.left ≡ range_parts l.number l.ranges

abbrev pub decreases-loop-left : goal.decreases-loop-left
decreases-loop-left l = length l.left
