use Rattle.std.proofs.Common.{◌≡◌, ◌++◌, length}
use Rattle.mh_sequences.specs.Ranges.{with_range as range_added}
use Rattle.mh_sequences.proofs.range.with_range.Given as goal

abbrev pub invariant-loop-left : goal.invariant-loop-left
invariant-loop-left l =
    l.made.items ++ range_added l.range l.left ≡ range_added l.fn.range l.ranges

abbrev pub decreases-loop-left : goal.decreases-loop-left
decreases-loop-left l = length l.left
