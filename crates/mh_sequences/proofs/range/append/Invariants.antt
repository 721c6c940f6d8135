use Rattle.std.proofs.Common.{◌≡◌, ◌++◌, length}
use Rattle.mh_sequences.proofs.range.append.Given as goal

abbrev pub invariant-loop-left : goal.invariant-loop-left
invariant-loop-left l = l.ranges.items ++ l.left ≡ l.fn.ranges.items ++ l.more

abbrev pub decreases-loop-left : goal.decreases-loop-left
decreases-loop-left l = length l.left
