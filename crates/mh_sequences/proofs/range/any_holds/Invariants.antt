use Rattle.std.proofs.Common.{◌≡◌, length}
use Rattle.mh_sequences.specs.Ranges.{any_holds as any_range}
use Rattle.mh_sequences.proofs.range.any_holds.Given as goal

abbrev pub invariant-loop-left : goal.invariant-loop-left
invariant-loop-left l = any_range l.number l.left ≡ any_range l.number l.ranges

abbrev pub decreases-loop-left : goal.decreases-loop-left
decreases-loop-left l = length l.left
