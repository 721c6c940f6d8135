use Rattle.std.proofs.Common.{◌≡◌, length}
use Rattle.mh_sequences.specs.Ranges.{is_rising as all_rise}
use Rattle.mh_sequences.proofs.range.is_rising.Given as goal

abbrev pub invariant-loop-left : goal.invariant-loop-left
invariant-loop-left l = all_rise l.left ≡ all_rise l.ranges

abbrev pub decreases-loop-left : goal.decreases-loop-left
decreases-loop-left l = length l.left
