use Rattle.std.proofs.Common.{◌≡◌, [], length}
use Rattle.mh_sequences.specs.SequenceLine.{ranges_from}
use Rattle.mh_sequences.proofs.sequence_line.read_ranges.Given as goal

abbrev pub invariant-loop-left : goal.invariant-loop-left
invariant-loop-left l =
    ranges_from l.ranges.items l.word.items l.left ≡ ranges_from [] [] l.text

abbrev pub decreases-loop-left : goal.decreases-loop-left
decreases-loop-left l = length l.left
