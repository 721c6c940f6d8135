use Rattle.std.proofs.Common.{◌≡◌, ◌++◌, length}
use Rattle.mh_sequences.specs.SequenceLine.{ranges_text}
use Rattle.mh_sequences.proofs.sequence_line.append_ranges.Given as goal

abbrev pub invariant-loop-left : goal.invariant-loop-left
invariant-loop-left l =
    l.text.items ++ ranges_text l.left ≡ l.fn.text.items ++ ranges_text l.ranges

abbrev pub decreases-loop-left : goal.decreases-loop-left
decreases-loop-left l = length l.left
