use Rattle.std.proofs.Common.{◌≡◌, length}
use Rattle.mh_sequences.specs.SequenceLine.{has_blank as any_blank}
use Rattle.mh_sequences.proofs.sequence_line.has_blank.Given as goal

abbrev pub invariant-loop-left : goal.invariant-loop-left
invariant-loop-left l = any_blank l.left ≡ any_blank l.name

abbrev pub decreases-loop-left : goal.decreases-loop-left
decreases-loop-left l = length l.left
