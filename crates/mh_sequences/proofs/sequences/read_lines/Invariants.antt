use Rattle.std.proofs.Common.{◌≡◌, ◌++◌, [], length}
use Rattle.mh_sequences.specs.Sequences.{plain_lines}
use Rattle.mh_sequences.specs.Sequences as spec
use Rattle.mh_sequences.proofs.sequences.read_lines.Given as goal

abbrev pub invariant-loop-left : goal.invariant-loop-left
invariant-loop-left l =
    plain_lines l.lines.items ++ spec.lines_from l.line.items l.left ≡ spec.lines_from [] l.bytes

abbrev pub decreases-loop-left : goal.decreases-loop-left
decreases-loop-left l = length l.left
