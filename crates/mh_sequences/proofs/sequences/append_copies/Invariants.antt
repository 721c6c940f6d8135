use Rattle.std.proofs.Common.{◌≡◌, ◌++◌, length}
use Rattle.mh_sequences.specs.Sequences.{plain_lines}
use Rattle.mh_sequences.proofs.sequences.append_copies.Given as goal

abbrev pub invariant-loop-left : goal.invariant-loop-left
invariant-loop-left l =
    plain_lines l.lines.items ++ plain_lines l.left
    ≡ plain_lines l.fn.lines.items ++ plain_lines l.more

abbrev pub decreases-loop-left : goal.decreases-loop-left
decreases-loop-left l = length l.left
