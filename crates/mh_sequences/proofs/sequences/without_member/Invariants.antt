use Rattle.std.proofs.Common.{◌≡◌, ◌++◌, length}
use Rattle.mh_sequences.specs.Sequences.{plain_lines}
use Rattle.mh_sequences.specs.Sequences as spec
use Rattle.mh_sequences.proofs.sequences.without_member.Given as goal

abbrev pub invariant-loop-left : goal.invariant-loop-left
invariant-loop-left l =
    plain_lines l.made.items ++ spec.without_member l.name l.number (plain_lines l.left)
    ≡ spec.without_member l.name l.number (plain_lines l.lines)

abbrev pub decreases-loop-left : goal.decreases-loop-left
decreases-loop-left l = length l.left
