use Rattle.std.proofs.Common.{length, ◌≡◌}
use Rattle.folder_tails.specs.Tails as spec
use Rattle.folder_tails.proofs.text.number_line.Given as goal

abbrev pub invariant-loop-left : goal.invariant-loop-left
invariant-loop-left l = spec.number_line l.number l.left ≡ spec.number_line 0 l.bytes

abbrev pub decreases-loop-left : goal.decreases-loop-left
decreases-loop-left l = length l.left
