use Rattle.std.proofs.Common.{◌≡◌, ◌+◌, ◌-◌, ◌≤◌, length}
use Rattle.expando.specs.Leaves.{leaves, plain_leaves}
use Rattle.expando.specs.Pieces.{with_front}
use Rattle.expando.proofs.leaf.read_leaves.Given as goal

abbrev pub invariant-loop-left : goal.invariant-loop-left
invariant-loop-left l = record {
  read : with_front (plain_leaves l.leaves)
      (leaves l.letters (l.place + (length l.text - length l.left)) l.left)
      ≡ leaves l.letters l.place l.text;
  within : length l.left ≤ length l.text;
}

abbrev pub decreases-loop-left : goal.decreases-loop-left
decreases-loop-left l = length l.left
