use Rattle.std.proofs.Common.{◌≡◌, ◌+◌, length}
use Rattle.folder_drivers.specs.MboxFront.{common_length}
use Rattle.mbox_writes.proofs.front.common_length.Given as goal

-- so many were alike, and the rest is left
abbrev pub invariant-loop-left : goal.invariant-loop-left
invariant-loop-left l = record {
  common : l.count + common_length l.left l.there ≡ common_length l.known l.bytes;
  rest : l.count + length l.left ≡ length l.known;
}

abbrev pub decreases-loop-left : goal.decreases-loop-left
decreases-loop-left l = length l.left
