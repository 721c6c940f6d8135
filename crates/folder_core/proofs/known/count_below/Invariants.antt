use Rattle.std.proofs.Common.{◌≡◌, ◌+◌, length}
use Rattle.folder_core.specs.Known.{front_below}
use Rattle.folder_core.proofs.known.count_below.Given as goal

abbrev pub invariant-loop-left : goal.invariant-loop-left
invariant-loop-left l = record {
  count : l.count + length (front_below l.letters l.left)
      ≡ length (front_below l.letters l.listing);
  rest : l.count + length l.left ≡ length l.listing;
}

abbrev pub decreases-loop-left : goal.decreases-loop-left
decreases-loop-left l = length l.left
