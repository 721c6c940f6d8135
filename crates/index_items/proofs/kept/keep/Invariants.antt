use Rattle.std.proofs.Common.{◌≡◌, ◌++◌, ◌≤◌, drop, length, take}
use Rattle.index_items.specs.Kept.{kept}
use Rattle.index_items.proofs.kept.keep.Given as goal

abbrev pub invariant-loop-mark : goal.invariant-loop-mark
invariant-loop-mark g l = record {
  within : l.place ≤ length l.items.items;
  whole : take l.place l.items.items ++ kept l.left (drop l.place l.items.items)
      ≡ kept l.marks l.initial.items.items;
}

abbrev pub decreases-loop-mark : goal.decreases-loop-mark
decreases-loop-mark g l = length l.left
