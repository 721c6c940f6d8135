use Rattle.std.proofs.Common.{◌≡◌}
use Rattle.std.specs.List.{range_with_len}
use Rattle.index_order.specs.Inner.{ArePlaced, placed_places}
use Rattle.index_order.proofs.sorted.placed_keys.Given as goal

abbrev pub invariant-loop-place : goal.invariant-loop-place
invariant-loop-place l = record {
  placed : ArePlaced l.keys l.placed.items;
  places : placed_places l.placed.items ≡ range_with_len 0 l.place;
}
