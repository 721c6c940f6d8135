use Rattle.std.proofs.Common.{◌≡◌}
use Rattle.std.specs.List.{filter, range_with_len}
use Rattle.index_listed.specs.Visibility.{is_visible}
use Rattle.index_listed.proofs.visibility.visible.Given as goal

abbrev pub invariant-loop-place : goal.invariant-loop-place
invariant-loop-place l =
    l.places.items ≡ filter (is_visible l.entries) (range_with_len 0 l.place)
