use Rattle.std.proofs.Common.{◌≡◌, ◌-◌, ◌++◌}
use Rattle.std.specs.List.{range_with_len}
use Rattle.pager.proofs.quotes.push_places.Given as goal

abbrev pub invariant-loop-place : goal.invariant-loop-place
invariant-loop-place l =
    l.places.items ++ range_with_len l.place (l.to - l.place)
    ≡ l.initial.places.items ++ range_with_len l.from (l.to - l.from)
