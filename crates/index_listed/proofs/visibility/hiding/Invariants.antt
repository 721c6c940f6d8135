use Rattle.std.proofs.Common.{◌≡◌, map}
use Rattle.std.specs.List.{range_with_len}
use Rattle.index_listed.specs.Visibility.{hides}
use Rattle.index_listed.proofs.visibility.hiding.Given as goal

abbrev pub invariant-loop-place : goal.invariant-loop-place
invariant-loop-place l = l.hiding.items ≡ map (hides l.entries) (range_with_len 0 l.place)
