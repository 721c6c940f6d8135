use Rattle.std.proofs.Common.{◌≡◌, ◌==◌, None, map, slice_index, slice_index_or}
use Rattle.std.specs.Prelude.{if◌then◌else◌}
use Rattle.std.specs.List.{range_with_len}
use Rattle.threads.proofs.threads.cut.Given as goal

abbrev pub invariant-loop-place : goal.invariant-loop-place
invariant-loop-place l =
    l.parents.items ≡ map (λ p. if slice_index l.roots p == p then None else slice_index_or
    l.links p None)
    (range_with_len 0 l.place)
