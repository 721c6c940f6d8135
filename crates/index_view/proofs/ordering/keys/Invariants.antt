use Rattle.std.proofs.Common.{◌≡◌, map}
use Rattle.std.specs.List.{range_with_len}
use Rattle.index_listed.specs.Listed.{plain_listed}
use Rattle.index_view.specs.Ordering as spec
use Rattle.index_view.proofs.ordering.keys.Given as goal

abbrev pub invariant-loop-place : goal.invariant-loop-place
invariant-loop-place l = l.keys.items
    ≡ map (spec.key_at (map plain_listed l.listed) l.rows) (range_with_len 0 l.place)
