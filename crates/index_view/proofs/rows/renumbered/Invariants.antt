use Rattle.std.proofs.Common.{◌≡◌, map}
use Rattle.std.specs.List.{range_with_len}
use Rattle.index_view.specs.Tables as spec
use Rattle.index_view.proofs.rows.renumbered.Given as goal

abbrev pub invariant-loop-place : goal.invariant-loop-place
invariant-loop-place l = l.all.items
    ≡ map (spec.renumbered_at l.rows l.scored) (range_with_len 0 l.place)
