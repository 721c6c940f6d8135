use Rattle.std.proofs.Common.{◌≡◌, map}
use Rattle.std.specs.List.{range_with_len}
use Rattle.index_view.specs.Marks as spec
use Rattle.index_view.proofs.marks.marks.Given as goal

abbrev pub invariant-loop-place : goal.invariant-loop-place
invariant-loop-place l = l.marks.items
    ≡ map (spec.mark_of l.rows l.within) (range_with_len 0 l.place)
