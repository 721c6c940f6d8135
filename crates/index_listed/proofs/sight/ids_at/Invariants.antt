use Rattle.std.proofs.Common.{◌≡◌, ◌++◌, length, map}
use Rattle.index_listed.specs.Sight.{id_at}
use Rattle.index_listed.proofs.sight.ids_at.Given as goal

abbrev pub invariant-loop-left : goal.invariant-loop-left
invariant-loop-left l = l.ids.items ++ map (id_at l.order) l.left
    ≡ map (id_at l.order) l.places

abbrev pub decreases-loop-left : goal.decreases-loop-left
decreases-loop-left l = length l.left
