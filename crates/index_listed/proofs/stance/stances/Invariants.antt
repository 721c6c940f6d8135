use Rattle.std.proofs.Common.{◌≡◌, ◌++◌, length, map}
use Rattle.index_listed.specs.Sight as spec
use Rattle.index_listed.proofs.stance.stances.Given as goal

abbrev pub invariant-loop-left : goal.invariant-loop-left
invariant-loop-left l = l.all.items
    ++ map (spec.stance_of l.threaded l.threads l.listed l.places) l.left
    ≡ map (spec.stance_of l.threaded l.threads l.listed l.places) l.order

abbrev pub decreases-loop-left : goal.decreases-loop-left
decreases-loop-left l = length l.left
