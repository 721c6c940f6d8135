use Rattle.std.proofs.Common.{◌≡◌, ◌++◌, length}
use Rattle.index_listed.specs.Sight as spec
use Rattle.index_listed.proofs.stance.entries.Given as goal

abbrev pub invariant-loop-left : goal.invariant-loop-left
invariant-loop-left l = l.all.items ++ spec.entries l.marks l.left
    ≡ spec.entries l.marks l.stances

abbrev pub decreases-loop-left : goal.decreases-loop-left
decreases-loop-left l = length l.left
