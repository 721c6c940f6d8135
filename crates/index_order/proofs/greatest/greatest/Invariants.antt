use Rattle.std.proofs.Common.{length}
use Rattle.index_order.proofs.GreatestLemmas.{AreSoFar}
use Rattle.index_order.proofs.greatest.greatest.Given as goal

abbrev pub invariant-loop-last : goal.invariant-loop-last
invariant-loop-last l =
    AreSoFar l.fn.sort l.keys l.above l.values.items l.waiting.items

abbrev pub decreases-loop-last : goal.decreases-loop-last
decreases-loop-last l = length l.waiting.items
