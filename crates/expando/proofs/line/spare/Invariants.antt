use Rattle.std.proofs.Common.{◌≡◌, length}
use Rattle.expando.specs.Lines.{spare}
use Rattle.expando.proofs.line.spare.Given as goal

abbrev pub invariant-loop-rest : goal.invariant-loop-rest
invariant-loop-rest l = spare l.left l.rest ≡ spare l.cols l.cells

abbrev pub decreases-loop-rest : goal.decreases-loop-rest
decreases-loop-rest l = length l.rest
