use Rattle.std.proofs.Common.{◌≡◌, ◌<◌, length}
use Rattle.threads.specs.Walk.{Each, all_ended}
use Rattle.threads.proofs.walk.end_all.Given as goal

abbrev pub invariant-loop-left : goal.invariant-loop-left
invariant-loop-left l = record {
  within : Each (λ p. p < length l.marks) l.left;
  done : all_ended l.root l.marks l.left ≡ all_ended l.root l.initial.marks l.fn.places;
}

abbrev pub decreases-loop-left : goal.decreases-loop-left
decreases-loop-left l = length l.left
