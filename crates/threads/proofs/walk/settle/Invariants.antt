use Rattle.std.proofs.Common.{ℕ, ◌<◌, Bool, List, Option, length, reverse, vec_len}
use Rattle.threads.specs.Walk.{Each, IsClosed, KeepsSeen}
use Rattle.threads.specs.declared.step.Step.{Step}
use Rattle.threads.proofs.walk.settle.Given as goal

abbrev pub invariant-loop-place : goal.invariant-loop-place
invariant-loop-place l = record {
  within : Each (λ p. p < length l.marks) (reverse l.way.items);
  walk : (is_before : ℕ → ℕ → Bool) → (links : List (Option Step))
      → IsClosed is_before links l.initial.marks l.initial.way.items l.root
      → IsClosed is_before links l.marks l.way.items l.root;
  keeps : KeepsSeen l.initial.marks l.marks;
}

abbrev pub decreases-loop-place : goal.decreases-loop-place
decreases-loop-place l = vec_len l.way
