use Rattle.std.proofs.Common.{false, slice_index_or}
use Rattle.index_listed.specs.Visibility.{AreThreadsWith}
use Rattle.index_listed.proofs.visibility.threads_with.Given as goal

abbrev pub invariant-loop-place : goal.invariant-loop-place
invariant-loop-place l =
    AreThreadsWith (λ p. slice_index_or l.passed p false) l.entries l.place l.marks.items
