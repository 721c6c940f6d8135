use Rattle.std.proofs.Common.{◌≡◌, ℕ, ◌≤◌, length}
use Rattle.std.specs.Str.{IsUtf8}
use Rattle.headers.specs.Subject.{base_from, base_of}
use Rattle.headers.proofs.subject.base_of.Given as goal

abbrev pub invariant-loop-rest : goal.invariant-loop-rest
invariant-loop-rest l = record {
  utf8 : IsUtf8 l.left;
  same : (n : ℕ) × (length l.left ≤ n) × (base_from n l.left ≡ base_of l.subject.items);
}

abbrev pub decreases-loop-rest : goal.decreases-loop-rest
decreases-loop-rest l = length l.left
