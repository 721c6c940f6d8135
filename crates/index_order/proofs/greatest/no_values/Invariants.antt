use Rattle.std.proofs.Common.{◌≡◌, None, Option, replicate, ℕ}
use Rattle.index_order.proofs.greatest.no_values.Given as goal

abbrev pub invariant-loop : goal.invariant-loop
invariant-loop l = l.values.items ≡ replicate {A = Option ℕ} l.counter None
