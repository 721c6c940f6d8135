use Rattle.std.proofs.Common.{◌≡◌, List, ℕ, [], replicate}
use Rattle.threads.specs.Families.{lists}
use Rattle.threads.proofs.order.empty_lists.Given as goal

abbrev pub invariant-loop : goal.invariant-loop
invariant-loop l = lists l.lists.items ≡ replicate {A = List ℕ} l.counter []
