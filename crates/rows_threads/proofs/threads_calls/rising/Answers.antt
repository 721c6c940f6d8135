use Rattle.std.proofs.Common.{◌≡◌, ℕ, false, nat_lt, arith, rules}
use Rattle.std.proofs.lemmas.Bool.Decides.{nat_tests}
use Rattle.std.proofs.lemmas.List.Sorted.{IsStrictWeakOrder-by_number}
use Rattle.mail_base.specs.declared.kind.Id.{Id}
use Rattle.threads.specs.Order.{IsStrictOrder}
use Rattle.rows_threads.proofs.threads_calls.rising.Goals as goal

by_number : IsStrictOrder (λ a b. nat_lt a.0 b.0)
by_number = record {
  order = IsStrictWeakOrder-by_number (λ (id : Id). id.0);
  total = λ a b one other.
      let same = number a.0 b.0 one other in λ i. record { 0 = same i };
}
  where
    number : (a b : ℕ) → nat_lt a b ≡ false → nat_lt b a ≡ false → a ≡ b
    number a b one other = grind (arith, nat_tests)

pub returns : goal.returns
returns c = c.order_from.ensures.order (λ a b. nat_lt a.0 b.0) by_number
    (λ a b r low high says. let met = says.met in search rules)
