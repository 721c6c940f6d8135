-- Listing order and the order by date are orders.
use Rattle.std.proofs.Common.{◌≡◌, ◌∙◌, ℕ, zero, suc, ◌+◌, ◌<◌, true, false, List, []}
use Rattle.std.proofs.Common.{◌∷◌, length, Some}
use Rattle.std.proofs.Common.{refl, sym, ap, subst, ⊎_elim, arith, nat_eq}
use Rattle.std.proofs.Common.{eq-eqb, slice_get, slice_index}
use Rattle.std.proofs.lemmas.Bool.{cases_lt, false_from_ne_true, false≢true}
use Rattle.std.proofs.lemmas.Cmp.{nat_cmp_total, int_cmp_total, on_total, then_total}
use Rattle.std.proofs.lemmas.Cmp.{nat_list_cmp_total}
use Rattle.std.proofs.lemmas.List.{get_or-map, length-map}
use Rattle.std.proofs.lemmas.Map.Keys.{apart_from_distinct}
use Rattle.std.specs.Cmp.{IsTotalOrder, tied_itself, ranks}
use Rattle.std.specs.List.{IsDistinct}
use Rattle.std.specs.Ordering.{MatchOrdering, is_lt, ordering_then, ordering_reverse}
use Rattle.std.specs.Ordering.{nat_cmp}
use Rattle.std.specs.declared.cmp.Ordering.{Ordering}
use Rattle.std.specs.declared.cmp.Ordering.TheVariants.{Less, Equal, Greater}
use Rattle.mail_base.specs.declared.kind.Id.{Id}
use Rattle.threads.specs.Message.{PlainMessage, at, is_listed_before, listing_cmp, no_message}
use Rattle.threads.specs.Message.{numbers, sent_cmp}
use Rattle.threads.specs.Walk.{Each, IsOrder}

pub listing_total : IsTotalOrder listing_cmp
listing_total = then_total (then_total (on_total (λ (m : PlainMessage). m.order) nat_cmp_total)
    (on_total (λ (m : PlainMessage). m.key) nat_list_cmp_total))
    (on_total (λ (m : PlainMessage). m.id.0) nat_cmp_total)

pub sent_total : IsTotalOrder sent_cmp
sent_total = then_total (on_total (λ (m : PlainMessage). m.sent) int_cmp_total) listing_total

less_from : (r : Ordering) → is_lt r ≡ true → r ≡ Less
less_from Less e = refl
less_from Equal e = absurd (false≢true e)
less_from Greater e = absurd (false≢true e)

module _ {X : Type 0} {R : X → X → Ordering} (o : IsTotalOrder R) where
  pub never_before : (a : X) → is_lt (R a a) ≡ false
  never_before a = ap is_lt (tied_itself o a)

  pub chain_before : (a b c : X) → is_lt (R a b) ≡ true → is_lt (R b c) ≡ true
      → is_lt (R a c) ≡ true
  chain_before a b c p q = ap is_lt (o.trans a b c (less_from (R a b) p) (less_from (R b c) q))

  turned_by : (r s : Ordering) → r ≡ ordering_reverse s → is_lt r ≡ false → (r ≡ Equal → ⊥)
      → is_lt s ≡ true
  turned_by Less s e n ne = absurd (false≢true (sym n))
  turned_by Equal s e n ne = absurd (ne refl)
  turned_by Greater Less e n ne = refl
  turned_by Greater Equal e n ne = cc
  turned_by Greater Greater e n ne = cc

  pub turned_before : (a b : X) → is_lt (R a b) ≡ false → (R a b ≡ Equal → ⊥) → is_lt (R b a) ≡ true
  turned_before a b = turned_by (R a b) (R b a) (o.antisymm a b)

second_equal : (r s : Ordering) → ordering_then r s ≡ Equal → s ≡ Equal
second_equal Less s e = cc
second_equal Equal s e = e
second_equal Greater s e = cc

equal_numbers : (i j : ℕ) → nat_cmp i j ≡ Equal → i ≡ j
equal_numbers i j e = subst (λ r. MatchOrdering r (i < j) (i ≡ j) (j < i)) e (ranks i j)

-- messages that are told apart have places that are
apart : (messages : List PlainMessage) → IsDistinct nat_eq (numbers messages) → (a b : ℕ) → a < b
    → b < length messages → (at messages a).id.0 ≡ (at messages b).id.0 → ⊥
apart messages distinct a b lt within e =
    let there : b < length (numbers messages) = subst (λ n. b < n) (sym (length-map messages
    (λ m. m.id.0))) within in
    let differ = apart_from_distinct nat_eq (numbers messages) a b 0 distinct lt there in
    let one = get_or-map (λ (m : PlainMessage). m.id.0) messages a no_message 0 (omega arith) in
    let other = get_or-map (λ (m : PlainMessage). m.id.0) messages b no_message 0 within in
    false≢true (sym differ ∙ eq-eqb _ _ (one ∙ e ∙ sym other))

-- messages with the same id are the same
pub same_id : (messages : List PlainMessage) → IsDistinct nat_eq (numbers messages) → (a b : ℕ)
    → a < length messages → b < length messages → (at messages a).id ≡ (at messages b).id → a ≡ b
same_id messages distinct a b one other e = ⊎_elim
    (λ lt. absurd (apart messages distinct a b lt other (ap (λ (i : Id). i.0) e)))
    (λ le. ⊎_elim
    (λ lt. absurd (apart messages distinct b a lt one (ap (λ (i : Id). i.0) (sym e))))
    (λ ge. omega arith)
    (cases_lt b a))
    (cases_lt a b)

pub listing_order : (messages : List PlainMessage) → IsDistinct nat_eq (numbers messages)
    → IsOrder (is_listed_before messages) (length messages)
listing_order messages distinct = record {
  never = λ a. never_before listing_total (at messages a);
  chain = λ a b c. chain_before listing_total (at messages a) (at messages b) (at messages c);
  total = λ a b within there ne e. turned_before listing_total (at messages a) (at messages b) e
      (λ tied.
      let same = equal_numbers _ _ (second_equal _ _ tied) in
      ⊎_elim (λ lt. apart messages distinct a b lt there same)
      (λ le. apart messages distinct b a (omega arith) within (sym same))
      (cases_lt a b));
}

-- what is not before a place is not before one that is before it
pub not_before : (messages : List PlainMessage) (x first next : ℕ)
    → is_listed_before messages x first ≡ false → is_listed_before messages next first ≡ true
    → is_listed_before messages x next ≡ false
not_before messages x first next late early = false_from_ne_true (is_listed_before messages x next)
    (λ e. false≢true (sym late ∙ chain_before listing_total (at messages x) (at messages next)
    (at messages first) e early))

-- the step of a search for the first
pub first_step : (messages : List PlainMessage) (places : List ℕ) (n first : ℕ) → n < length places
    → is_listed_before messages (slice_index places n) first ≡ true
    → ((i : ℕ) → i < n → is_listed_before messages (slice_index places i) first ≡ false)
    → (i : ℕ) → i < n + 1 → is_listed_before messages (slice_index places i)
    (slice_index places n) ≡ false
first_step messages places n first within early before i lt = ⊎_elim
    (λ low. not_before messages (slice_index places i) first (slice_index places n)
    (before i low) early)
    (λ high. ap (λ k. is_listed_before messages (slice_index places k) (slice_index places n))
    (omega arith)
    ∙ never_before listing_total (at messages (slice_index places n)))
    (cases_lt i n)

pub first_kept : (messages : List PlainMessage) (places : List ℕ) (n first : ℕ)
    → is_listed_before messages (slice_index places n) first ≡ false
    → ((i : ℕ) → i < n → is_listed_before messages (slice_index places i) first ≡ false)
    → (i : ℕ) → i < n + 1 → is_listed_before messages (slice_index places i) first ≡ false
first_kept messages places n first late before i lt = ⊎_elim (before i)
    (λ high. ap (λ k. is_listed_before messages (slice_index places k) first) (omega arith) ∙ late)
    (cases_lt i n)

pub slice_get-index : (xs : List ℕ) (i : ℕ) → i < length xs
    → slice_get xs i ≡ Some (slice_index xs i)
slice_get-index [] i lt = absurd (omega arith)
slice_get-index (x ∷ xs) zero lt = refl
slice_get-index (x ∷ xs) (suc i) lt = slice_get-index xs i (omega arith)

pub Each-at : (P : ℕ → Type 0) (xs : List ℕ) (i : ℕ) → Each P xs → i < length xs
    → P (slice_index xs i)
Each-at P [] i e lt = absurd (omega arith)
Each-at P (x ∷ xs) zero e lt = e.0
Each-at P (x ∷ xs) (suc i) e lt = Each-at P xs i e.1 (omega arith)
