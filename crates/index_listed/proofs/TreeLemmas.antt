-- Nearest visible ancestors and columns do not depend on how many steps are allowed.
use Rattle.std.proofs.Common.{◌≡◌, ◌∙◌, ℕ, zero, suc, ◌+◌, ◌<◌, ◌≤◌}
use Rattle.std.proofs.Common.{◌++◌, ◌∷◌, [], ◌||◌, ◌&&◌, ◌==◌}
use Rattle.std.proofs.Common.{Bool, true, false, List, length, ap, arith, sym, refl, subst, nat_lt}
use Rattle.std.proofs.Common.{Option, Some, None, reverse, slice_index, slice_set, if◌then◌else◌}
use Rattle.std.proofs.Common.{⊎_elim}
use Rattle.std.proofs.lemmas.List.{get_or-set_same, get_or-set_other, length-set, reverse-append}
use Rattle.std.proofs.lemmas.Bool.{cases_Bool, eqb-true, eqb-false}
use Rattle.std.proofs.lemmas.Bool.Decides.{nat_tests}
use Rattle.index_listed.specs.Entries.{ParentsFirst, parent}
use Rattle.index_listed.specs.Tree.{AreLast, column, columns, columns_below, columns_in}
use Rattle.index_listed.specs.Tree.{hangs_below, has_later, is_above, nearest, nearest_in}
use Rattle.index_listed.specs.Tree.{visible_or, with_last}
use Rattle.index_listed.specs.Visibility.{is_visible}
use Rattle.index_listed.specs.declared.entry.Entry.{Entry}
use Rattle.index_listed.proofs.EntriesLemmas.{or_false, some_more}

is_some_as : (a b : ℕ) → Some a ≡ Some b → a ≡ b
is_some_as a b e = cc

never_some : {X : Type 0} (a : ℕ) → ◌≡◌ {A = Option ℕ} None (Some a) → X
never_some a e = cc

never_below : {X : Type 0} (p : ℕ) → p < 0 → X
never_below p lt = absurd (omega (arith, lt))

module _ (entries : List Entry) (first : ParentsFirst entries) where
  nearest_enough : (a b p : ℕ) → p < a → p < b → nearest_in entries a p ≡ nearest_in entries b p
  nearest_enough zero b p la lb = never_below p la
  nearest_enough (suc a) zero p la lb = never_below p lb
  nearest_enough (suc a) (suc b) p la lb = by (parent entries p) refl
      (λ q lt. nearest_enough a b q (omega (arith, lt, la)) (omega (arith, lt, lb)))
    where
      by : (o : Option ℕ) → parent entries p ≡ o
          → ((q : ℕ) → q < p → nearest_in entries a q ≡ nearest_in entries b q)
          → visible_or (is_visible entries) (nearest_in entries a) o
          ≡ visible_or (is_visible entries) (nearest_in entries b) o
      by None e more = refl
      by (Some q) e more =
          ap (λ r. if is_visible entries q then Some q else r) (more q (first p q e))

  pub nearest_step : (p : ℕ) → p < length entries
      → nearest entries p ≡ visible_or (is_visible entries) (nearest entries) (parent entries p)
  nearest_step p lt =
      nearest_enough (length entries) (suc (length entries)) p lt (omega (arith, lt))

  before_in : (n p a : ℕ) → nearest_in entries n p ≡ Some a → a < p
  before_in zero p a e = never_some a e
  before_in (suc n) p a e = by (parent entries p) refl (λ q. before_in n q a) e
    where
      by_test : (q : ℕ) → q < p → (v : Bool) → (nearest_in entries n q ≡ Some a → a < q)
          → (if v then Some q else nearest_in entries n q) ≡ Some a → a < p
      by_test q lt true more e = subst (λ k. k < p) (is_some_as q a e) lt
      by_test q lt false more e = let under : a < q = more e in omega (arith, lt, under)

      by : (o : Option ℕ) → parent entries p ≡ o
          → ((q : ℕ) → nearest_in entries n q ≡ Some a → a < q)
          → visible_or (is_visible entries) (nearest_in entries n) o ≡ Some a → a < p
      by None par more e = never_some a e
      by (Some q) par more e = by_test q (first p q par) (is_visible entries q) (more q) e

  pub nearest_before : (p a : ℕ) → nearest entries p ≡ Some a → a < p
  nearest_before p a e = before_in (length entries) p a e

  columns_enough : (a b p : ℕ) → p < a → p < b → columns_in entries a p ≡ columns_in entries b p
  columns_enough zero b p la lb = never_below p la
  columns_enough (suc a) zero p la lb = never_below p lb
  columns_enough (suc a) (suc b) p la lb = by (nearest entries p) refl
      (λ q lt. columns_enough a b q (omega (arith, lt, la)) (omega (arith, lt, lb)))
    where
      by : (o : Option ℕ) → nearest entries p ≡ o
          → ((q : ℕ) → q < p → columns_in entries a q ≡ columns_in entries b q)
          → columns_below (columns_in entries a) (λ above. has_later entries above p) o
          ≡ columns_below (columns_in entries b) (λ above. has_later entries above p) o
      by None e more = refl
      by (Some q) e more = ap (λ l. l ++ column (has_later entries q p))
          (more q (nearest_before p q e))

  columns_step : (p : ℕ) → p < length entries → columns entries p
      ≡ columns_below (columns entries) (λ above. has_later entries above p) (nearest entries p)
  columns_step p lt =
      columns_enough (length entries) (suc (length entries)) p lt (omega (arith, lt))

  pub columns_top : (p : ℕ) → p < length entries → nearest entries p ≡ None
      → columns entries p ≡ []
  columns_top p lt e = columns_step p lt
      ∙ ap (λ o. columns_below (columns entries) (λ above. has_later entries above p) o) e

  pub columns_up : (p a : ℕ) → p < length entries → nearest entries p ≡ Some a
      → reverse (columns entries p)
      ≡ reverse (column (has_later entries a p)) ++ reverse (columns entries a)
  columns_up p a lt e = ap reverse (columns_step p lt
      ∙ ap (λ o. columns_below (columns entries) (λ above. has_later entries above p) o) e)
      ∙ reverse-append (columns entries a) (column (has_later entries a p))

last_at : (last : List ℕ) (above n : ℕ) (o : Option ℕ) (v : Bool)
    → ((q : ℕ) → o ≡ Some q → q < length last)
    → slice_index (with_last last o v n) above
    ≡ (if v && is_above above o then n else slice_index last above)
last_at last above n None true within = refl
last_at last above n None false within = refl
last_at last above n (Some q) false within = refl
last_at last above n (Some q) true within = ⊎_elim same other (cases_Bool (q == above))
  where
    same : (q == above) ≡ true → slice_index (slice_set last q n) above
        ≡ (if q == above then n else slice_index last above)
    same e = ap (λ k. slice_index (slice_set last q n) k) (sym (eqb-true q above e))
        ∙ get_or-set_same last q n 0 (within q refl)
        ∙ ap (λ (b : Bool). if b then n else slice_index last above) (sym e)

    other : (q == above) ≡ false → slice_index (slice_set last q n) above
        ≡ (if q == above then n else slice_index last above)
    other e = get_or-set_other last q above n 0 (λ z. eqb-false q above e (sym z))
        ∙ ap (λ (b : Bool). if b then n else slice_index last above) (sym e)

later_joins : (p n old : ℕ) → old ≤ n → nat_lt p n ≡ nat_lt p old || nat_lt p n
later_joins p n old le = grind (arith, nat_tests)

and_true : (b : Bool) → b ≡ b && true
and_true true = refl
and_true false = refl

and_false : (b : Bool) → false ≡ b && false
and_false true = refl
and_false false = refl

later_at : (p n old : ℕ) (b : Bool) → old ≤ n
    → nat_lt p (if b then n else old) ≡ nat_lt p old || (nat_lt p n && b)
later_at p n old true le =
    later_joins p n old le ∙ ap (λ c. nat_lt p old || c) (and_true (nat_lt p n))
later_at p n old false le =
    or_false (nat_lt p old) ∙ ap (λ c. nat_lt p old || c) (and_false (nat_lt p n))

at_most : (n old : ℕ) (b : Bool) → old ≤ n → (if b then n else old) ≤ n + 1
at_most n old true le = omega arith
at_most n old false le = omega (arith, le)

long_by : (last : List ℕ) (n : ℕ) (o : Option ℕ) (v : Bool)
    → length (with_last last o v n) ≡ length last
long_by last n None v = refl
long_by last n (Some q) true = length-set last q n
long_by last n (Some q) false = refl

pub last_next : (entries : List Entry) (n : ℕ) (last : List ℕ) → ParentsFirst entries
    → n < length entries → AreLast entries n last
    → AreLast entries (n + 1) (with_last last (nearest entries n) (is_visible entries n) n)
last_next entries n last first lt old = record {
  long = long_by last n (nearest entries n) (is_visible entries n) ∙ old.long;
  below = λ above within. subst (λ k. k ≤ n + 1) (sym (value above))
      (at_most n (slice_index last above) (hangs_below entries above n)
      (old.below above within));
  later = λ above p within. ap (λ k. nat_lt p k) (value above)
      ∙ later_at p n (slice_index last above) (hangs_below entries above n)
      (old.below above within)
      ∙ ap (λ b. b || (nat_lt p n && hangs_below entries above n))
      (old.later above p within)
      ∙ sym (some_more (λ q. nat_lt p q && hangs_below entries above q) n);
}
  where
    inside : (q : ℕ) → nearest entries n ≡ Some q → q < length last
    inside q e = let under : q < n = nearest_before entries first n q e in
        subst (λ k. q < k) (sym old.long) (omega (arith, lt, under))

    value : (above : ℕ)
        → slice_index (with_last last (nearest entries n) (is_visible entries n) n) above
        ≡ (if hangs_below entries above n then n else slice_index last above)
    value above = last_at last above n (nearest entries n) (is_visible entries n) inside

pub visible_or_same : (f g : ℕ → Bool) (h k : ℕ → Option ℕ) (o : Option ℕ)
    → ((q : ℕ) → o ≡ Some q → f q ≡ g q) → ((q : ℕ) → o ≡ Some q → h q ≡ k q)
    → visible_or f h o ≡ visible_or g k o
visible_or_same f g h k None d e = refl
visible_or_same f g h k (Some q) d e = ap (λ (b : Bool). if b then Some q else h q) (d q refl)
    ∙ ap (λ r. if g q then Some q else r) (e q refl)

pub join_again : (xs ys zs : List ℕ) → (xs ++ ys) ++ zs ≡ xs ++ (ys ++ zs)
join_again [] ys zs = refl
join_again (x ∷ xs) ys zs = ap (λ l. x ∷ l) (join_again xs ys zs)
