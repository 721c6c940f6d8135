-- The greatest of a tree is greatest.
use Rattle.std.proofs.Common.{◌≡◌, ◌∙◌, ℕ, zero, suc, ◌+◌, ◌<◌, ◌≤◌, ◌∷◌, [], Bool, true, false}
use Rattle.std.proofs.Common.{List, length, Option, Some, None, ap, arith, sym, refl, subst, ◌⊎◌}
use Rattle.std.proofs.Common.{inl, inr, ⊎_elim, is_gt, if◌then◌else◌}
use Rattle.std.proofs.lemmas.Bool.{cases_lt, false≢true}
use Rattle.std.specs.Cmp.{IsStrictWeakOrder, tied_itself}
use Rattle.std.specs.List.{range_with_len}
use Rattle.std.specs.Option.{option_or}
use Rattle.std.specs.Ordering.{is_lt, nat_cmp, ordering_reverse, ordering_then}
use Rattle.std.specs.declared.cmp.Ordering.{Ordering}
use Rattle.std.specs.declared.cmp.Ordering.TheVariants.{Less, Equal, Greater}
use Rattle.mail_base.specs.Ordered.{in_order_by, put_by}
use Rattle.index_order.specs.Keys.{at, key_cmp}
use Rattle.index_order.specs.Laws.{GreatestIsGreatest}
use Rattle.index_order.specs.Order.{is_before, last_where, leads_to, sorted}
use Rattle.index_order.proofs.SortedLemmas.{places_total}
use Rattle.index_order.proofs.TotalLemmas.{key_total, weak}

-- a place is one of a list
abbrev Among : ℕ → List ℕ → Type 0
Among p [] = ⊥
Among p (x ∷ xs) = (x ≡ p) ⊎ Among p xs

-- an order is kept where the elements of a list are put into it one by one
module _ (before : ℕ → ℕ → Bool) where
  put_first : (p x : ℕ) (ys : List ℕ) → x ≡ p → Among p (put_by before x ys)
  put_first p x [] e = inl e
  put_first p x (y ∷ ys) e = by_test (before y x) (put_first p x ys e)
    where
      by_test : (b : Bool) → Among p (put_by before x ys)
          → Among p (if b then y ∷ put_by before x ys else x ∷ y ∷ ys)
      by_test true more = inr more
      by_test false more = inl e

  put_other : (p x : ℕ) (ys : List ℕ) → Among p ys → Among p (put_by before x ys)
  put_other p x [] among = absurd among
  put_other p x (y ∷ ys) (inl e) = by_test (before y x)
    where
      by_test : (b : Bool) → Among p (if b then y ∷ put_by before x ys else x ∷ y ∷ ys)
      by_test true = inl e
      by_test false = inr (inl e)
  put_other p x (y ∷ ys) (inr among) = by_test (before y x) (put_other p x ys among)
    where
      by_test : (b : Bool) → Among p (put_by before x ys)
          → Among p (if b then y ∷ put_by before x ys else x ∷ y ∷ ys)
      by_test true more = inr more
      by_test false more = inr (inr among)

  in_order_among : (p : ℕ) (xs : List ℕ) → Among p xs → Among p (in_order_by before xs)
  in_order_among p [] among = absurd among
  in_order_among p (x ∷ xs) (inl e) = put_first p x (in_order_by before xs) e
  in_order_among p (x ∷ xs) (inr among) =
      put_other p x (in_order_by before xs) (in_order_among p xs among)

among_range : (a n p : ℕ) → a ≤ p → p < a + n → Among p (range_with_len a n)
among_range a zero p low high = absurd (omega arith)
among_range a (suc n) p low high = ⊎_elim
    (λ lt. inr (among_range (a + 1) n p (omega arith) (omega arith)))
    (λ le. inl (omega arith))
    (cases_lt a p)

last_passes : (passes : ℕ → Bool) (xs : List ℕ) (g : ℕ) → last_where passes xs ≡ Some g
    → passes g ≡ true
last_passes passes [] g e = absurd (cc)
last_passes passes (x ∷ xs) g e = by_last (last_where passes xs) (passes x) refl
    (last_passes passes xs) e
  where
    by_last : (o : Option ℕ) (b : Bool) → passes x ≡ b → ((h : ℕ) → o ≡ Some h → passes h ≡ true)
        → option_or o (if b then Some x else None) ≡ Some g → passes g ≡ true
    by_last (Some h) b own again is = again g is
    by_last None true own again is =
        let same : x ≡ g = cc in subst (λ (k : ℕ). passes k ≡ true) same own
    by_last None false own again is = absurd (cc)

-- no place comes before one that stands in front of it
abbrev InOrder : (ℕ → ℕ → Bool) → List ℕ → Type 0
InOrder before [] = Unit {0}
InOrder before (x ∷ xs) = ((p : ℕ) → Among p xs → before p x ≡ false) × InOrder before xs

module _ (before : ℕ → ℕ → Bool) (o : IsStrictWeakOrder before)
    (never : (x : ℕ) → before x x ≡ false) where
  was_put : (p x : ℕ) (ys : List ℕ) → Among p (put_by before x ys) → (x ≡ p) ⊎ Among p ys
  was_put p x [] (inl e) = inl e
  was_put p x [] (inr among) = absurd among
  was_put p x (y ∷ ys) among = by_test (before y x) (was_put p x ys) among
    where
      by_test : (b : Bool) → (Among p (put_by before x ys) → (x ≡ p) ⊎ Among p ys)
          → Among p (if b then y ∷ put_by before x ys else x ∷ y ∷ ys)
          → (x ≡ p) ⊎ Among p (y ∷ ys)
      by_test true again (inl e) = inr (inl e)
      by_test true again (inr more) = ⊎_elim (λ e. inl e) (λ m. inr (inr m)) (again more)
      by_test false again (inl e) = inl e
      by_test false again (inr more) = inr more

  put_in_order : (x : ℕ) (ys : List ℕ) → InOrder before ys → InOrder before (put_by before x ys)
  put_in_order x [] falls = ((λ p among. absurd among), tt)
  put_in_order x (y ∷ ys) falls =
      by_test (before y x) refl (put_in_order x ys falls.1)
    where
      by_test : (b : Bool) → before y x ≡ b → InOrder before (put_by before x ys)
          → InOrder before (if b then y ∷ put_by before x ys else x ∷ y ∷ ys)
      by_test true is more = (
        (λ p among. ⊎_elim
            (λ e. subst (λ (k : ℕ). before k y ≡ false) e (o.one_way y x is))
            (falls.0 p) (was_put p x ys among)),
        more,
      )
      by_test false is more = (
        (λ p among. ⊎_elim
            (λ e. subst (λ (k : ℕ). before k x ≡ false) e is)
            (λ m. o.chain p y x (falls.0 p m) is) among),
        falls,
      )

  all_in_order : (xs : List ℕ) → InOrder before (in_order_by before xs)
  all_in_order [] = tt
  all_in_order (x ∷ xs) = put_in_order x (in_order_by before xs) (all_in_order xs)

  last_among : (passes : ℕ → Bool) (xs : List ℕ) (g : ℕ) → last_where passes xs ≡ Some g
      → Among g xs
  last_among passes [] g e = absurd (cc)
  last_among passes (x ∷ xs) g e = by_last (last_where passes xs) (passes x)
      (last_among passes xs) e
    where
      by_last : (o : Option ℕ) (b : Bool) → ((h : ℕ) → o ≡ Some h → Among h xs)
          → option_or o (if b then Some x else None) ≡ Some g → Among g (x ∷ xs)
      by_last (Some h) b again is = inr (again g is)
      by_last None true again is = let same : x ≡ g = cc in inl same
      by_last None false again is = absurd (cc)

  -- the last that passes comes before no other that does
  last_is : (passes : ℕ → Bool) (xs : List ℕ) → InOrder before xs → (p : ℕ) → Among p xs
      → passes p ≡ true → (g : ℕ) × (last_where passes xs ≡ Some g) × (before g p ≡ false)
  last_is passes [] falls p among own = absurd among
  last_is passes (x ∷ xs) falls p (inl e) own =
      by_last (last_where passes xs) (last_among passes xs)
    where
      by_last : (o : Option ℕ) → ((h : ℕ) → o ≡ Some h → Among h xs)
          → (g : ℕ) × (option_or o (if passes x then Some x else None) ≡ Some g)
          × (before g p ≡ false)
      by_last (Some h) among =
          (h, refl, subst (λ (k : ℕ). before h k ≡ false) e (falls.0 h (among h refl)))
      by_last None among = (
        x,
        ap (λ (b : Bool). if b then Some x else None)
            (subst (λ (k : ℕ). passes k ≡ true) (sym e) own),
        subst (λ (k : ℕ). before x k ≡ false) e (never x),
      )
  last_is passes (x ∷ xs) falls p (inr among) own =
      let found = last_is passes xs falls.1 p among own in (
        found.0,
        ap (λ (o : Option ℕ). option_or o (if passes x then Some x else None)) found.1,
        found.2,
      )

not_less : (r s : Ordering) → is_lt (ordering_then r s) ≡ false → is_gt (ordering_reverse r) ≡ false
not_less Less s e = absurd (false≢true (sym e))
not_less Equal s e = refl
not_less Greater s e = refl

pub greatest_is : GreatestIsGreatest
greatest_is sort keys parent top p lt own =
    let before = is_before false sort keys in
    let o = places_total false sort keys in
    let passes = leads_to parent (length keys) top in
    let found = last_is before (weak o) (λ x. ap is_lt (tied_itself o x)) passes
    (sorted false sort keys) (all_in_order before (weak o) (λ x. ap is_lt (tied_itself o x))
    (range_with_len 0 (length keys))) p
    (in_order_among before p (range_with_len 0 (length keys))
    (among_range 0 (length keys) p (omega arith) (omega arith))) own in (
      found.0,
      found.1,
      last_passes passes (sorted false sort keys) found.0 found.1,
      ap is_gt ((key_total sort).antisymm (at keys p) (at keys found.0))
          ∙ not_less (key_cmp sort (at keys found.0) (at keys p)) (nat_cmp found.0 p) found.2,
    )
