-- Numbers stay apart, and what holds of each stays so, when some go or all are moved.
use Rattle.std.proofs.Common.{◌≡◌, ◌∙◌, ◌⊎◌, ◌++◌, ◌∷◌, [], ℕ, Bool, true, false, List, ap, inl}
use Rattle.std.proofs.Common.{append-nil, append_assoc, inr, map, nat_eq, refl, subst, sym, ⊎_elim}
use Rattle.std.proofs.lemmas.List.{map-append}
use Rattle.std.proofs.lemmas.List.Elements.{All-from_recursion, recursion_from_All}
use Rattle.std.proofs.lemmas.List.Sorted.{All-permutation}
use Rattle.std.proofs.lemmas.Map.Keys.{IsDistinct-IsPermutation}
use Rattle.std.specs.Cmp.{nat_eq_equiv}
use Rattle.std.specs.List.{AllByRecursion, IsDistinct, filter, flat_map}
use Rattle.std.specs.List.Sorted.{IsPermutation}
use Rattle.std.specs.Prelude.{if◌then◌else◌}

-- ---- moved

pub distinct_moved : (xs ys : List ℕ) → IsPermutation xs ys → IsDistinct nat_eq xs
    → IsDistinct nat_eq ys
distinct_moved = IsDistinct-IsPermutation nat_eq nat_eq_equiv.symm

pub all_moved : (P : ℕ → Type 0) (xs ys : List ℕ) → IsPermutation xs ys → AllByRecursion P xs
    → AllByRecursion P ys
all_moved P xs ys moved all = recursion_from_All P ys
    (All-permutation P xs ys moved (All-from_recursion P xs all))

-- ---- the front and the back

pub all_front : (P : ℕ → Type 0) (xs ys : List ℕ) → AllByRecursion P (xs ++ ys)
    → AllByRecursion P xs
all_front P [] ys all = tt
all_front P (x ∷ xs) ys all = (all.0, all_front P xs ys all.1)

pub all_both : (P : ℕ → Type 0) (xs ys : List ℕ) → AllByRecursion P xs → AllByRecursion P ys
    → AllByRecursion P (xs ++ ys)
all_both P [] ys one other = other
all_both P (x ∷ xs) ys one other = (one.0, all_both P xs ys one.1 other)

pub distinct_front : (xs ys : List ℕ) → IsDistinct nat_eq (xs ++ ys) → IsDistinct nat_eq xs
unfolding IsDistinct
distinct_front [] ys apart = tt
distinct_front (x ∷ xs) ys apart =
    (all_front (λ y. nat_eq x y ≡ false) xs ys apart.0, distinct_front xs ys apart.1)

pub distinct_back : (xs ys : List ℕ) → IsDistinct nat_eq (xs ++ ys) → IsDistinct nat_eq ys
unfolding IsDistinct
distinct_back [] ys apart = apart
distinct_back (x ∷ xs) ys apart = distinct_back xs ys apart.1

-- ---- each left or gone

-- things that bear the number of one, once or not at all
abbrev pub OneOrNone : {A : Type 0} → (A → ℕ) → A → List A → Type 0
OneOrNone g x ys = (map g ys ≡ []) ⊎ (map g ys ≡ g x ∷ [])

without_rest : (Q : List ℕ → Type 0) (xs ys : List ℕ) → (Q (xs ++ []) → Q (ys ++ []))
    → Q xs → Q ys
without_rest Q xs ys keeps holds =
    subst Q (append-nil ys) (keeps (subst Q (sym (append-nil xs)) holds))

module _ {A : Type 0} (g : A → ℕ) (f : A → List A) (each : (x : A) → OneOrNone g x (f x)) where
  abbrev left : List A → List ℕ → List ℕ
  left xs rest = map g (flat_map f xs) ++ rest

  front_is : (x : A) (xs : List A) (rest front : List ℕ) → map g (f x) ≡ front
      → front ++ left xs rest ≡ left (x ∷ xs) rest
  front_is x xs rest front is =
      ap (λ l. l ++ left xs rest) (sym is)
      ∙ sym (append_assoc (map g (f x)) (map g (flat_map f xs)) rest)
      ∙ ap (λ l. l ++ rest) (sym (map-append g (f x) (flat_map f xs)))

  one_left : (Q : List ℕ → Type 0) (x : A) (xs : List A) (rest : List ℕ) → Q (left xs rest)
      → Q (g x ∷ left xs rest) → Q (left (x ∷ xs) rest)
  one_left Q x xs rest gone kept = ⊎_elim
      (λ is. subst Q (front_is x xs rest [] is) gone)
      (λ is. subst Q (front_is x xs rest (g x ∷ []) is) kept)
      (each x)

  all_left_before : (P : ℕ → Type 0) (xs : List A) (rest : List ℕ)
      → AllByRecursion P (map g xs ++ rest) → AllByRecursion P (left xs rest)
  all_left_before P [] rest all = all
  all_left_before P (x ∷ xs) rest all =
      let more = all_left_before P xs rest all.1 in
      one_left (AllByRecursion P) x xs rest more (all.0, more)

  pub distinct_left : (xs : List A) (rest : List ℕ) → IsDistinct nat_eq (map g xs ++ rest)
      → IsDistinct nat_eq (map g (flat_map f xs) ++ rest)
  unfolding IsDistinct
  distinct_left [] rest apart = apart
  distinct_left (x ∷ xs) rest apart =
      let more = distinct_left xs rest apart.1 in
      one_left (IsDistinct nat_eq) x xs rest more
      (all_left_before (λ y. nat_eq (g x) y ≡ false) xs rest apart.0, more)

  pub distinct_left_alone : (xs : List A) → IsDistinct nat_eq (map g xs)
      → IsDistinct nat_eq (map g (flat_map f xs))
  distinct_left_alone xs = without_rest (IsDistinct nat_eq) (map g xs) (map g (flat_map f xs))
      (distinct_left xs [])

pub all_left : {A : Type 0} (P : ℕ → Type 0) (g : A → ℕ) (f : A → List A)
    → ((x : A) → OneOrNone g x (f x)) → (xs : List A) → AllByRecursion P (map g xs)
    → AllByRecursion P (map g (flat_map f xs))
all_left P g f each xs = without_rest (AllByRecursion P) (map g xs) (map g (flat_map f xs))
    (all_left_before g f each P xs [])

-- ---- filtered

module _ {A : Type 0} (g : A → ℕ) (p : A → Bool) where
  abbrev kept : Bool → A → List A
  kept b x = if b then x ∷ [] else []

  kept_each : (b : Bool) (x : A) → OneOrNone g x (kept b x)
  kept_each true x = inr refl
  kept_each false x = inl refl

  kept_first : (b : Bool) (x : A) (xs ys : List A) → xs ≡ ys
      → kept b x ++ xs ≡ (if b then x ∷ ys else ys)
  kept_first true x xs ys same = ap (λ l. x ∷ l) same
  kept_first false x xs ys same = same

  filter_is : (xs : List A) → flat_map (λ x. kept (p x) x) xs ≡ filter p xs
  filter_is [] = refl
  filter_is (x ∷ xs) = kept_first (p x) x _ _ (filter_is xs)

  pub distinct_filtered : (xs : List A) → IsDistinct nat_eq (map g xs)
      → IsDistinct nat_eq (map g (filter p xs))
  distinct_filtered xs apart = subst (λ l. IsDistinct nat_eq (map g l)) (filter_is xs)
      (distinct_left_alone g (λ x. kept (p x) x) (λ x. kept_each (p x) x) xs apart)
