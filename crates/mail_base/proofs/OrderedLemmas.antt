-- Lists in order: a sorted list is the one that puts each element before the first that does not
-- stand before it.
use Rattle.std.proofs.Common.{◌≡◌, ◌+◌, ◌<◌, ◌⊎◌, inl, inr, ℕ, zero, suc, Bool, true, false, List}
use Rattle.std.proofs.Common.{[], ◌∷◌, length, refl, sym}
use Rattle.std.proofs.Common.{◌∙◌, ap, subst, arith, if◌then◌else◌, slice_index_or, slice_set}
use Rattle.std.proofs.lemmas.List.Sorted.{IsPermutation-keeps}
use Rattle.std.specs.Cmp.{IsStrictWeakOrder}
use Rattle.std.specs.Cmp.Lexicographic.{slice_cmp}
use Rattle.std.specs.FinMap.{nat_cmp-IsAntisymmetric, slice_cmp-IsAntisymmetric}
use Rattle.std.specs.List.{swap}
use Rattle.std.specs.List.Sorted.{IsPermutation, IsSortedBy}
use Rattle.std.specs.Ordering.{nat_cmp, ordering_then}
use Rattle.std.specs.declared.cmp.Ordering.{Ordering}
use Rattle.std.specs.declared.cmp.Ordering.TheVariants.{Less, Equal, Greater}
use Rattle.mail_base.specs.Ordered.{IsIn, in_order_by, put_by}

true_false : ◌≡◌ {A = Bool} true false → ⊥
true_false e = cc

-- Lists in the order of a test.

-- no element stands before the one in front of it
abbrev pub NeverFalls : {X : Type 0} → (X → X → Bool) → List X → Type 0
NeverFalls before [] = Unit {0}
NeverFalls before (x ∷ []) = Unit {0}
NeverFalls before (x ∷ y ∷ xs) = (before y x ≡ false) × NeverFalls before (y ∷ xs)

pub sorted_falls : {X : Type 0} (before : X → X → Bool) (xs : List X) → IsSortedBy before xs
    → NeverFalls before xs
sorted_falls before [] sorted = tt
sorted_falls before (x ∷ []) sorted = tt
sorted_falls before (x ∷ y ∷ xs) sorted = (
  sorted 0 x (omega arith) (omega arith),
  sorted_falls before (y ∷ xs) (λ k d low high.
      let same : suc k + 1 ≡ suc (k + 1) = omega arith in
      subst (λ (n : ℕ). before (slice_index_or (x ∷ y ∷ xs) n d)
      (slice_index_or (y ∷ xs) k d) ≡ false) same
      (sorted (suc k) d (omega arith) (omega arith))),
)

-- such a list is in order already
pub in_order_same : {X : Type 0} (before : X → X → Bool) (xs : List X) → NeverFalls before xs
    → in_order_by before xs ≡ xs
in_order_same before [] falls = refl
in_order_same before (x ∷ []) falls = refl
in_order_same before (x ∷ y ∷ xs) falls =
    ap (put_by before x) (in_order_same before (y ∷ xs) falls.1)
    ∙ ap (λ (b : Bool). if b then y ∷ put_by before x xs else x ∷ y ∷ xs) falls.0

module _ {X : Type 0} (before : X → X → Bool) (o : IsStrictWeakOrder before)
    (same : (x y : X) → before x y ≡ false → before y x ≡ false → x ≡ y) where
  between : (x y z : X) → before z x ≡ true → before z y ≡ false → before y x ≡ true
  between x y z less above = by_test (before y x) refl
    where
      by_test : (b : Bool) → before y x ≡ b → before y x ≡ true
      by_test true is = is
      by_test false is = absurd (true_false (sym less ∙ o.chain z y x above is))

  first_two : (x y : X) (rest : List X) → (if before y x then y ∷ x ∷ rest else x ∷ y ∷ rest)
      ≡ (if before x y then x ∷ y ∷ rest else y ∷ x ∷ rest)
  first_two x y rest = by_tests (before y x) (before x y) refl refl
    where
      by_tests : (p q : Bool) → before y x ≡ p → before x y ≡ q
          → (if p then y ∷ x ∷ rest else x ∷ y ∷ rest) ≡ (if q then x ∷ y ∷ rest else y ∷ x ∷ rest)
      by_tests true true p q = absurd (true_false (sym q ∙ o.one_way y x p))
      by_tests true false p q = refl
      by_tests false true p q = refl
      by_tests false false p q = let e : x ≡ y = same x y q p in cc

  -- two elements may be put in either order
  pub put_put : (x y : X) (xs : List X)
      → put_by before x (put_by before y xs) ≡ put_by before y (put_by before x xs)
  put_put x y [] = first_two x y []
  put_put x y (z ∷ xs) = by_tests (before z x) (before z y) refl refl (put_put x y xs)
    where
      at_first : (w : X) (b : Bool) (tail : List X) → before z w ≡ b
          → put_by before w (z ∷ tail) ≡ (if b then z ∷ put_by before w tail else w ∷ z ∷ tail)
      at_first w b tail is = ap (λ (t : Bool). if t then z ∷ put_by before w tail else w ∷ z ∷ tail)
          is

      at_other : (w v : X) (b : Bool) (tail : List X) → before v w ≡ b
          → put_by before w (v ∷ tail) ≡ (if b then v ∷ put_by before w tail else w ∷ v ∷ tail)
      at_other w v b tail is = ap
          (λ (t : Bool). if t then v ∷ put_by before w tail else w ∷ v ∷ tail) is

      by_tests : (p q : Bool) → before z x ≡ p → before z y ≡ q
          → put_by before x (put_by before y xs) ≡ put_by before y (put_by before x xs)
          → put_by before x (if q then z ∷ put_by before y xs else y ∷ z ∷ xs)
          ≡ put_by before y (if p then z ∷ put_by before x xs else x ∷ z ∷ xs)
      by_tests true true p q again =
          at_first x true (put_by before y xs) p ∙ ap (λ (l : List X). z ∷ l) again
          ∙ sym (at_first y true (put_by before x xs) q)
      by_tests true false p q again =
          at_other x y true (z ∷ xs) (between x y z p q)
          ∙ ap (λ (l : List X). y ∷ l) (at_first x true xs p)
          ∙ sym (at_first y false (put_by before x xs) q)
      by_tests false true p q again =
          at_first x false (put_by before y xs) p
          ∙ sym (at_other y x true (z ∷ xs) (between y x z q p)
          ∙ ap (λ (l : List X). x ∷ l) (at_first y true xs q))
      by_tests false false p q again =
          ap (λ (l : List X). if before y x then y ∷ l else x ∷ y ∷ z ∷ xs) (at_first x false xs p)
          ∙ first_two x y (z ∷ xs)
          ∙ sym (ap (λ (l : List X). if before x y then x ∷ l else y ∷ x ∷ z ∷ xs)
          (at_first y false xs q))

  one_put : (xs : List X) (j : ℕ) (x d : X) → j < length xs
      → put_by before (slice_index_or xs j d) (in_order_by before (slice_set xs j x))
      ≡ put_by before x (in_order_by before xs)
  one_put [] j x d low = absurd (omega arith)
  one_put (y ∷ xs) zero x d low = put_put y x (in_order_by before xs)
  one_put (y ∷ xs) (suc j) x d low =
      put_put (slice_index_or xs j d) y (in_order_by before (slice_set xs j x))
      ∙ ap (put_by before y) (one_put xs j x d (omega arith))
      ∙ put_put y x (in_order_by before xs)

  exchanged : (xs : List X) (i j : ℕ) (d : X) → i < length xs → j < length xs
      → in_order_by before (slice_set (slice_set xs i (slice_index_or xs j d)) j
      (slice_index_or xs i d))
      ≡ in_order_by before xs
  exchanged [] i j d first second = absurd (omega arith)
  exchanged (x ∷ xs) zero zero d first second = refl
  exchanged (x ∷ xs) zero (suc j) d first second = one_put xs j x d (omega arith)
  exchanged (x ∷ xs) (suc i) zero d first second = one_put xs i x d (omega arith)
  exchanged (x ∷ xs) (suc i) (suc j) d first second =
      ap (put_by before x) (exchanged xs i j d (omega arith) (omega arith))

  swapped : (xs : List X) (i j : ℕ) → i < length xs → j < length xs
      → in_order_by before (swap xs i j) ≡ in_order_by before xs
  swapped [] i j first second = absurd (omega arith)
  swapped (x ∷ xs) i j first second = exchanged (x ∷ xs) i j x first second

  -- the order does not hang on how the elements lay
  pub in_order_permutation : (xs ys : List X) → IsPermutation xs ys
      → in_order_by before ys ≡ in_order_by before xs
  in_order_permutation xs ys moved =
      IsPermutation-keeps xs (λ (l : List X). in_order_by before l ≡ in_order_by before xs) refl
      (λ l i j first second is. swapped l i j first second ∙ is) ys moved

-- What is put in order is there.

in_put : {A : Type 0} (before : A → A → Bool) (x first : A) (xs : List A) → (first ≡ x) ⊎ IsIn x xs
    → IsIn x (put_by before first xs)
in_put before x first [] held = held
in_put before x first (y ∷ xs) held = by_test (before y first) held
    (λ rest. in_put before x first xs rest)
  where
    by_test : (t : Bool) → (first ≡ x) ⊎ IsIn x (y ∷ xs)
        → ((first ≡ x) ⊎ IsIn x xs → IsIn x (put_by before first xs))
        → IsIn x (if t then y ∷ put_by before first xs else first ∷ y ∷ xs)
    by_test false held again = held
    by_test true (inl same) again = inr (again (inl same))
    by_test true (inr (inl same)) again = inl same
    by_test true (inr (inr held)) again = inr (again (inr held))

pub in_order_held : {A : Type 0} (before : A → A → Bool) (x : A) (xs : List A) → IsIn x xs
    → IsIn x (in_order_by before xs)
in_order_held before x [] held = held
in_order_held before x (y ∷ xs) (inl same) = in_put before x y (in_order_by before xs) (inl same)
in_order_held before x (y ∷ xs) (inr held) =
    in_put before x y (in_order_by before xs) (inr (in_order_held before x xs held))

-- Two orders one after the other.

pub then_equal : (a b : Ordering) → ordering_then a b ≡ Equal → (a ≡ Equal) × (b ≡ Equal)
then_equal Less b e = absurd (cc)
then_equal Equal b e = (refl, e)
then_equal Greater b e = absurd (cc)

pub text_same : (a b : List ℕ) → slice_cmp nat_cmp a b ≡ Equal → a ≡ b
text_same a b e = slice_cmp-IsAntisymmetric nat_cmp-IsAntisymmetric a b e
