-- Lists that a test puts in order: what they hold, and that they are in order.
use Rattle.std.proofs.Common.{◌≡◌, ◌⊎◌, inl, inr, ◌++◌, Bool, true, false, List, [], ◌∷◌, refl, sym}
use Rattle.std.proofs.Common.{◌∙◌, subst, if◌then◌else◌}
use Rattle.std.specs.Cmp.{IsStrictWeakOrder}
use Rattle.mail_base.specs.Ordered.{IsIn, in_order_by, put_by}

true_false : ◌≡◌ {A = Bool} true false → ⊥
true_false e = cc

-- no element stands before one in front of it
abbrev pub StaysUp : {X : Type 0} → (X → X → Bool) → List X → Type 0
StaysUp before [] = Unit {0}
StaysUp before (x ∷ xs) = ((y : _) → IsIn y xs → before y x ≡ false) × StaysUp before xs

-- each element stands before all behind it
abbrev pub Rise : {X : Type 0} → (X → X → Bool) → List X → Type 0
Rise before [] = Unit {0}
Rise before (x ∷ xs) = ((y : _) → IsIn y xs → before x y ≡ true) × Rise before xs

-- What one of two lists holds both hold together.

pub in_either : {A : Type 0} (x : A) (xs ys : List A) → IsIn x (xs ++ ys) → IsIn x xs ⊎ IsIn x ys
in_either x [] ys held = inr held
in_either x (z ∷ xs) ys (inl same) = inl (inl same)
in_either x (z ∷ xs) ys (inr held) = by (in_either x xs ys held)
  where
    by : IsIn x xs ⊎ IsIn x ys → IsIn x (z ∷ xs) ⊎ IsIn x ys
    by (inl rest) = inl (inr rest)
    by (inr rest) = inr rest

pub in_left : {A : Type 0} (x : A) (xs ys : List A) → IsIn x xs → IsIn x (xs ++ ys)
in_left x [] ys held = absurd held
in_left x (z ∷ xs) ys (inl same) = inl same
in_left x (z ∷ xs) ys (inr held) = inr (in_left x xs ys held)

pub in_right : {A : Type 0} (x : A) (xs ys : List A) → IsIn x ys → IsIn x (xs ++ ys)
in_right x [] ys held = held
in_right x (z ∷ xs) ys held = inr (in_right x xs ys held)

-- What is put among others is there beside them.

pub put_holds : {X : Type 0} (before : X → X → Bool) (x y : X) (ys : List X)
    → IsIn y (put_by before x ys) → (x ≡ y) ⊎ IsIn y ys
put_holds before x y [] held = held
put_holds before x y (z ∷ ys) held = by_test (before z x) held
    (λ rest. put_holds before x y ys rest)
  where
    by_test : (b : Bool) → IsIn y (if b then z ∷ put_by before x ys else x ∷ z ∷ ys)
        → (IsIn y (put_by before x ys) → (x ≡ y) ⊎ IsIn y ys)
        → (x ≡ y) ⊎ ((z ≡ y) ⊎ IsIn y ys)
    by_test false held again = held
    by_test true (inl same) again = inr (inl same)
    by_test true (inr rest) again = behind (again rest)
      where
        behind : (x ≡ y) ⊎ IsIn y ys → (x ≡ y) ⊎ ((z ≡ y) ⊎ IsIn y ys)
        behind (inl same) = inl same
        behind (inr rest) = inr (inr rest)

pub ordered_holds : {X : Type 0} (before : X → X → Bool) (y : X) (xs : List X)
    → IsIn y (in_order_by before xs) → IsIn y xs
ordered_holds before y [] held = held
ordered_holds before y (x ∷ xs) held =
    by (put_holds before x y (in_order_by before xs) held) (λ rest. ordered_holds before y xs rest)
  where
    by : (x ≡ y) ⊎ IsIn y (in_order_by before xs)
        → (IsIn y (in_order_by before xs) → IsIn y xs) → IsIn y (x ∷ xs)
    by (inl same) again = inl same
    by (inr rest) again = inr (again rest)

module _ {X : Type 0} (before : X → X → Bool) (o : IsStrictWeakOrder before) where
  put_up : (x : X) (ys : List X) → StaysUp before ys → StaysUp before (put_by before x ys)
  put_up x [] up = (λ y held. absurd held, tt)
  put_up x (y ∷ ys) up = by_test (before y x) refl (put_up x ys up.1)
    where
      later : before y x ≡ true → (z : X) → (x ≡ z) ⊎ IsIn z ys → before z y ≡ false
      later less z (inl same) = subst (λ (w : X). before w y ≡ false) same (o.one_way y x less)
      later less z (inr held) = up.0 z held

      above : before y x ≡ false → (z : X) → IsIn z (y ∷ ys) → before z x ≡ false
      above not z (inl same) = subst (λ (w : X). before w x ≡ false) same not
      above not z (inr held) = o.chain z y x (up.0 z held) not

      by_test : (b : Bool) → before y x ≡ b → StaysUp before (put_by before x ys)
          → StaysUp before (if b then y ∷ put_by before x ys else x ∷ y ∷ ys)
      by_test true less again =
          (λ z held. later less z (put_holds before x z ys held), again)
      by_test false not again = (above not, up)

  pub ordered_up : (xs : List X) → StaysUp before (in_order_by before xs)
  ordered_up [] = tt
  ordered_up (x ∷ xs) = put_up x (in_order_by before xs) (ordered_up xs)

  never_twice : (x y : X) → before x y ≡ true → before y x ≡ true → ⊥
  never_twice x y less more = true_false (sym more ∙ o.one_way x y less)

  -- lists that rise and hold the same are the same
  pub same_lists : (xs ys : List X) → Rise before xs → Rise before ys
      → ((z : X) → IsIn z xs → IsIn z ys) → ((z : X) → IsIn z ys → IsIn z xs) → xs ≡ ys
  same_lists [] [] a b to from = refl
  same_lists [] (y ∷ ys) a b to from = absurd (from y (inl refl))
  same_lists (x ∷ xs) [] a b to from = absurd (to x (inl refl))
  same_lists (x ∷ xs) (y ∷ ys) a b to from =
      let first : x ≡ y = heads (to x (inl refl)) (from y (inl refl)) in
      let rest : xs ≡ ys = same_lists xs ys a.1 b.1 (λ z held. into first z held)
      (λ z held. back first z held) in
      λ i. first i ∷ rest i
    where
      heads : IsIn x (y ∷ ys) → IsIn y (x ∷ xs) → x ≡ y
      heads (inl same) other = sym same
      heads (inr held) (inl same) = same
      heads (inr held) (inr other) = absurd (never_twice x y (a.0 y other) (b.0 x held))

      not_first : (w : X) (ws : List X) → Rise before (w ∷ ws) → IsIn w ws → ⊥
      not_first w ws rise held = never_twice w w (rise.0 w held) (rise.0 w held)

      into : x ≡ y → (z : X) → IsIn z xs → IsIn z ys
      into first z held = by (to z (inr held))
        where
          by : IsIn z (y ∷ ys) → IsIn z ys
          by (inl same) = absurd
              (not_first x xs a (subst (λ (w : X). IsIn w xs) (sym (first ∙ same)) held))
          by (inr rest) = rest

      back : x ≡ y → (z : X) → IsIn z ys → IsIn z xs
      back first z held = by (from z (inr held))
        where
          by : IsIn z (x ∷ xs) → IsIn z xs
          by (inl same) = absurd
              (not_first y ys b (subst (λ (w : X). IsIn w ys) (sym (sym first ∙ same)) held))
          by (inr rest) = rest
