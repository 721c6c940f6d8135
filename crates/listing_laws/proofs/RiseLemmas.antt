-- Lists in order, of which no two elements tie.
use Rattle.std.proofs.Common.{◌≡◌, ◌∙◌, inl, inr, Bool, true, false, List, [], ◌∷◌, ap}
use Rattle.std.proofs.Common.{if◌then◌else◌, map, refl, sym}
use Rattle.std.specs.Cmp.{IsStrictWeakOrder}
use Rattle.std.proofs.lemmas.Bool.{both_ways, true_from_ne_false}
use Rattle.mail_base.specs.Ordered.{IsIn, in_order_by, put_by}

-- each element stands before all behind it
abbrev pub Rises : {X : Type 0} → (X → X → Bool) → List X → Type 0
Rises before [] = Unit {0}
Rises {X} before (x ∷ xs) = ((y : X) → IsIn y xs → before x y ≡ true) × Rises before xs

-- of an element and one behind it, one stands before the other
abbrev pub NeverTies : {X : Type 0} → (X → X → Bool) → List X → Type 0
NeverTies before [] = Unit {0}
NeverTies {X} before (x ∷ xs) =
    ((y : X) → IsIn y xs → before y x ≡ false → before x y ≡ true) × NeverTies before xs

module _ {X Y : Type 0} (f : X → Y) (before : Y → Y → Bool) where
  -- the order of what is made of elements
  abbrev pub by_made : X → X → Bool
  by_made a b = before (f a) (f b)

  map_put : (x : X) (xs : List X) → map f (put_by by_made x xs) ≡ put_by before (f x) (map f xs)
  map_put x [] = refl
  map_put x (y ∷ xs) = by_test (by_made y x) (map_put x xs)
    where
      by_test : (t : Bool) → map f (put_by by_made x xs) ≡ put_by before (f x) (map f xs)
          → map f (if t then y ∷ put_by by_made x xs else x ∷ y ∷ xs)
          ≡ (if t then f y ∷ put_by before (f x) (map f xs) else f x ∷ f y ∷ map f xs)
      by_test true more = ap (λ (l : List Y). f y ∷ l) more
      by_test false more = refl

  -- something may be made of each before or after they are put in order
  pub map_order : (xs : List X) → map f (in_order_by by_made xs) ≡ in_order_by before (map f xs)
  map_order [] = refl
  map_order (x ∷ xs) =
      map_put x (in_order_by by_made xs) ∙ ap (put_by before (f x)) (map_order xs)

behind : {X : Type 0} (x z : X) (xs ys : List X) → (IsIn z xs → IsIn z ys) → IsIn z (x ∷ xs)
    → IsIn z (x ∷ ys)
behind x z xs ys more (inl same) = inl same
behind x z xs ys more (inr held) = inr (more held)

module _ {X : Type 0} (before : X → X → Bool) where
  in_put : (z x : X) (xs : List X) → IsIn z (put_by before x xs) → IsIn z (x ∷ xs)
  in_put z x [] held = held
  in_put z x (y ∷ xs) held = by_test (before y x) held (λ later. in_put z x xs later)
    where
      by_test : (t : Bool) → IsIn z (if t then y ∷ put_by before x xs else x ∷ y ∷ xs)
          → (IsIn z (put_by before x xs) → IsIn z (x ∷ xs)) → IsIn z (x ∷ y ∷ xs)
      by_test false held again = held
      by_test true (inl same) again = inr (inl same)
      by_test true (inr later) again = behind x z xs (y ∷ xs) (λ more. inr more) (again later)

  -- what is in order was there
  pub in_order_was : (z : X) (xs : List X) → IsIn z (in_order_by before xs) → IsIn z xs
  in_order_was z [] held = held
  in_order_was z (x ∷ xs) held = behind x z (in_order_by before xs) xs
      (λ more. in_order_was z xs more) (in_put z x (in_order_by before xs) held)

module _ {X : Type 0} (before : X → X → Bool) (o : IsStrictWeakOrder before) where
  -- an element stands before all that stand behind one behind it
  pub through : (x y z : X) → before x y ≡ true → before y z ≡ true → before x z ≡ true
  through x y z first second = true_from_ne_false (before x z)
      (λ is. both_ways (before x y) (o.chain x z y is (o.one_way y z second)) first)

  never_itself : (x : X) → before x x ≡ true → ⊥
  never_itself x is = both_ways (before x x) (o.one_way x x is) is

  heads_same : (x y : X) (xs ys : List X) → Rises before (x ∷ xs) → Rises before (y ∷ ys)
      → IsIn x (y ∷ ys) → IsIn y (x ∷ xs) → x ≡ y
  heads_same x y xs ys first second (inl same) back = sym same
  heads_same x y xs ys first second (inr held) (inl same) = same
  heads_same x y xs ys first second (inr held) (inr other) =
      absurd (never_itself x (through x y x (first.0 y other) (second.0 x held)))

  tail_in : (x y : X) (xs ys : List X) → x ≡ y → Rises before (x ∷ xs)
      → ((z : X) → IsIn z (x ∷ xs) → IsIn z (y ∷ ys)) → (z : X) → IsIn z xs → IsIn z ys
  tail_in x y xs ys same rises there z held = by_place (there z (inr held))
    where
      by_place : IsIn z (y ∷ ys) → IsIn z ys
      by_place (inl also) =
          absurd (never_itself x (ap (before x) (same ∙ also) ∙ rises.0 z held))
      by_place (inr later) = later

  -- two lists that rise and have the same elements are one
  pub one_rise : (xs ys : List X) → Rises before xs → Rises before ys
      → ((z : X) → IsIn z xs → IsIn z ys) → ((z : X) → IsIn z ys → IsIn z xs) → xs ≡ ys
  one_rise [] [] first second there back = refl
  one_rise [] (y ∷ ys) first second there back = absurd (back y (inl refl))
  one_rise (x ∷ xs) [] first second there back = absurd (there x (inl refl))
  one_rise (x ∷ xs) (y ∷ ys) first second there back =
      let same = heads_same x y xs ys first second (there x (inl refl)) (back y (inl refl)) in
      let more = one_rise xs ys first.1 second.1 (tail_in x y xs ys same first there)
      (tail_in y x ys xs (sym same) second back) in
      λ i. same i ∷ more i

  rises_put : (x : X) (xs : List X) → Rises before xs
      → ((y : X) → IsIn y xs → before y x ≡ false → before x y ≡ true)
      → Rises before (put_by before x xs)
  rises_put x [] rises apart = ((λ y held. absurd held), tt)
  rises_put x (y ∷ xs) rises apart = by_test (before y x) refl
      (rises_put x xs rises.1 (λ z held. apart z (inr held)))
    where
      by_test : (t : Bool) → before y x ≡ t → Rises before (put_by before x xs)
          → Rises before (if t then y ∷ put_by before x xs else x ∷ y ∷ xs)
      by_test true is again = ((λ z held. first z (in_put before z x xs held)), again)
        where
          first : (z : X) → IsIn z (x ∷ xs) → before y z ≡ true
          first z (inl same) = ap (before y) (sym same) ∙ is
          first z (inr held) = rises.0 z held
      by_test false is again = (first, rises)
        where
          first : (z : X) → IsIn z (y ∷ xs) → before x z ≡ true
          first z (inl same) = ap (before x) (sym same) ∙ apart y (inl refl) is
          first z (inr held) =
              apart z (inr held) (o.chain z y x (o.one_way y z (rises.0 z held)) is)

  -- elements that never tie rise where they are in order
  pub rises_order : (xs : List X) → NeverTies before xs → Rises before (in_order_by before xs)
  rises_order [] apart = tt
  rises_order (x ∷ xs) apart = rises_put x (in_order_by before xs) (rises_order xs apart.1)
      (λ y held. apart.0 y (in_order_was before y xs held))
