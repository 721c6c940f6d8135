-- What is in a list that is put in order.
use Rattle.std.proofs.Common.{◌≡◌, ◌⊎◌, inl, inr, ⊎_elim, Bool, true, false, List, [], ◌∷◌}
use Rattle.std.proofs.Common.{refl, sym, subst}
use Rattle.std.proofs.lemmas.Bool.{cases_Bool, cond-true, cond-false}
use Rattle.mail_base.specs.Ordered.{in_order_by, put_by}
use Rattle.folder_stops.specs.Words.{Among}

pub in_put : {A : Type 0} (before : A → A → Bool) (x y : A) (xs : List A)
    → Among x (put_by before y xs) → (x ≡ y)
    ⊎ Among x xs
in_put before x y [] (inl is) = inl is
in_put before x y [] (inr later) = absurd later
in_put before x y (z ∷ xs) in_it = ⊎_elim {C = (x ≡ y) ⊎ Among x (z ∷ xs)}
    (λ (t : before z y ≡ true). ⊎_elim {C = (x ≡ y) ⊎ Among x (z ∷ xs)}
    (λ (is : x ≡ z). inr (inl is))
    (λ (later : Among x (put_by before y xs)). ⊎_elim {C = (x ≡ y) ⊎ Among x (z ∷ xs)}
    (λ (is : x ≡ y). inl is) (λ (old : Among x xs). inr (inr old)) (in_put before x y xs later))
    (subst (Among x) (cond-true (before z y) (z ∷ put_by before y xs) (y ∷ z ∷ xs) t)
    in_it))
    (λ (t : before z y ≡ false). subst (Among x)
    (cond-false (before z y) (z ∷ put_by before y xs) (y ∷ z ∷ xs) t) in_it)
    (cases_Bool (before z y))

put_new : {A : Type 0} (before : A → A → Bool) (y : A) (xs : List A) → Among y (put_by before y xs)
put_new before y [] = inl refl
put_new before y (z ∷ xs) = ⊎_elim {C = Among y (put_by before y (z ∷ xs))}
    (λ (t : before z y ≡ true). subst (Among y)
    (sym (cond-true (before z y) (z ∷ put_by before y xs) (y ∷ z ∷ xs) t))
    (inr (put_new before y xs)))
    (λ (t : before z y ≡ false). subst (Among y)
    (sym (cond-false (before z y) (z ∷ put_by before y xs) (y ∷ z ∷ xs) t)) (inl refl))
    (cases_Bool (before z y))

put_old : {A : Type 0} (before : A → A → Bool) (x y : A) (xs : List A) → Among x xs
    → Among x (put_by before y xs)
put_old before x y [] in_it = absurd in_it
put_old before x y (z ∷ xs) in_it = ⊎_elim {C = Among x (put_by before y (z ∷ xs))}
    (λ (t : before z y ≡ true). subst (Among x)
    (sym (cond-true (before z y) (z ∷ put_by before y xs) (y ∷ z ∷ xs) t))
    (⊎_elim {C = Among x (z ∷ put_by before y xs)} (λ (is : x ≡ z). inl is)
    (λ (old : Among x xs). inr (put_old before x y xs old)) in_it))
    (λ (t : before z y ≡ false). subst (Among x)
    (sym (cond-false (before z y) (z ∷ put_by before y xs) (y ∷ z ∷ xs) t)) (inr in_it))
    (cases_Bool (before z y))

pub in_sorted : {A : Type 0} (before : A → A → Bool) (x : A) (xs : List A)
    → Among x (in_order_by before xs)
    → Among x xs
in_sorted before x [] in_it = in_it
in_sorted before x (y ∷ xs) in_it =
    ⊎_elim {C = Among x (y ∷ xs)} (λ (is : x ≡ y). inl is)
    (λ (later : Among x (in_order_by before xs)). inr (in_sorted before x xs later))
    (in_put before x y (in_order_by before xs) in_it)

pub sorted_in : {A : Type 0} (before : A → A → Bool) (x : A) (xs : List A) → Among x xs
    → Among x (in_order_by before xs)
sorted_in before x [] in_it = in_it
sorted_in {A = A} before x (y ∷ xs) (inl is) =
    subst (λ (z : A). Among z (put_by before y (in_order_by before xs)))
    (sym is) (put_new before y (in_order_by before xs))
sorted_in before x (y ∷ xs) (inr later) = put_old before x y (in_order_by before xs) (sorted_in
    before x xs later)
