-- Elements of lists that are made of others.
use Rattle.std.proofs.Common.{◌≡◌, ◌∙◌, ◌++◌, ◌⊎◌, inl, inr, Bool, true, false, List, [], ◌∷◌}
use Rattle.std.proofs.Common.{Option, Some, None, ap, filter_map, find, if◌then◌else◌, refl, subst}
use Rattle.std.proofs.Common.{sym}
use Rattle.std.specs.List.{cons_option, filter, list_any}
use Rattle.std.proofs.lemmas.Bool.{cond_both, cond-true, or_parts}
use Rattle.mail_base.specs.Ordered.{IsIn}

module _ {X : Type 0} (p : X → Bool) where
  pub in_filter : (x : X) (xs : List X) → IsIn x (filter p xs) → IsIn x xs × (p x ≡ true)
  in_filter x [] held = absurd held
  in_filter x (y ∷ xs) held = by_test (p y) refl held (λ later. in_filter x xs later)
    where
      by_test : (t : Bool) → p y ≡ t → IsIn x (if t then y ∷ filter p xs else filter p xs)
          → (IsIn x (filter p xs) → IsIn x xs × (p x ≡ true)) → IsIn x (y ∷ xs) × (p x ≡ true)
      by_test true is (inl same) again = (inl same, ap p (sym same) ∙ is)
      by_test true is (inr later) again = (inr (again later).0, (again later).1)
      by_test false is later again = (inr (again later).0, (again later).1)

  pub filter_in : (x : X) (xs : List X) → IsIn x xs → p x ≡ true → IsIn x (filter p xs)
  filter_in x [] held passes = held
  filter_in x (y ∷ xs) (inl same) passes =
      subst (IsIn x) (sym (cond-true (p y) (y ∷ filter p xs) (filter p xs) (ap p same ∙ passes)))
      (inl same)
  filter_in x (y ∷ xs) (inr held) passes =
      cond_both (p y) (y ∷ filter p xs) (filter p xs) (IsIn x)
      (λ is. inr (filter_in x xs held passes)) (λ is. filter_in x xs held passes)

  pub found_in : (x : X) (xs : List X) → find p xs ≡ Some x → IsIn x xs × (p x ≡ true)
  found_in x [] is = absurd (cc)
  found_in x (y ∷ xs) is = by_test (p y) refl is (λ later. found_in x xs later)
    where
      by_test : (t : Bool) → p y ≡ t → (if t then Some y else find p xs) ≡ Some x
          → (find p xs ≡ Some x → IsIn x xs × (p x ≡ true)) → IsIn x (y ∷ xs) × (p x ≡ true)
      by_test true passes here again =
          let same : y ≡ x = cc in
          (inl same, ap p (sym same) ∙ passes)
      by_test false passes later again = (inr (again later).0, (again later).1)

  pub none_found : (x : X) (xs : List X) → find p xs ≡ None → IsIn x xs → p x ≡ false
  none_found x [] is held = absurd held
  none_found x (y ∷ xs) is held = by_test (p y) refl is held
      (λ none later. none_found x xs none later)
    where
      by_test : (t : Bool) → p y ≡ t → (if t then Some y else find p xs) ≡ None
          → IsIn x (y ∷ xs) → (find p xs ≡ None → IsIn x xs → p x ≡ false)
          → p x ≡ false
      by_test true passes none held again = absurd (cc)
      by_test false passes none (inl same) again = ap p (sym same) ∙ passes
      by_test false passes none (inr later) again = again none later

  -- where no element passes, none of these does
  pub none_passes : (x : X) (xs : List X) → list_any p xs ≡ false → IsIn x xs → p x ≡ false
  none_passes x [] none held = absurd held
  none_passes x (y ∷ xs) none (inl same) =
      ap p (sym same) ∙ (or_parts (p y) (list_any p xs) none).0
  none_passes x (y ∷ xs) none (inr held) =
      none_passes x xs (or_parts (p y) (list_any p xs) none).1 held

  -- two tests that agree on what is listed keep the same
  pub same_kept : (q : X → Bool) (xs : List X) → ((x : X) → IsIn x xs → p x ≡ q x)
      → filter p xs ≡ filter q xs
  same_kept q [] agree = refl
  same_kept q (x ∷ xs) agree =
      let here = agree x (inl refl) in
      let rest = same_kept q xs (λ y held. agree y (inr held)) in
      λ i. if here i then x ∷ rest i else rest i

module _ {X Y : Type 0} (h : X → Option Y) where
  pub in_filter_map : (y : Y) (xs : List X) → IsIn y (filter_map h xs)
      → (x : X) × IsIn x xs × (h x ≡ Some y)
  in_filter_map y [] held = absurd held
  in_filter_map y (x ∷ xs) held = by_given (h x) refl held (λ later. in_filter_map y xs later)
    where
      by_given : (o : Option Y) → h x ≡ o → IsIn y (cons_option o (filter_map h xs))
          → (IsIn y (filter_map h xs) → (z : X) × IsIn z xs × (h z ≡ Some y))
          → (z : X) × IsIn z (x ∷ xs) × (h z ≡ Some y)
      by_given None is later again =
          let more = again later in
          (more.0, inr more.1, more.2)
      by_given (Some z) is (inl same) again = (x, inl refl, is ∙ ap Some same)
      by_given (Some z) is (inr later) again =
          let more = again later in
          (more.0, inr more.1, more.2)

  pub filter_map_in : (x : X) (y : Y) (xs : List X) → IsIn x xs → h x ≡ Some y
      → IsIn y (filter_map h xs)
  filter_map_in x y [] held is = absurd held
  filter_map_in x y (z ∷ xs) held is =
      by_given (h z) refl held (λ later. filter_map_in x y xs later is)
    where
      by_given : (o : Option Y) → h z ≡ o → IsIn x (z ∷ xs) → (IsIn x xs → IsIn y (filter_map h xs))
          → IsIn y (cons_option o (filter_map h xs))
      by_given None none (inl same) again =
          let wrong : Some y ≡ None = sym is ∙ ap h (sym same) ∙ none in
          absurd (cc)
      by_given None none (inr later) again = again later
      by_given (Some w) given (inl same) again =
          let both : Some w ≡ Some y = sym given ∙ ap h same ∙ is in
          inl (cc)
      by_given (Some w) given (inr later) again = inr (again later)

pub in_append : {X : Type 0} (x : X) (xs ys : List X) → IsIn x (xs ++ ys) → IsIn x xs ⊎ IsIn x ys
in_append x [] ys held = inr held
in_append {X} x (y ∷ xs) ys (inl same) = inl (inl same)
in_append {X} x (y ∷ xs) ys (inr held) = behind (in_append x xs ys held)
  where
    behind : IsIn x xs ⊎ IsIn x ys → IsIn x (y ∷ xs) ⊎ IsIn x ys
    behind (inl first) = inl (inr first)
    behind (inr last) = inr last

pub append_in : {X : Type 0} (x : X) (xs ys : List X) → IsIn x xs ⊎ IsIn x ys → IsIn x (xs ++ ys)
append_in x [] ys (inl held) = absurd held
append_in x [] ys (inr held) = held
append_in x (y ∷ xs) ys (inl (inl same)) = inl same
append_in x (y ∷ xs) ys (inl (inr held)) = inr (append_in x xs ys (inl held))
append_in x (y ∷ xs) ys (inr held) = inr (append_in x xs ys (inr held))
