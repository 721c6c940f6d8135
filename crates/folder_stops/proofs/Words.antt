-- Lists of names.
use Rattle.std.proofs.Common.{List, None, Some, [], ap, false, inl, inr, refl, subst, sym, true, ℕ}
use Rattle.std.proofs.Common.{⊎_elim, ◌&&◌, ◌++◌, ◌∙◌, ◌∷◌, ◌≡◌, ◌≢◌, ◌⊎◌}
use Rattle.std.proofs.lemmas.Bool.{and_parts, cases_Bool, cond-false, cond-true, false_from_ne_true}
use Rattle.std.specs.Str.{bytes_eq, is_utf8}
use Rattle.std.proofs.lemmas.Slice.Eq.{bytes_eq-Decides}
use Rattle.std.proofs.lemmas.Bool.Decides.{not_from_Decides}
use Rattle.disk_model.specs.Tree.{folder_of, is_root}
use Rattle.disk_model.specs.State.{Name, can_make, is_folder, is_free, name_at, name_in, without}
use Rattle.folder_stops.specs.Words.{Among}

pub same : (p : List ℕ) → bytes_eq p p ≡ true
same p = (bytes_eq-Decides p p).1 refl

pub apart : (p q : List ℕ) → p ≢ q → bytes_eq p q ≡ false
apart p q ne = false_from_ne_true (bytes_eq p q) (λ e. ne ((bytes_eq-Decides p q).0 e))

pub equal : (p q : List ℕ) → bytes_eq p q ≡ true → p ≡ q
equal p q e = (bytes_eq-Decides p q).0 e

pub cases_path : (p q : List ℕ) → (p ≡ q) ⊎ (p ≢ q)
cases_path p q = ⊎_elim (λ e. inl ((bytes_eq-Decides p q).0 e)) (λ e.
    inr (not_from_Decides (bytes_eq p q) (bytes_eq-Decides p q) e)) (cases_Bool (bytes_eq p q))

step_without : (x n : Name) (p : List ℕ) (names : List Name)
    → (Among x (without p names) → Among x names × (x.path ≢ p)) → Among x (without p (n ∷ names))
    → Among x (n ∷ names) × (x.path ≢ p)
step_without x n p names rest in_it = ⊎_elim here there (cases_Bool (bytes_eq n.path p))
  where
    here : bytes_eq n.path p ≡ true → Among x (n ∷ names) × (x.path ≢ p)
    here e = let more = rest (subst (Among x) (cond-true (bytes_eq n.path p) _ _ e) in_it) in
        (inr more.0, more.1)

    is_first : bytes_eq n.path p ≡ false → x ≡ n → Among x (n ∷ names) × (x.path ≢ p)
    is_first e is = (
      inl is,
      λ at.
          not_from_Decides (bytes_eq n.path p) (bytes_eq-Decides n.path p) e
          (ap (λ (y : Name). y.path) (sym is) ∙ at),
    )

    is_later : Among x (without p names) → Among x (n ∷ names) × (x.path ≢ p)
    is_later later = let more = rest later in (inr more.0, more.1)

    there : bytes_eq n.path p ≡ false → Among x (n ∷ names) × (x.path ≢ p)
    there e = ⊎_elim (is_first e) is_later
        (subst (Among x) (cond-false (bytes_eq n.path p) _ _ e) in_it)

pub among_without : (x : Name) (p : List ℕ) (names : List Name) → Among x (without p names)
    → Among x names × (x.path ≢ p)
among_without x p [] in_it = absurd in_it
among_without x p (n ∷ names) in_it = step_without x n p names (among_without x p names) in_it

pub without_among : (x : Name) (p : List ℕ) (names : List Name) → Among x names → x.path ≢ p
    → Among x (without p names)
without_among x p [] in_it ne = absurd in_it
without_among x p (n ∷ names) (inl is) ne =
    subst (Among x) (sym (cond-false (bytes_eq n.path p) _ _
    (apart n.path p (λ at. ne (ap (λ (y : Name). y.path) is ∙ at))))) (inl is)
without_among x p (n ∷ names) (inr later) ne = ⊎_elim
    (λ (e : bytes_eq n.path p ≡ true). subst (Among x) (sym (cond-true (bytes_eq n.path p) _ _ e))
    (without_among x p names later ne))
    (λ (e : bytes_eq n.path p ≡ false). subst (Among x) (sym (cond-false (bytes_eq n.path p) _ _ e))
    (inr (without_among x p names later ne)))
    (cases_Bool (bytes_eq n.path p))

-- a name that is found is among the names
pub found_in : (p : List ℕ) (names : List Name) (n : ℕ) → name_in names p ≡ Some (Some n)
    → Among (record { path = p; file = Some n }) names
found_in p [] n e = absurd (cc)
found_in p (x ∷ names) n e = ⊎_elim
    (λ (is : bytes_eq x.path p ≡ true).
    let file : Some x.file ≡ Some (Some n) = sym (cond-true (bytes_eq x.path p) _ _ is) ∙ e in
    let file' : x.file ≡ Some n = cc in
    inl (λ i. record { path = sym (equal x.path p is) i; file = sym file' i }))
    (λ (is : bytes_eq x.path p ≡ false). inr
    (found_in p names n (sym (cond-false (bytes_eq x.path p) _ _ is) ∙ e)))
    (cases_Bool (bytes_eq x.path p))

pub found : (p : List ℕ) (names : List Name) (n : ℕ) → name_at names p ≡ Some (Some n)
    → Among (record { path = p; file = Some n }) names
found p names n e = ⊎_elim
    (λ (is : is_root p ≡ true).
    let no : Some None ≡ Some (Some n) = sym (cond-true (is_root p) _ _ is) ∙ e in absurd (cc))
    (λ (is : is_root p ≡ false). found_in p names n (sym (cond-false (is_root p) _ _ is) ∙ e))
    (cases_Bool (is_root p))

-- where nothing stands at a path, no name has it
pub absent_in : (p : List ℕ) (names : List Name) → is_free (name_in names p) ≡ true → (x : Name)
    → Among x names → x.path ≢ p
absent_in p [] e x in_it at = absurd in_it
absent_in p (y ∷ names) e x in_it at = ⊎_elim {C = ⊥}
    (λ (is : bytes_eq y.path p ≡ true).
    let no : false ≡ true =
    sym (ap is_free (cond-true (bytes_eq y.path p) (Some y.file) (name_in names p) is)) ∙ e in
    cc)
    (λ (is : bytes_eq y.path p ≡ false). ⊎_elim {C = ⊥}
    (λ (f : x ≡ y). let yes : bytes_eq y.path p ≡ true = subst (λ (q : List ℕ). bytes_eq q p ≡ true)
    (sym at ∙ ap (λ (z : Name). z.path) f) (same p) in cc)
    (λ (later : Among x names). absent_in p names
    (sym (ap is_free (cond-false (bytes_eq y.path p) (Some y.file) (name_in names p) is)) ∙ e) x
    later at)
    in_it)
    (cases_Bool (bytes_eq y.path p))

pub absent_at : (p : List ℕ) (names : List Name) → is_free (name_at names p) ≡ true → (x : Name)
    → Among x names → x.path ≢ p
absent_at p names e = ⊎_elim {C = (x : Name) → Among x names → x.path ≢ p}
    (λ (is : is_root p ≡ true).
    let no : false ≡ true =
    sym (ap is_free (cond-true (is_root p) (Some None) (name_in names p) is)) ∙ e in
    absurd (cc))
    (λ (is : is_root p ≡ false). absent_in p names
    (sym (ap is_free (cond-false (is_root p) (Some None) (name_in names p) is)) ∙ e))
    (cases_Bool (is_root p))

-- so it is where a node may be made
pub absent_made : (p : List ℕ) (names : List Name) → can_make names p ≡ true → (x : Name)
    → Among x names → x.path ≢ p
absent_made p names e =
    absent_at p names (and_parts (is_utf8 p && is_folder (name_at names (folder_of p)))
    (is_free (name_at names p)) e).1

-- it is among more

pub among_right : {A : Type 0} (x : A) (xs ys : List A) → Among x ys → Among x (xs ++ ys)
among_right x [] ys in_it = in_it
among_right x (y ∷ xs) ys in_it = inr (among_right x xs ys in_it)

pub among_left : {A : Type 0} (x : A) (xs ys : List A) → Among x xs → Among x (xs ++ ys)
among_left x [] ys in_it = absurd in_it
among_left x (y ∷ xs) ys (inl is) = inl is
among_left x (y ∷ xs) ys (inr later) = inr (among_left x xs ys later)
