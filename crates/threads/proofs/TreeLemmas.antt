-- Trees of places: what a bound leaves out, and the lists of children that are made.
use Rattle.std.proofs.Common.{◌≡◌, ◌∙◌, ℕ, zero, suc, ◌+◌, ◌-◌, ◌<◌, ◌≤◌, Bool, true, false, List}
use Rattle.std.proofs.Common.{[], ◌∷◌, ◌++◌, length, map, reverse, Option, Some, None, refl, sym}
use Rattle.std.proofs.Common.{ap, subst, ⊎_elim, arith, nat_eq, eq-eqb, get_or, set, is_none}
use Rattle.std.proofs.Common.{if◌then◌else◌}
use Rattle.std.proofs.lemmas.Bool.{cases_lt, eqb-true, false≢true}
use Rattle.std.proofs.lemmas.List.{get_or-set_other, get_or-set_same, reverse-append}
use Rattle.std.proofs.lemmas.List.{append-nil, append_assoc}
use Rattle.std.proofs.lemmas.List.Concat.{flat_map-append}
use Rattle.std.proofs.lemmas.List.Elements.{filter-append}
use Rattle.std.specs.List.{filter, flat_map}
use Rattle.std.specs.Option.{option_map_or}
use Rattle.threads.specs.Forest.{Ends, IsForest}
use Rattle.threads.specs.Found.{LeadsBelow}
use Rattle.threads.specs.Links.{target}
use Rattle.threads.specs.Order.{is_child, is_root, tree_of}
use Rattle.threads.specs.Threads.{end_from, onward, root_of}
use Rattle.threads.specs.Families.{CanWalk}
use Rattle.threads.specs.Walk.{Each}
use Rattle.threads.specs.declared.step.Step.{Step}
use Rattle.threads.proofs.FoundLemmas.{target_past}

none_some : (q : ℕ) → None ≡ Some q → ⊥
none_some q e = cc

some_none : (q : ℕ) → Some q ≡ None → ⊥
some_none q e = cc

same_some : (p q : ℕ) → Some p ≡ Some q → p ≡ q
same_some p q e = cc

-- the steps to an end are as many as they are
same_steps : (on : ℕ → Option ℕ) (d e p r s : ℕ) → Ends on d p r → Ends on e p s → d ≡ e
same_steps on zero zero p r s one other = refl
same_steps on zero (suc e) p r s one other =
    absurd (none_some other.0 (sym one.1 ∙ other.1))
same_steps on (suc d) zero p r s one other =
    absurd (none_some one.0 (sym other.1 ∙ one.1))
same_steps on (suc d) (suc e) p r s one other =
    let same : one.0 ≡ other.0 = same_some one.0 other.0 (sym one.1 ∙ other.1) in
    ap suc (same_steps on d e other.0 r s (subst (λ q. Ends on d q r) same one.2) other.2)

-- an end that leads nowhere is come to
pub ends_there : (links : List (Option Step)) (n p : ℕ)
    → target links (end_from links n p) ≡ None
    → (d : ℕ) × (d ≤ n) × Ends (target links) d p (end_from links n p)
ends_there links zero p none = (0, omega arith, (refl, none))
ends_there links (suc n) p none =
    by_target (target links p) refl none (λ q. ends_there links n q)
  where
    by_target : (t : Option ℕ) → target links p ≡ t
        → target links (onward (end_from links n) p t) ≡ None
        → ((q : ℕ) → target links (end_from links n q) ≡ None
        → (d : ℕ) × (d ≤ n) × Ends (target links) d q (end_from links n q))
        → (d : ℕ) × (d ≤ suc n) × Ends (target links) d p (onward (end_from links n) p t)
    by_target None is none more = (0, omega arith, (refl, none))
    by_target (Some q) is none more =
        let on = more q none in
        (suc on.0, omega (arith, on.1), (q, is, on.2))

flat_map_same : (f g : ℕ → List ℕ) (P : ℕ → Type 0) (xs : List ℕ)
    → ((x : ℕ) → P x → f x ≡ g x) → Each P xs → flat_map f xs ≡ flat_map g xs
flat_map_same f g P [] same all = refl
flat_map_same f g P (x ∷ xs) same all =
    let here = same x all.0 in
    let there = flat_map_same f g P xs same all.1 in
    λ i. here i ++ there i

none_there : (f : ℕ → List ℕ) (P : ℕ → Type 0) (xs : List ℕ) → ((x : ℕ) → P x → ⊥)
    → Each P xs → flat_map f xs ≡ []
none_there f P [] never all = refl
none_there f P (x ∷ xs) never all = absurd (never x all.0)

module _ (parents : List (Option Step)) (children : ℕ → List ℕ) (is_forest : IsForest parents)
    (follow : (p : ℕ) → Each (λ c. target parents c ≡ Some p) (children p)) where
  is_place : (c p : ℕ) → target parents c ≡ Some p → c < length parents
  is_place c p e = ⊎_elim (λ lt. lt)
      (λ past. absurd (none_some p (sym (target_past parents c past) ∙ e)))
      (cases_lt c (length parents))

  -- so few steps lead to a place that has a parent
  few_steps : (d c p r : ℕ) → target parents c ≡ Some p → Ends (target parents) d p r
      → suc d ≤ length parents
  few_steps d c p r e ends =
      let own = is_forest c (is_place c p e) in
      let same : suc d ≡ own.0 = same_steps (target parents) (suc d) own.0 c r
      (root_of parents c) (p, e, ends) own.2 in
      omega (arith, own.1, same)

  -- a bound that leaves nothing out
  enough : (k d p r m : ℕ) → d + k ≡ length parents → Ends (target parents) d p r → k ≤ m
      → tree_of children m p ≡ tree_of children k p
  enough zero d p r zero sum ends le = refl
  enough zero d p r (suc m) sum ends le =
      ap (λ (l : List ℕ). p ∷ l) (none_there (tree_of children m)
      (λ c. target parents c ≡ Some p) (children p)
      (λ c e. omega (arith, few_steps d c p r e ends)) (follow p))
  enough (suc k) d p r zero sum ends le = absurd (omega arith)
  enough (suc k) d p r (suc m) sum ends le =
      ap (λ (l : List ℕ). p ∷ l) (flat_map_same (tree_of children m) (tree_of children k)
      (λ c. target parents c ≡ Some p) (children p)
      (λ c e. enough k (suc d) c r m (omega arith) (p, e, ends) (omega arith)) (follow p))

  pub unfolded : (p : ℕ) → p < length parents
      → tree_of children (length parents) p
      ≡ p ∷ flat_map (tree_of children (length parents)) (children p)
  unfolded p lt =
      let n = length parents in
      let own = is_forest p lt in
      let rest : own.0 + (n - own.0) ≡ n = omega (arith, own.1) in
      enough (n - own.0) own.0 p (root_of parents p) n rest own.2 (omega arith)
      ∙ sym (enough (n - own.0) own.0 p (root_of parents p) (suc n) rest own.2 (omega arith))

  Each-mapped : (P Q : ℕ → Type 0) (xs : List ℕ) → ((x : ℕ) → P x → Q x) → Each P xs → Each Q xs
  Each-mapped P Q [] f all = tt
  Each-mapped P Q (x ∷ xs) f all = (f x all.0, Each-mapped P Q xs f all.1)

  pub can_walk : CanWalk children (length parents)
  can_walk = record {
    within = λ p lt. Each-mapped (λ c. target parents c ≡ Some p) (λ q. q < length parents)
        (children p) (λ c e. is_place c p e) (follow p);
    unfolds = unfolded;
  }

-- what is a child has its parent
child_follows : (parents : List (Option Step)) (p c : ℕ) → is_child parents p c ≡ true
    → target parents c ≡ Some p
child_follows parents p c e = by_target (target parents c) e
  where
    by_target : (t : Option ℕ) → option_map_or (nat_eq p) t false ≡ true → t ≡ Some p
    by_target None e = absurd (false≢true e)
    by_target (Some q) e = ap Some (sym (eqb-true p q e))

pub children_follow : (parents : List (Option Step)) (p : ℕ) (xs : List ℕ)
    → Each (λ c. target parents c ≡ Some p) (filter (is_child parents p) xs)
children_follow parents p [] = tt
children_follow parents p (x ∷ xs) =
    by_test (is_child parents p x) refl (children_follow parents p xs)
  where
    by_test : (b : Bool) → is_child parents p x ≡ b
        → Each (λ c. target parents c ≡ Some p) (filter (is_child parents p) xs)
        → Each (λ c. target parents c ≡ Some p)
        (if b then x ∷ filter (is_child parents p) xs else filter (is_child parents p) xs)
    by_test true is more = (child_follows parents p x is, more)
    by_test false is more = more

pub roots_end : (parents : List (Option Step)) (xs : List ℕ)
    → Each (λ r. target parents r ≡ None) (filter (is_root parents) xs)
roots_end parents [] = tt
roots_end parents (x ∷ xs) = by_target (target parents x) refl (roots_end parents xs)
  where
    by_target : (t : Option ℕ) → target parents x ≡ t
        → Each (λ r. target parents r ≡ None) (filter (is_root parents) xs)
        → Each (λ r. target parents r ≡ None)
        (if is_none t then x ∷ filter (is_root parents) xs else filter (is_root parents) xs)
    by_target None is more = (is, more)
    by_target (Some q) is more = more

-- nothing is below what is no place
pub none_below : (parents : List (Option Step)) (p : ℕ) (xs : List ℕ)
    → LeadsBelow (length parents) parents → length parents ≤ p
    → filter (is_child parents p) xs ≡ []
none_below parents p xs leads past =
    by_all (filter (is_child parents p) xs) (children_follow parents p xs)
  where
    by_all : (ys : List ℕ) → Each (λ c. target parents c ≡ Some p) ys → ys ≡ []
    by_all [] all = refl
    by_all (y ∷ ys) all = absurd (omega (arith, leads y p all.0))

pub filter_within : (test : ℕ → Bool) (n : ℕ) (xs : List ℕ) → Each (λ p. p < n) xs
    → Each (λ p. p < n) (filter test xs)
filter_within test n [] all = tt
filter_within test n (x ∷ xs) all = by_test (test x) (filter_within test n xs all.1)
  where
    by_test : (b : Bool) → Each (λ p. p < n) (filter test xs)
        → Each (λ p. p < n) (if b then x ∷ filter test xs else filter test xs)
    by_test true more = (all.0, more)
    by_test false more = more

reverse_push : (xs : List ℕ) (x : ℕ) → reverse (xs ++ x ∷ []) ≡ x ∷ reverse xs
reverse_push xs x = reverse-append xs (x ∷ [])

-- one place more

child_more : (parents : List (Option Step)) (place q p : ℕ) (added : List ℕ)
    → target parents place ≡ Some q
    → filter (is_child parents p) (added ++ place ∷ [])
    ≡ filter (is_child parents p) added ++ (if nat_eq p q then place ∷ [] else [])
child_more parents place q p added is =
    filter-append (is_child parents p) added (place ∷ [])
    ∙ ap (λ (t : Option ℕ). filter (is_child parents p) added
    ++ (if option_map_or (nat_eq p) t false then place ∷ [] else [])) is

pub child_put : (parents : List (Option Step)) (place q : ℕ) (added : List ℕ)
    (lists : List (List ℕ)) → target parents place ≡ Some q → length lists ≡ length parents
    → ((p : ℕ) → p < length parents → get_or lists p [] ≡ filter (is_child parents p) added)
    → (p : ℕ) → p < length parents
    → get_or (set lists q (get_or lists q [] ++ place ∷ [])) p []
    ≡ filter (is_child parents p) (added ++ place ∷ [])
child_put parents place q added lists is long old p lt =
    by_test (nat_eq p q) refl ∙ sym (child_more parents place q p added is)
  where
    by_test : (b : Bool) → nat_eq p q ≡ b
        → get_or (set lists q (get_or lists q [] ++ place ∷ [])) p []
        ≡ filter (is_child parents p) added ++ (if b then place ∷ [] else [])
    by_test true e =
        let same : p ≡ q = eqb-true p q e in
        let there : q < length lists = omega (arith, long, same, lt) in
        ap (λ k. get_or (set lists q (get_or lists q [] ++ place ∷ [])) k []) same
        ∙ get_or-set_same lists q (get_or lists q [] ++ place ∷ []) [] there
        ∙ ap (λ k. get_or lists k [] ++ place ∷ []) (sym same)
        ∙ ap (λ l. l ++ place ∷ []) (old p lt)
    by_test false e =
        get_or-set_other lists q p (get_or lists q [] ++ place ∷ []) []
        (λ same. false≢true (sym e ∙ eq-eqb p q same))
        ∙ old p lt ∙ sym (append-nil (filter (is_child parents p) added))

pub root_kept : (parents : List (Option Step)) (place q : ℕ) (added : List ℕ)
    → target parents place ≡ Some q
    → filter (is_root parents) (added ++ place ∷ []) ≡ filter (is_root parents) added
root_kept parents place q added is =
    filter-append (is_root parents) added (place ∷ [])
    ∙ ap (λ (t : Option ℕ). filter (is_root parents) added
    ++ (if is_none t then place ∷ [] else [])) is
    ∙ append-nil (filter (is_root parents) added)

-- a place goes out, and its children wait
pub walked : {Y : Type 0} (f : ℕ → Y) (children : ℕ → List ℕ) (n place : ℕ) (rest : List ℕ)
    (out : List Y)
    → tree_of children n place ≡ place ∷ flat_map (tree_of children n) (children place)
    → out ++ map f (flat_map (tree_of children n) (place ∷ rest))
    ≡ (out ++ f place ∷ []) ++ map f (flat_map (tree_of children n) (children place ++ rest))
walked f children n place rest out is =
    ap (λ l. out ++ map f (l ++ flat_map (tree_of children n) rest)) is
    ∙ ap (λ l. out ++ f place ∷ map f l)
    (sym (flat_map-append (tree_of children n) (children place) rest))
    ∙ sym (append_assoc out (f place ∷ [])
    (map f (flat_map (tree_of children n) (children place ++ rest))))
