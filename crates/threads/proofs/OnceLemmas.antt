-- The trees of all roots hold each place once.
use Rattle.std.proofs.Common.{◌≡◌, ◌∙◌, ℕ, zero, suc, ◌+◌, ◌<◌, ◌≤◌, Bool, true, false, List, []}
use Rattle.std.proofs.Common.{◌∷◌, ◌++◌, length, map, Option, Some, None, not, is_none, nat_lt}
use Rattle.std.proofs.Common.{refl, sym, ap, subst, arith, nat_eq}
use Rattle.std.proofs.Common.{if◌then◌else◌, ◌||◌, slice_index_or, slice_set}
use Rattle.std.proofs.lemmas.Bool.{false≢true}
use Rattle.std.proofs.lemmas.Bool.Decides.{nat_tests}
use Rattle.std.proofs.lemmas.List.{append-nil, append_assoc}
use Rattle.std.proofs.lemmas.List.Concat.{flat_map-append}
use Rattle.std.proofs.lemmas.List.Elements.{filter_agree}
use Rattle.std.proofs.lemmas.List.FromFn.{map-range_with_len_more}
use Rattle.std.proofs.lemmas.List.Sorted.{IsPermutation-append_comm}
use Rattle.std.proofs.lemmas.List.Sorted.{IsPermutation-append_left, IsPermutation-append_right}
use Rattle.std.proofs.lemmas.List.Sorted.{IsPermutation-cons, IsPermutation-filter_both}
use Rattle.std.proofs.lemmas.List.Sorted.{IsPermutation-keeps, IsPermutation-middle}
use Rattle.std.proofs.lemmas.List.Sorted.{IsPermutation-refl, IsPermutation-sym}
use Rattle.std.proofs.lemmas.List.Sorted.{IsPermutation-trans}
use Rattle.std.specs.List.{filter, flat_map, range_with_len, swap}
use Rattle.std.specs.List.Sorted.{IsPermutation}
use Rattle.std.specs.Option.{option_map_or}
use Rattle.threads.specs.Forest.{Ends, IsForest}
use Rattle.threads.specs.Found.{LeadsBelow}
use Rattle.threads.specs.Links.{target}
use Rattle.threads.specs.Order.{is_child, is_root, tree_of}
use Rattle.threads.specs.Threads.{root_of}
use Rattle.threads.specs.Walk.{Each}
use Rattle.threads.specs.declared.step.Step.{Step}
use Rattle.threads.proofs.CycleLemmas.{Each-join, Each-map}

none_some : (q : ℕ) → None ≡ Some q → ⊥
none_some q e = cc

same_some : (p q : ℕ) → Some p ≡ Some q → p ≡ q
same_some p q e = cc

-- two tests of which no element passes both
both : (a b c : ℕ → Bool) → ((x : ℕ) → c x ≡ a x || b x) → ((x : ℕ) → a x ≡ true → b x ≡ false)
    → (xs : List ℕ) → IsPermutation (filter a xs ++ filter b xs) (filter c xs)
both a b c is apart [] = IsPermutation-refl []
both a b c is apart (x ∷ xs) =
    by_tests (a x) (b x) (c x) (is x) (apart x) (both a b c is apart xs)
  where
    by_tests : (p q r : Bool) → r ≡ p || q → (p ≡ true → q ≡ false)
        → IsPermutation (filter a xs ++ filter b xs) (filter c xs)
        → IsPermutation ((if p then x ∷ filter a xs else filter a xs)
        ++ (if q then x ∷ filter b xs else filter b xs))
        (if r then x ∷ filter c xs else filter c xs)
    by_tests true true r e one more = absurd (false≢true (sym (one refl)))
    by_tests true false r e one more =
        subst (λ t. IsPermutation (x ∷ filter a xs ++ filter b xs)
        (if t then x ∷ filter c xs else filter c xs)) (sym e)
        (IsPermutation-cons x (filter a xs ++ filter b xs) (filter c xs) more)
    by_tests false true r e one more =
        subst (λ t. IsPermutation (filter a xs ++ x ∷ filter b xs)
        (if t then x ∷ filter c xs else filter c xs)) (sym e)
        (IsPermutation-trans (filter a xs ++ x ∷ filter b xs)
        (x ∷ (filter a xs ++ filter b xs)) (x ∷ filter c xs)
        (IsPermutation-middle (filter a xs) x (filter b xs))
        (IsPermutation-cons x (filter a xs ++ filter b xs) (filter c xs) more))
    by_tests false false r e one more =
        subst (λ t. IsPermutation (filter a xs ++ filter b xs)
        (if t then x ∷ filter c xs else filter c xs)) (sym e) more

-- a place has a parent below a number
abbrev has_below : List (Option Step) → ℕ → ℕ → Bool
has_below parents n x = option_map_or (λ q. nat_lt q n) (target parents x) false

pub range_more : (n : ℕ) → range_with_len 0 (n + 1) ≡ range_with_len 0 n ++ n ∷ []
range_more n =
    sym (map_same (range_with_len 0 (n + 1)))
    ∙ map-range_with_len_more (λ (k : ℕ). k) 0 n n (omega arith)
    ∙ ap (λ l. l ++ n ∷ []) (map_same (range_with_len 0 n))
  where
    map_same : (xs : List ℕ) → map (λ (k : ℕ). k) xs ≡ xs
    map_same [] = refl
    map_same (x ∷ xs) = ap (λ l. x ∷ l) (map_same xs)

none_pass : (xs : List ℕ) (test : ℕ → Bool) → ((x : ℕ) → test x ≡ false) → filter test xs ≡ []
none_pass [] test off = refl
none_pass (x ∷ xs) test off =
    ap (λ b. if b then x ∷ filter test xs else filter test xs) (off x) ∙ none_pass xs test off

module _ (parents : List (Option Step)) (xs : List ℕ) where
  -- the children of the places below a number are those with a parent below it
  children_below : (n : ℕ)
      → IsPermutation (flat_map (λ p. filter (is_child parents p) xs) (range_with_len 0 n))
      (filter (has_below parents n) xs)
  children_below zero =
      subst (IsPermutation []) (sym (none_pass xs (has_below parents 0) none))
      (IsPermutation-refl [])
    where
      none : (x : ℕ) → has_below parents 0 x ≡ false
      none x = by_target (target parents x)
        where
          by_target : (t : Option ℕ) → option_map_or (λ q. nat_lt q 0) t false ≡ false
          by_target None = refl
          by_target (Some q) = grind (arith, nat_tests)
  children_below (suc n) =
      let f = λ (p : ℕ). filter (is_child parents p) xs in
      let next : n + 1 ≡ suc n = omega arith in
      let split : flat_map f (range_with_len 0 (suc n))
      ≡ flat_map f (range_with_len 0 n) ++ filter (is_child parents n) xs =
      ap (λ k. flat_map f (range_with_len 0 k)) (sym next)
      ∙ ap (flat_map f) (range_more n)
      ∙ flat_map-append f (range_with_len 0 n) (n ∷ [])
      ∙ ap (λ l. flat_map f (range_with_len 0 n) ++ l)
      (append-nil (filter (is_child parents n) xs)) in
      subst (λ l. IsPermutation l (filter (has_below parents (suc n)) xs)) (sym split)
      (IsPermutation-trans (flat_map f (range_with_len 0 n) ++ filter (is_child parents n) xs)
      (filter (has_below parents n) xs ++ filter (is_child parents n) xs)
      (filter (has_below parents (suc n)) xs)
      (IsPermutation-append_left (filter (is_child parents n) xs)
      (flat_map f (range_with_len 0 n)) (filter (has_below parents n) xs) (children_below n))
      (both (has_below parents n) (is_child parents n) (has_below parents (suc n))
      (λ x. one_more (target parents x)) (λ x. apart (target parents x)) xs))
    where
      one_more : (t : Option ℕ) → option_map_or (λ q. nat_lt q (suc n)) t false
          ≡ option_map_or (λ q. nat_lt q n) t false || option_map_or (nat_eq n) t false
      one_more None = refl
      one_more (Some q) = grind (arith, nat_tests)

      apart : (t : Option ℕ) → option_map_or (λ q. nat_lt q n) t false ≡ true
          → option_map_or (nat_eq n) t false ≡ false
      apart None e = refl
      apart (Some q) e = grind (arith, nat_tests)

-- Lists made of lists.

module _ (f : ℕ → List ℕ) where
  -- whether an element comes before another list does not matter
  swap_heads : (x y : ℕ) (xs : List ℕ)
      → IsPermutation (f x ++ (f y ++ flat_map f xs)) (f y ++ (f x ++ flat_map f xs))
  swap_heads x y xs =
      subst (λ l. IsPermutation l (f y ++ (f x ++ flat_map f xs)))
      (append_assoc (f x) (f y) (flat_map f xs))
      (subst (IsPermutation ((f x ++ f y) ++ flat_map f xs))
      (append_assoc (f y) (f x) (flat_map f xs))
      (IsPermutation-append_left (flat_map f xs) (f x ++ f y) (f y ++ f x)
      (IsPermutation-append_comm (f x) (f y))))

  put_first : (xs : List ℕ) (j : ℕ) (x d : ℕ) → j < length xs
      → IsPermutation (f (slice_index_or xs j d) ++ flat_map f (slice_set xs j x))
      (f x ++ flat_map f xs)
  put_first [] j x d low = absurd (omega arith)
  put_first (y ∷ xs) zero x d low = swap_heads y x xs
  put_first (y ∷ xs) (suc j) x d low =
      let other = slice_index_or xs j d in
      IsPermutation-trans (f other ++ (f y ++ flat_map f (slice_set xs j x)))
      (f y ++ (f other ++ flat_map f (slice_set xs j x))) (f x ++ (f y ++ flat_map f xs))
      (swap_heads other y (slice_set xs j x))
      (IsPermutation-trans (f y ++ (f other ++ flat_map f (slice_set xs j x)))
      (f y ++ (f x ++ flat_map f xs)) (f x ++ (f y ++ flat_map f xs))
      (IsPermutation-append_right (f y) (f other ++ flat_map f (slice_set xs j x))
      (f x ++ flat_map f xs) (put_first xs j x d (omega arith)))
      (swap_heads y x xs))

  exchanged : (xs : List ℕ) (i j : ℕ) (d : ℕ) → i < length xs → j < length xs
      → IsPermutation
      (flat_map f (slice_set (slice_set xs i (slice_index_or xs j d)) j (slice_index_or xs i d)))
      (flat_map f xs)
  exchanged [] i j d first second = absurd (omega arith)
  exchanged (x ∷ xs) zero zero d first second = IsPermutation-refl (flat_map f (x ∷ xs))
  exchanged (x ∷ xs) zero (suc j) d first second = put_first xs j x d (omega arith)
  exchanged (x ∷ xs) (suc i) zero d first second = put_first xs i x d (omega arith)
  exchanged (x ∷ xs) (suc i) (suc j) d first second =
      IsPermutation-append_right (f x)
      (flat_map f (slice_set (slice_set xs i (slice_index_or xs j d)) j (slice_index_or xs i d)))
      (flat_map f xs) (exchanged xs i j d (omega arith) (omega arith))

  swapped : (xs : List ℕ) (i j : ℕ) → i < length xs → j < length xs
      → IsPermutation (flat_map f (swap xs i j)) (flat_map f xs)
  swapped [] i j first second = absurd (omega arith)
  swapped (x ∷ xs) i j first second = exchanged (x ∷ xs) i j x first second

  pub flat_map_permutation : (xs ys : List ℕ) → IsPermutation xs ys
      → IsPermutation (flat_map f xs) (flat_map f ys)
  flat_map_permutation xs ys moved =
      IsPermutation-sym (flat_map f ys) (flat_map f xs)
      (IsPermutation-keeps xs (λ (l : List ℕ). IsPermutation (flat_map f l) (flat_map f xs))
      (IsPermutation-refl (flat_map f xs))
      (λ l i j first second is. IsPermutation-trans (flat_map f (swap l i j)) (flat_map f l)
      (flat_map f xs) (swapped l i j first second) is) ys moved)

  -- an element, then the trees of its list, for each: all elements, then all trees
  level : (h : ℕ → List ℕ) (xs : List ℕ)
      → IsPermutation (xs ++ flat_map h (flat_map f xs))
      (flat_map (λ x. x ∷ flat_map h (f x)) xs)
  level h [] = IsPermutation-refl []
  level h (x ∷ xs) =
      let own = flat_map h (f x) in
      let rest = flat_map h (flat_map f xs) in
      let whole = flat_map (λ y. y ∷ flat_map h (f y)) xs in
      subst (λ l. IsPermutation (x ∷ (xs ++ l)) (x ∷ (own ++ whole)))
      (sym (flat_map-append h (f x) (flat_map f xs)))
      (IsPermutation-cons x (xs ++ (own ++ rest)) (own ++ whole)
      (IsPermutation-trans (xs ++ (own ++ rest)) (own ++ (xs ++ rest)) (own ++ whole)
      (subst (λ l. IsPermutation l (own ++ (xs ++ rest))) (append_assoc xs own rest)
      (subst (IsPermutation ((xs ++ own) ++ rest)) (append_assoc own xs rest)
      (IsPermutation-append_left rest (xs ++ own) (own ++ xs)
      (IsPermutation-append_comm xs own))))
      (IsPermutation-append_right own (xs ++ rest) whole (level h xs))))

  -- so many levels further down
  abbrev further : ℕ → List ℕ → List ℕ
  further zero xs = xs
  further (suc k) xs = further k (flat_map f xs)

  -- roots and the lists of all, down to a level
  levels : (k : ℕ) (roots all : List ℕ) → IsPermutation all (roots ++ flat_map f all)
      → IsPermutation all (flat_map (tree_of f k) roots ++ further (suc k) all)
  levels zero roots all split =
      subst (λ l. IsPermutation all (l ++ flat_map f all)) (sym (alone roots)) split
    where
      alone : (xs : List ℕ) → flat_map (tree_of f zero) xs ≡ xs
      alone [] = refl
      alone (x ∷ xs) = ap (λ l. x ∷ l) (alone xs)
  levels (suc k) roots all split =
      let below = flat_map f roots in
      let under = flat_map f all in
      let deep = further (suc k) under in
      let trees = flat_map (tree_of f k) below in
      let next : IsPermutation under (below ++ flat_map f under) =
      subst (IsPermutation under) (flat_map-append f roots under)
      (flat_map_permutation all (roots ++ under) split) in
      IsPermutation-trans all (roots ++ under) (flat_map (tree_of f (suc k)) roots ++ deep) split
      (IsPermutation-trans (roots ++ under) (roots ++ (trees ++ deep))
      (flat_map (tree_of f (suc k)) roots ++ deep)
      (IsPermutation-append_right roots under (trees ++ deep) (levels k below under next))
      (subst (λ l. IsPermutation l (flat_map (tree_of f (suc k)) roots ++ deep))
      (append_assoc roots trees deep)
      (IsPermutation-append_left deep (roots ++ trees) (flat_map (tree_of f (suc k)) roots)
      (level (tree_of f k) roots))))

-- Nothing is left below as many levels as there are places.

abbrev IsDeep : List (Option Step) → ℕ → ℕ → Type 0
IsDeep parents k x = (x < length parents)
    × ((d r : ℕ) → Ends (target parents) d x r → k ≤ d)

module _ (parents : List (Option Step)) (f : ℕ → List ℕ)
    (leads : (p : ℕ) → Each (λ c. (c < length parents) × (target parents c ≡ Some p)) (f p)) where
  one_deeper : (k p c : ℕ) → IsDeep parents k p → c < length parents → target parents c ≡ Some p
      → IsDeep parents (suc k) c
  one_deeper k p c deep lt is = (lt, by_steps)
    where
      by_steps : (d r : ℕ) → Ends (target parents) d c r → suc k ≤ d
      by_steps zero r ends = absurd (none_some p (sym ends.1 ∙ is))
      by_steps (suc d) r ends =
          let same : ends.0 ≡ p = same_some ends.0 p (sym ends.1 ∙ is) in
          let le : k ≤ d =
          deep.1 d r (subst (λ q. Ends (target parents) d q r) same ends.2) in
          omega arith

  all_deeper : (k : ℕ) (xs : List ℕ) → Each (IsDeep parents k) xs
      → Each (IsDeep parents (suc k)) (flat_map f xs)
  all_deeper k [] deep = tt
  all_deeper k (x ∷ xs) deep =
      Each-join (IsDeep parents (suc k)) (f x) (flat_map f xs)
      (Each-map (λ c. (c < length parents) × (target parents c ≡ Some x))
      (IsDeep parents (suc k)) (λ c own. one_deeper k x c deep.0 own.0 own.1) (f x) (leads x))
      (all_deeper k xs deep.1)

  far_down : (n k : ℕ) (xs : List ℕ) → Each (IsDeep parents k) xs
      → Each (IsDeep parents (k + n)) (further f n xs)
  far_down zero k xs deep = subst (λ m. Each (IsDeep parents m) xs) (omega arith) deep
  far_down (suc n) k xs deep =
      subst (λ m. Each (IsDeep parents m) (further f n (flat_map f xs))) (omega arith)
      (far_down n (suc k) (flat_map f xs) (all_deeper k xs deep))

  none_left : IsForest parents → (xs : List ℕ) → Each (λ p. p < length parents) xs
      → further f (suc (length parents)) xs ≡ []
  none_left is_forest xs within =
      by_all (further f (suc (length parents)) xs)
      (far_down (suc (length parents)) 0 xs (Each-map (λ p. p < length parents)
      (IsDeep parents 0) (λ p lt. (lt, λ d r ends. omega arith)) xs within))
    where
      by_all : (ys : List ℕ) → Each (IsDeep parents (0 + suc (length parents))) ys → ys ≡ []
      by_all [] deep = refl
      by_all (y ∷ ys) deep =
          let own = is_forest y deep.0.0 in
          absurd (omega (arith, own.1, deep.0.1 own.0 (root_of parents y) own.2))

  -- the trees of the roots hold all places
  pub all_once : IsForest parents → LeadsBelow (length parents) parents → (xs : List ℕ)
      → IsPermutation (range_with_len 0 (length parents)) xs
      → Each (λ p. p < length parents) xs
      → ((p : ℕ) → f p ≡ filter (is_child parents p) xs)
      → IsPermutation (range_with_len 0 (length parents))
      (flat_map (tree_of f (length parents)) (filter (is_root parents) xs))
  all_once is_forest below xs moved within is =
      let n = length parents in
      let range = range_with_len 0 n in
      let roots = filter (is_root parents) xs in
      let rest = filter (λ x. not (is_root parents x)) xs in
      let under : IsPermutation rest (flat_map f xs) =
      IsPermutation-trans rest (flat_map f range) (flat_map f xs)
      (subst (λ l. IsPermutation l (flat_map f range))
      (filter_agree (has_below parents n) (λ x. not (is_root parents x)) has_parent xs)
      (subst (λ g. IsPermutation (filter (has_below parents n) xs) (flat_map g range))
      (λ i p. sym (is p) i)
      (IsPermutation-sym (flat_map (λ p. filter (is_child parents p) xs) range)
      (filter (has_below parents n) xs) (children_below parents xs n))))
      (flat_map_permutation f range xs moved) in
      let split : IsPermutation xs (roots ++ flat_map f xs) =
      IsPermutation-trans xs (roots ++ rest) (roots ++ flat_map f xs)
      (IsPermutation-filter_both (is_root parents) (λ x. not (is_root parents x)) (λ x. refl) xs)
      (IsPermutation-append_right roots rest (flat_map f xs) under) in
      IsPermutation-trans range xs (flat_map (tree_of f n) roots) moved
      (subst (IsPermutation xs) (append-nil (flat_map (tree_of f n) roots))
      (subst (λ l. IsPermutation xs (flat_map (tree_of f n) roots ++ l))
      (none_left is_forest xs within) (levels f n roots xs split)))
    where
      has_parent : (x : ℕ) → has_below parents (length parents) x ≡ not (is_root parents x)
      has_parent x = by_target (target parents x) (below x)
        where
          by_target : (t : Option ℕ) → ((q : ℕ) → t ≡ Some q → q < length parents)
              → option_map_or (λ q. nat_lt q (length parents)) t false ≡ not (is_none t)
          by_target None lt = refl
          by_target (Some q) lt =
              let there = lt q refl in grind (arith, nat_tests)
