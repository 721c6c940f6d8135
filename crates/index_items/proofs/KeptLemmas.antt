-- Lists of which some are kept.
use Rattle.std.proofs.Common.{◌≡◌, ◌∙◌, ◌+◌, ◌<◌, ◌++◌, ◌∷◌, [], Bool, List, ℕ, ap, append_assoc}
use Rattle.std.proofs.Common.{◌≤◌, arith, drop, false, get_or, length, map, refl, sym, take, true}
use Rattle.std.proofs.lemmas.List.{at_drop_more, take_more}
use Rattle.index_items.specs.Kept.{kept}

-- the next item is kept
pub kept_next : {X : Type 0} (xs : List X) (place : ℕ) (marks : List Bool) → place < length xs
    → take (place + 1) xs ++ kept marks (drop (place + 1) xs)
    ≡ take place xs ++ kept (true ∷ marks) (drop place xs)
kept_next [] place marks within = absurd (omega (arith, within))
kept_next {X} (x ∷ xs) place marks within =
    let all : List X = x ∷ xs in
    ap (λ (front : List X). front ++ kept marks (drop (place + 1) all))
    (take_more all place x within)
    ∙ append_assoc (take place all) (get_or all place x ∷ []) (kept marks (drop (place + 1) all))
    ∙ ap (λ (rest : List X). take place all ++ rest)
    (sym (at_drop_more (kept (true ∷ marks)) all place x within))

-- no more are kept than there were
pub length-kept : {X : Type 0} (marks : List Bool) (xs : List X)
    → length (kept marks xs) ≤ length xs
length-kept [] xs = omega arith
length-kept (mark ∷ marks) [] = omega arith
length-kept (true ∷ marks) (x ∷ xs) = omega (arith, length-kept marks xs)
length-kept (false ∷ marks) (x ∷ xs) = omega (arith, length-kept marks xs)

-- it does not matter whether items are kept before or after something is made of each
pub map-kept : {X Y : Type 0} (f : X → Y) (marks : List Bool) (xs : List X)
    → map f (kept marks xs) ≡ kept marks (map f xs)
map-kept f [] xs = refl
map-kept f (mark ∷ marks) [] = refl
map-kept f (true ∷ marks) (x ∷ xs) = ap (λ ys. f x ∷ ys) (map-kept f marks xs)
map-kept f (false ∷ marks) (x ∷ xs) = map-kept f marks xs
