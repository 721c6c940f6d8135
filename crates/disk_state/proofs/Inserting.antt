-- A plan with one action more.
use Rattle.std.proofs.Common.{◌≡◌, ◌∷◌, ◌++◌, ℕ, List, map, take, drop, ◌∙◌, sym, ap}
use Rattle.std.proofs.lemmas.List.{map-append, drop-map, take-map}
use Rattle.std.specs.List.{insert}

pub map-insert : {A B : Type 0} (f : A → B) (xs : List A) (i : ℕ) (x : A)
    → map f (insert xs i x) ≡ insert (map f xs) i (f x)
map-insert {B = B} f xs i x =
    map-append f (take i xs) (x ∷ drop i xs)
    ∙ ap (λ (l : List B). l ++ f x ∷ map f (drop i xs)) (sym (take-map f i xs))
    ∙ ap (λ (l : List B). take i (map f xs) ++ f x ∷ l) (sym (drop-map f i xs))
