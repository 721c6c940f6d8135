-- How ids are taken, each once.
use Rattle.std.proofs.Common.{◌≡◌, ℕ, Bool, true, false, ◌||◌, List, [], ◌∷◌, ◌++◌, map, refl, ap}
use Rattle.std.proofs.Common.{append_assoc}
use Rattle.std.specs.List.{list_any}
use Rattle.std.specs.Str.{bytes_eq}
use Rattle.std.specs.Prelude.{if◌then◌else◌}
use Rattle.headers.specs.Candidates.{with_id, new_ids}

-- a test of what a list maps to
pub list_any-map : {X Y : Type 0} (p : Y → Bool) (f : X → Y) (xs : List X)
    → list_any p (map f xs) ≡ list_any (λ x. p (f x)) xs
list_any-map p f [] = refl
list_any-map p f (x ∷ xs) = ap (λ t. p (f x) || t) (list_any-map p f xs)

new_ids_if : (t : Bool) (names : List (List ℕ)) (id : List ℕ) (rest : List (List ℕ))
    → (if t then names else names ++ id ∷ [])
    ++ new_ids (if t then names else names ++ id ∷ []) rest ≡ names
    ++ (if t then new_ids names rest else id ∷ new_ids (names ++ id ∷ []) rest)
new_ids_if true names id rest = refl
new_ids_if false names id rest = append_assoc names (id ∷ []) (new_ids (names ++ id ∷ []) rest)

-- one id is taken, and the rest goes on
pub new_ids-more : (names : List (List ℕ)) (id : List ℕ) (rest : List (List ℕ))
    → with_id names id ++ new_ids (with_id names id) rest ≡ names ++ new_ids names (id ∷ rest)
new_ids-more names id rest = new_ids_if (list_any (bytes_eq id) names) names id rest
