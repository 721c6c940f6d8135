-- How a table is read through what is seen of its rows.
use Rattle.std.proofs.Common.{◌≡◌, ℕ, zero, suc, ◌<◌, Bool, cond, ◌||◌, List, [], ◌∷◌, map}
use Rattle.std.proofs.Common.{length, refl, sym, ap}
use Rattle.std.proofs.Common.{◌∙◌, Some, option_map, find, true, false, unwrap_or}
use Rattle.std.specs.Prelude.{slice_get}
use Rattle.std.specs.List.{list_any, slice_index_or}
use Rattle.std.proofs.lemmas.Option.{slice_get-get_or}

find_map : {X Y : Type 0} (p : Y → Bool) (f : X → Y) (xs : List X)
    → find p (map f xs) ≡ option_map f (find (λ x. p (f x)) xs)
find_map p f [] = refl
find_map p f (x ∷ xs) =
    elim (p (f x)) as (λ b. cond b (Some (f x)) (find p (map f xs))
    ≡ option_map f (cond b (Some x) (find (λ x. p (f x)) xs)))
    [ true ↦ refl | false ↦ find_map p f xs ]

-- what is found in a table is what is found in what is seen of it
pub same_found : {X Y : Type 0} (p : Y → Bool) (f : X → Y) (xs : List X) (ys : List Y)
    → map f xs ≡ ys → option_map f (find (λ x. p (f x)) xs) ≡ find p ys
same_found p f xs ys same = sym (find_map p f xs) ∙ ap (find p) same

any_map : {X Y : Type 0} (p : Y → Bool) (f : X → Y) (xs : List X)
    → list_any p (map f xs) ≡ list_any (λ x. p (f x)) xs
any_map p f [] = refl
any_map p f (x ∷ xs) = ap (λ b. p (f x) || b) (any_map p f xs)

-- and whether there is any
pub same_any : {X Y : Type 0} (p : Y → Bool) (f : X → Y) (xs : List X) (ys : List Y)
    → map f xs ≡ ys → list_any (λ x. p (f x)) xs ≡ list_any p ys
same_any p f xs ys same = sym (any_map p f xs) ∙ ap (list_any p) same

slice_get_map : {X Y : Type 0} (f : X → Y) (xs : List X) (n : ℕ)
    → slice_get (map f xs) n ≡ option_map f (slice_get xs n)
slice_get_map f [] n = refl
slice_get_map f (x ∷ xs) zero = refl
slice_get_map f (x ∷ xs) (suc n) = slice_get_map f xs n

-- and what stands at a place
pub same_row : {X Y : Type 0} (f : X → Y) (xs : List X) (ys : List Y) (n : ℕ) (d : X)
    → map f xs ≡ ys → n < length xs → Some (f (slice_index_or xs n d)) ≡ slice_get ys n
same_row f xs ys n d same within =
    ap (option_map f) (sym (slice_get-get_or xs n d within)) ∙ sym (slice_get_map f xs n)
    ∙ ap (λ l. slice_get l n) same

pub some_same : {X : Type 0} {x y : X} → Some x ≡ Some y → x ≡ y
some_same {X} {x} {y} same = ap (λ o. unwrap_or o x) same
