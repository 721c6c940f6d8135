-- Lists by what is among them, which the definitions of this crate share.
use Rattle.std.specs.Prelude.{◌≡◌, ◌⊎◌, ℕ, Bool, false, ◌||◌, List, [], ◌∷◌}
use Rattle.std.specs.Str.{bytes_eq}

-- it is in the list
abbrev pub Among : {A : Type 0} → A → List A → Type 0
Among x [] = ⊥
Among x (y ∷ ys) = (x ≡ y) ⊎ Among x ys

-- the bytes are one of these
abbrev pub has : List (List ℕ) → List ℕ → Bool
has [] bytes = false
has (key ∷ keys) bytes = bytes_eq key bytes || has keys bytes
