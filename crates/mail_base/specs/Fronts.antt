-- What follows the front of a text.
use Rattle.std.specs.Prelude.{◌==◌, ℕ, List, [], ◌∷◌, length, take, drop, Option, Some, None}
use Rattle.std.specs.Prelude.{option_and_then, if◌then◌else◌}
use Rattle.std.specs.Str.{bytes_eq}

-- the next step, where the one before gave a value
infixl 10 ◌>>=◌
-- the second reading behind the first, where both read something
abbrev pub ◌>>=◌ : {A B : Type 0} → Option A → (A → Option B) → Option B
o >>= f = option_and_then f o

-- what follows the byte, where it stands at the front
abbrev pub behind : ℕ → List ℕ → Option (List ℕ)
behind byte [] = None
behind byte (b ∷ rest) = if b == byte then Some rest else None

-- what follows a text, where it stands at the front
abbrev pub behind_text : List ℕ → List ℕ → Option (List ℕ)
behind_text front s =
    if bytes_eq (take (length front) s) front then Some (drop (length front) s) else None
