-- Numbers of decimal digits without a leading zero.
use Rattle.std.specs.Prelude.{◌==◌, ◌&&◌, ℕ, Bool, false, not, List, [], ◌∷◌}
use Rattle.std.specs.Str.{all_ascii_digits, byte}

-- a number: digits alone, without a leading zero
abbrev pub is_number : List ℕ → Bool
is_number [] = false
is_number (b ∷ []) = all_ascii_digits (b ∷ [])
is_number (b ∷ c ∷ rest) = not (b == byte "0") && all_ascii_digits (b ∷ c ∷ rest)
