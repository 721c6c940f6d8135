-- Numbers of decimal digits.
use Rattle.std.specs.Prelude.{◌&&◌, ℕ, Bool, nat_le, nat_lt, List, length, Option, Some, None}
use Rattle.std.specs.Prelude.{if◌then◌else◌}
use Rattle.std.specs.Str.{all_ascii_digits}
use Rattle.std.specs.Str.Parse.{digits_value}

-- decimal digits alone, and at least one of them
abbrev pub is_digits : List ℕ → Bool
is_digits text = nat_lt 0 (length text) && all_ascii_digits text

-- the number, if it is in the range
abbrev pub in_range : ℕ → ℕ → ℕ → Option ℕ
in_range low high number = if nat_le low number && nat_le number high then Some number else None

-- a number of decimal digits alone, from the one to the other
abbrev pub decimal_in : ℕ → ℕ → List ℕ → Option ℕ
decimal_in low high text = if is_digits text then in_range low high (digits_value 10 text) else None
