-- Bytes as two hexadecimal digits.
use Rattle.std.specs.Prelude.{◌+◌, ◌*◌, ℕ, nat_lt, List, ◌∷◌, Option, Some, None, if◌then◌else◌}
use Rattle.std.specs.Char.{digit_value}
use Rattle.mail_base.specs.Fronts.{◌>>=◌}

-- the value of a digit, in either case
abbrev pub hex_value : ℕ → Option ℕ
hex_value b = if nat_lt (digit_value b) 16 then Some (digit_value b) else None

-- the byte that two digits write, and what follows them
abbrev pub hex_byte : List ℕ → Option (ℕ × List ℕ)
hex_byte (h ∷ l ∷ rest) = do
  high ← hex_value h
  low ← hex_value l
  Some (high * 16 + low, rest)
hex_byte _ = None
