-- Numbers of a pattern: decimal digits without a leading zero.
use Rattle.std.specs.Prelude.{◌-◌, ◌*◌, ◌^◌, ℕ, nat_le, List, [], ◌∷◌}
use Rattle.std.specs.Prelude.{Option, Some, None, if◌then◌else◌}
use Rattle.std.specs.Str.{byte}
use Rattle.std.specs.Str.Parse.{digits_value}
use Rattle.mail_base.specs.Number.{is_number}
use Rattle.mail_base.specs.Places.{split_once}

-- the greatest number of a pattern
abbrev pub greatest : ℕ
greatest = 2 ^ 63 - 1

-- the number, unless it is past the greatest
abbrev pub up_to_greatest : ℕ → Option ℕ
up_to_greatest n = if nat_le n greatest then Some n else None

-- the number that a text writes
abbrev pub number_of : List ℕ → Option ℕ
number_of text = if is_number text then up_to_greatest (digits_value 10 text) else None

-- a number times a unit
abbrev pub times : ℕ → Option ℕ → Option ℕ
times unit None = None
times unit (Some n) = up_to_greatest (n * unit)

-- the number before the letter of a unit, which ends the text
abbrev pub in_unit : ℕ → List ℕ × List ℕ → Option ℕ
in_unit unit (digits, []) = times unit (number_of digits)
in_unit unit (digits, b ∷ rest) = None

-- the number before a unit, where the text has that unit, or else the other
abbrev pub with_unit : ℕ → Option (List ℕ × List ℕ) → Option ℕ → Option ℕ
with_unit unit None other = other
with_unit unit (Some parts) other = in_unit unit parts

-- a number of bytes: K is 1,024 of them, and M the square of that
abbrev pub size_of : List ℕ → Option ℕ
size_of text =
    with_unit 1_024 (split_once (byte "K") text)
    (with_unit 1_048_576 (split_once (byte "M") text) (number_of text))
