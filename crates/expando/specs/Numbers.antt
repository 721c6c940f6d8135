-- Numbers in a format: decimal digits without a leading zero.
use Rattle.std.specs.Prelude.{◌&&◌, ◌-◌, ◌^◌, ℕ, not, nat_le, List, [], ◌∷◌}
use Rattle.std.specs.Prelude.{drop, take, min, Option, Some, None, if◌then◌else◌}
use Rattle.std.specs.List.{position_or_len}
use Rattle.std.specs.Char.{is_ascii_digit}
use Rattle.std.specs.Str.Parse.{digits_value}
use Rattle.mail_base.specs.Number.{is_number}

-- how many digits stand at the front
abbrev pub digits_len : List ℕ → ℕ
digits_len text = position_or_len (λ b. not (is_ascii_digit b)) text

-- the digits at the front, and what stands behind them
abbrev pub digits_at : List ℕ → List ℕ × List ℕ
digits_at text = (take (digits_len text) text, drop (digits_len text) text)

-- the columns of no limit
abbrev pub no_limit : ℕ
no_limit = 2 ^ 64 - 1

-- the number, or no limit where it is past that
abbrev pub number_of : List ℕ → Option ℕ
number_of text = if is_number text then Some (min (digits_value 10 text) no_limit) else None

-- a width of at most 500 columns; no digits are a width of none
abbrev pub width_of : List ℕ → Option ℕ
width_of [] = Some 0
width_of (b ∷ rest) =
    if is_number (b ∷ rest) && nat_le (digits_value 10 (b ∷ rest)) 500
    then Some (digits_value 10 (b ∷ rest))
    else None
