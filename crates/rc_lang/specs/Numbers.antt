-- Numbers as values of variables.
use Rattle.std.specs.Prelude.{ℕ, Bool, false, ◌==◌, List, [], ◌∷◌, Option, None, if◌then◌else◌}
use Rattle.std.specs.Str.{byte}
use Rattle.mail_base.specs.Decimal.{decimal_in}

-- a zero, with more behind it
abbrev pub has_leading_zero : List ℕ → Bool
has_leading_zero [] = false
has_leading_zero (b ∷ []) = false
has_leading_zero (b ∷ c ∷ rest) = b == byte "0"

-- a number of at most this size, of decimal digits alone without a leading zero
abbrev pub number_within : ℕ → List ℕ → Option ℕ
number_within most text = if has_leading_zero text then None else decimal_in 0 most text
