-- Numbers of the messages of an MH folder (mh-mail(5)).
use Rattle.std.specs.Prelude.{◌==◌, ℕ, Bool, false, List, [], ◌∷◌, Option, None, if◌then◌else◌}
use Rattle.std.specs.Str.{byte}
use Rattle.mail_base.specs.Decimal.{decimal_in}

-- a name begins with a zero
abbrev pub begins_zero : List ℕ → Bool
begins_zero [] = false
begins_zero (b ∷ rest) = b == byte "0"

-- the number that digits alone write without zeros in front
abbrev pub number_of : List ℕ → Option ℕ
number_of name = if begins_zero name then None else decimal_in 1 4294967295 name
