-- Numbers of decimal digits without a leading zero.
use Rattle.std.proofs.Common.{◌≡◌, ◌<◌, true, ℕ, List, [], ◌∷◌, length, refl, arith}
use Rattle.std.specs.Str.{all_ascii_digits, IsUtf8}
use Rattle.std.specs.Str.Parse.{digits_value}
use Rattle.std.proofs.lemmas.Fmt.{IsAscii-from_digits}
use Rattle.std.proofs.lemmas.Str.{IsUtf8-from_ascii}
use Rattle.std.proofs.lemmas.Str.Parse.{IsNumeralModel, numerals_by_value, tells_all_ascii_digits}
use Rattle.std.proofs.lemmas.Bool.{and_parts}
use Rattle.mail_base.specs.Number.{is_number}

pub own : IsNumeralModel (λ ds. all_ascii_digits ds ≡ true) (digits_value 10)
own = numerals_by_value _ tells_all_ascii_digits

pub all_digits : (text : List ℕ) → is_number text ≡ true → all_ascii_digits text ≡ true
all_digits [] number = refl
all_digits (b ∷ []) number = number
all_digits (b ∷ c ∷ rest) number = (and_parts _ _ number).1

pub some_digit : (text : List ℕ) → is_number text ≡ true → 0 < length text
some_digit [] number = cc
some_digit (b ∷ rest) number = omega arith

pub number_utf8 : (text : List ℕ) → is_number text ≡ true → IsUtf8 text
number_utf8 text number = IsUtf8-from_ascii text (IsAscii-from_digits text (own.to text
    (all_digits text number)))
