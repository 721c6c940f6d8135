-- Numbers of decimal digits.
use Rattle.std.proofs.Common.{◌≡◌, ◌<◌, ◌^◌, if◌then◌else◌, ℕ, Bool, true, List, length}
use Rattle.std.proofs.Common.{None, Result, Err, sym, arith, subst}
use Rattle.std.specs.Result.{OkIff}
use Rattle.std.specs.Str.{all_ascii_digits, IsUtf8}
use Rattle.std.specs.Str.Parse.{ParsesUnsigned, digits_value}
use Rattle.std.proofs.lemmas.Fmt.{IsAscii-from_digits}
use Rattle.std.proofs.lemmas.Str.{IsUtf8-from_ascii}
use Rattle.std.proofs.lemmas.Str.Parse.{IsNumeralModel, numerals_by_value}
use Rattle.std.proofs.lemmas.Str.Parse.{tells_all_ascii_digits, parse_digits}
use Rattle.std.proofs.lemmas.Bool.Decides.{nat_tests}
use Rattle.mail_base.specs.Decimal.{decimal_in, in_range, is_digits}

own : IsNumeralModel (λ ds. all_ascii_digits ds ≡ true) (digits_value 10)
own = numerals_by_value _ tells_all_ascii_digits

pub digits_utf8 : (text : List ℕ) → all_ascii_digits text ≡ true → IsUtf8 text
digits_utf8 text digits = IsUtf8-from_ascii text (IsAscii-from_digits text (own.to text digits))

past_range : (low high number : ℕ) → high < number → None ≡ in_range low high number
past_range low high number past = grind (arith, nat_tests)

all_digits : (text : List ℕ) → is_digits text ≡ true → all_ascii_digits text ≡ true
all_digits text digits = grind (arith, nat_tests)

some_digit : (text : List ℕ) → is_digits text ≡ true → 0 < length text
some_digit text digits = grind (arith, nat_tests)

too_great : (number high : ℕ) → high < 2 ^ 32 → (number < 2 ^ 32 → ⊥) → high < number
too_great number high small beyond = omega arith

-- digits that are no u32 are past each range of u32
pub number_refused : {E : Type 0} (low high : ℕ) (text : List ℕ) (r : Result ℕ E) (e : E)
    → high < 2 ^ 32 → is_digits text ≡ true → r ≡ Err e → ParsesUnsigned 32 10 text r
    → None ≡ decimal_in low high text
number_refused low high text r e small digits refused parses =
    let fits = (0 < length text) × (digits_value 10 text < 2 ^ 32) in
    let parsed : OkIff r fits (digits_value 10 text) =
    parse_digits own 32 text r parses (all_digits text digits) in
    let beyond : fits → ⊥ =
    subst (λ (x : Result ℕ _). OkIff x fits (digits_value 10 text)) refused parsed in
    let past : high < digits_value 10 text = too_great (digits_value 10 text) high small
    (λ below. beyond (some_digit text digits, below)) in
    subst (λ (b : Bool). None ≡ (if b then in_range low high (digits_value 10 text) else None))
    (sym digits) (past_range low high (digits_value 10 text) past)
