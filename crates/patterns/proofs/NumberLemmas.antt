-- Numbers of decimal digits.
use Rattle.std.proofs.Common.{◌≡◌, ◌<◌, ◌^◌, ◌-◌, if◌then◌else◌, ℕ, true}
use Rattle.std.proofs.Common.{List, length, Some, None, Result, Ok, Err}
use Rattle.std.proofs.Common.{arith, ap, sym, ◌∙◌, ⊎_elim}
use Rattle.std.specs.Result.{OkIff}
use Rattle.std.specs.Str.Parse.{ParsesUnsigned, digits_value}
use Rattle.std.proofs.lemmas.Str.Parse.{parse_digits}
use Rattle.std.proofs.lemmas.Bool.{cases_lt, lt-leb}
use Rattle.mail_base.specs.Number.{is_number}
use Rattle.mail_base.proofs.NumberLemmas.{all_digits, own, some_digit}
use Rattle.patterns.specs.Numbers.{greatest, number_of, up_to_greatest}

beyond : {E : Type 0} (n : ℕ) (digits : Type 0) (r : Result ℕ E) (e : E) → r ≡ Err e → digits
    → OkIff r (digits × (n < 2 ^ 64)) n → 2 ^ 63 - 1 < n
beyond n digits (Ok m) e is known parsed = absurd cc
beyond n digits (Err d) e is known parsed = ⊎_elim
    (λ fits. absurd (parsed (known, fits))) (λ past. omega arith) (cases_lt n (2 ^ 64))

-- digits that are no number of 64 bits are past the greatest
pub number_past : {E : Type 0} (text : List ℕ) (r : Result ℕ E) (e : E) → is_number text ≡ true
    → r ≡ Err e → ParsesUnsigned 64 10 text r → None ≡ number_of text
number_past text r e number is parses =
    let n = digits_value 10 text in
    let parsed : OkIff r ((0 < length text) × (n < 2 ^ 64)) n =
    parse_digits own 64 text r parses (all_digits text number) in
    let past = beyond n (0 < length text) r e is (some_digit text number) parsed in
    sym (ap (λ b. if b then up_to_greatest n else None) number
    ∙ ap (λ b. if b then Some n else None) (lt-leb n greatest past))
