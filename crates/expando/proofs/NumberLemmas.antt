-- Numbers of decimal digits.
use Rattle.std.proofs.Common.{◌≡◌, ◌<◌, ◌^◌, ◌-◌, if◌then◌else◌, min, ℕ, true}
use Rattle.std.proofs.Common.{List, length, Some, None, Result, Ok, Err}
use Rattle.std.proofs.Common.{arith, ap, sym, ◌∙◌}
use Rattle.std.specs.Result.{OkIff, result_unwrap_or}
use Rattle.std.specs.Str.Parse.{ParsesUnsigned, digits_value}
use Rattle.std.proofs.lemmas.Str.Parse.{parse_digits}
use Rattle.mail_base.specs.Number.{is_number}
use Rattle.mail_base.proofs.NumberLemmas.{all_digits, own, some_digit}
use Rattle.expando.specs.Numbers.{no_limit, number_of}

past : (n : ℕ) → (n < 2 ^ 64 → ⊥) → 2 ^ 64 - 1 ≡ min n (2 ^ 64 - 1)
past n beyond = omega arith

within : (n : ℕ) → n < 2 ^ 64 → n ≡ min n (2 ^ 64 - 1)
within n fits = omega arith

capped : {E : Type 0} (n : ℕ) (digits : Type 0) (r : Result ℕ E) → digits
    → OkIff r (digits × (n < 2 ^ 64)) n
    → result_unwrap_or r no_limit ≡ min n no_limit
capped n digits (Ok m) known parsed = parsed.1 ∙ within n parsed.0.1
capped n digits (Err e) known parsed = past n (λ fits. parsed (known, fits))

-- digits that are no number of 64 bits are past each
pub number_capped : {E : Type 0} (text : List ℕ) (r : Result ℕ E) (n : ℕ) → is_number text ≡ true
    → ParsesUnsigned 64 10 text r → n ≡ result_unwrap_or r no_limit → Some n ≡ number_of text
number_capped text r n number parses is =
    let parsed : OkIff r ((0 < length text)
    × (digits_value 10 text < 2 ^ 64)) (digits_value 10 text) =
    parse_digits own 64 text r parses (all_digits text number) in
    ap Some (is ∙ capped (digits_value 10 text) (0 < length text) r (some_digit text number) parsed)
    ∙ ap (λ b. if b then Some (min (digits_value 10 text) no_limit) else None) (sym number)
