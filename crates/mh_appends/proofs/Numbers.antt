-- The number of a message that is added, and the name that it has.
use Rattle.std.proofs.Common.{◌≡◌, ◌≤◌, ◌<◌, ◌^◌, ◌&&◌, ◌∙◌, ◌∷◌, [], ℕ, true, false, List, Some}
use Rattle.std.proofs.Common.{None, ap, arith, get_or, inl, inr, is_some, length, nat_le}
use Rattle.std.proofs.Common.{Option, nat_lt, unwrap_or}
use Rattle.std.proofs.lemmas.Bool.{cond-false, cond-true}
use Rattle.std.proofs.lemmas.Bool.Decides.{nat_tests}
use Rattle.std.proofs.lemmas.Fmt.{decimal_nonempty, digits_decimal, digits_value-decimal}
use Rattle.std.proofs.lemmas.Fmt.{first_decimal}
use Rattle.std.specs.Fmt.{decimal}
use Rattle.mail_base.specs.Decimal.{in_range, is_digits}
use Rattle.mail_base.proofs.NumberLemmas.{own}
use Rattle.folder_core.specs.Mh.{is_number, number_at}
use Rattle.folder_core.specs.MhNumbers.{begins_zero, number_of}
use Rattle.folder_drivers.specs.MhAppend.{IsNextNumber}

-- the next number is one that a message may have
next_bounds : (names : List (List ℕ)) (number : ℕ) → IsNextNumber names number
    → (1 ≤ number) × (number ≤ 4294967295)
next_bounds names number (inl above) =
    (omega (arith, above.1), omega (arith, above.0, above.1))
next_bounds names number (inr least) = (least.1.low, least.1.high)

no_zero : (digits : List ℕ) → 48 < get_or digits 0 0 → begins_zero digits ≡ false
no_zero [] first = absurd (omega (arith, first))
no_zero (b ∷ rest) first = grind (arith, nat_tests, first)

some_digit : (digits : List ℕ) → 0 < length digits → nat_lt 0 (length digits) ≡ true
some_digit digits some = grind (arith, nat_tests, some)

low_test : (n : ℕ) → 1 ≤ n → nat_le 1 n ≡ true
low_test n low = grind (arith, nat_tests, low)

high_test : (n : ℕ) → n ≤ 4294967295 → nat_le n 4294967295 ≡ true
high_test n high = grind (arith, nat_tests, high)

named : (n : ℕ) → 1 ≤ n → n ≤ 4294967295 → number_of (decimal n) ≡ Some n
named n low high =
    let small : n < 2 ^ 64 = omega (arith, high) in
    let digits : is_digits (decimal n) ≡ true =
    (λ i. some_digit (decimal n) (decimal_nonempty n small) i && digits_decimal own n small i) in
    let within : (nat_le 1 n && nat_le n 4294967295) ≡ true =
    (λ i. low_test n low i && high_test n high i) in
    cond-false (begins_zero (decimal n)) None _
    (no_zero (decimal n) (first_decimal n (omega (arith, low)) small))
    ∙ cond-true (is_digits (decimal n)) _ None digits
    ∙ ap (in_range 1 4294967295) (digits_value-decimal own n small)
    ∙ cond-true (nat_le 1 n && nat_le n 4294967295) (Some n) None within

-- its digits are the name of a message
pub next_named : (names : List (List ℕ)) (number : ℕ) → IsNextNumber names number
    → is_number (decimal number) ≡ true
next_named names number next = let bounds = next_bounds names number next in
    ap is_some (named number bounds.0 bounds.1)

-- and of a message of its order
pub next_order : (names : List (List ℕ)) (number : ℕ) → IsNextNumber names number
    → number_at (decimal number) ≡ number
next_order names number next = let bounds = next_bounds names number next in
    ap (λ (n : Option ℕ). unwrap_or n 0) (named number bounds.0 bounds.1)
