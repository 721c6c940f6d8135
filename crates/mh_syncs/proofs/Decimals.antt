-- Numbers are written in one way.
use Rattle.std.proofs.Common.{◌≡◌, ◌≤◌, ◌<◌, ◌&&◌, ℕ, Bool, true, false, List, [], ◌∷◌}
use Rattle.std.proofs.Common.{Some, None, length, nat_lt, nat_le, if◌then◌else◌, refl, sym}
use Rattle.std.proofs.Common.{Option, is_some, ◌∙◌, ap, arith}
use Rattle.std.specs.Prelude.{get_or}
use Rattle.std.specs.Char.{is_ascii_digit}
use Rattle.std.specs.Fmt.{decimal}
use Rattle.std.specs.List.{list_all}
use Rattle.std.specs.Str.{IsUtf8, all_ascii_digits}
use Rattle.mail_base.proofs.DecimalLemmas.{digits_utf8}
use Rattle.std.specs.Str.Parse.{digits_value}
use Rattle.std.proofs.lemmas.Bool.{and_from, and_parts}
use Rattle.std.proofs.lemmas.Bool.Decides.{nat_tests}
use Rattle.std.proofs.lemmas.Fmt.{decimal-digits_value, decimal_is_IsNumeral, first_decimal}
use Rattle.std.proofs.lemmas.Str.Parse.{IsNumeralModel, numerals_by_value, tells_all_ascii_digits}
use Rattle.folder_core.specs.MhNumbers.{begins_zero, number_of}
use Rattle.mail_base.specs.Decimal.{decimal_in, in_range, is_digits}

true_false : ◌≡◌ {A = Bool} true false → ⊥
true_false e = cc

own : IsNumeralModel (λ ds. all_ascii_digits ds ≡ true) (digits_value 10)
own = numerals_by_value _ tells_all_ascii_digits

-- digits in a range without a zero in front
pub record Writes (n : ℕ) (name : List ℕ) : Type 0 where
  pub digits : is_digits name ≡ true
  pub value : digits_value 10 name ≡ n
  pub low : 1 ≤ n
  pub high : n ≤ 4294967295
  pub front : begins_zero name ≡ false

in_bounds : (low high n m : ℕ) → in_range low high n ≡ Some m → (n ≡ m) × ((low ≤ m) × (m ≤ high))
in_bounds low high n m is =
    by_test (nat_le low n && nat_le n high) refl is
  where
    by_test : (t : Bool) → (nat_le low n && nat_le n high) ≡ t
        → (if t then Some n else None) ≡ Some m → (n ≡ m) × ((low ≤ m) × (m ≤ high))
    by_test false e is = absurd (cc)
    by_test true e is =
        let same : n ≡ m = cc in
        let parts = and_parts (nat_le low n) (nat_le n high) e in
        let above : low ≤ n = (let h = parts.0 in grind (arith, nat_tests)) in
        let below : n ≤ high = (let h = parts.1 in grind (arith, nat_tests)) in
        (same, (omega (arith, above, same), omega (arith, below, same)))

pub number_writes : (name : List ℕ) (n : ℕ) → number_of name ≡ Some n → Writes n name
number_writes name n is = by_zero (begins_zero name) refl is
  where
    by_zero : (zero_first : Bool) → begins_zero name ≡ zero_first
        → (if zero_first then None else decimal_in 1 4294967295 name) ≡ Some n → Writes n name
    by_zero true e is = absurd (cc)
    by_zero false e is = by_digits (is_digits name) refl is
      where
        by_digits : (digits : Bool) → is_digits name ≡ digits
            → (if digits then in_range 1 4294967295 (digits_value 10 name) else None) ≡ Some n
            → Writes n name
        by_digits false d told = absurd (cc)
        by_digits true d told =
            let bounds = in_bounds 1 4294967295 (digits_value 10 name) n told in
            record { digits = d; value = bounds.0; low = bounds.1.0; high = bounds.1.1; front = e }

no_zero : (name : List ℕ) → begins_zero name ≡ false → get_or name 0 0 ≡ 48 → length name ≡ 1
no_zero [] front is = absurd (omega (arith, is))
no_zero (b ∷ rest) front is = absurd (true_false (grind (arith, nat_tests, front, is)))

written : (name : List ℕ) (n : ℕ) → Writes n name → decimal n ≡ name
written name n w =
    let parts = and_parts (nat_lt 0 (length name)) (all_ascii_digits name) w.digits in
    let some : 0 < length name = (let h = parts.0 in grind (arith, nat_tests)) in
    ap decimal (sym w.value)
    ∙ decimal-digits_value own name parts.1 some (no_zero name w.front)
    (omega (arith, w.value, w.high))

-- two names of one number are one
pub number_once : (a b : List ℕ) (n : ℕ) → number_of a ≡ Some n → number_of b ≡ Some n → a ≡ b
number_once a b n first second =
    sym (written a n (number_writes a n first)) ∙ written b n (number_writes b n second)

-- What is written of a number.

module _ (n : ℕ) (low : 1 ≤ n) (high : n ≤ 4294967295) where
  pub decimal_digits : all_ascii_digits (decimal n) ≡ true
  decimal_digits = own.from (decimal n) (decimal_is_IsNumeral n (omega (arith, high))).0.1

  starts : (name : List ℕ) → 48 < get_or name 0 0 → begins_zero name ≡ false
  starts [] above = refl
  starts (b ∷ rest) above = grind (arith, nat_tests, above)

  some_digits : is_digits (decimal n) ≡ true
  some_digits = and_from (nat_lt 0 (length (decimal n))) (all_ascii_digits (decimal n))
      (let some = (decimal_is_IsNumeral n (omega (arith, high))).0.0 in grind (arith, nat_tests))
      decimal_digits

  within : (m : ℕ) → m ≡ n → in_range 1 4294967295 m ≡ Some n
  within m same =
      ap (in_range 1 4294967295) same
      ∙ ap (λ (t : Bool). if t then Some n else None)
      (and_from (nat_le 1 n) (nat_le n 4294967295) (grind (arith, nat_tests, low))
      (grind (arith, nat_tests, high)))

  -- it is read as the number
  pub number_decimal : number_of (decimal n) ≡ Some n
  number_decimal =
      ap (λ (t : Bool). if t then None else decimal_in 1 4294967295 (decimal n))
      (starts (decimal n) (first_decimal n (omega (arith, low)) (omega (arith, high))))
      ∙ ap (λ (t : Bool). if t then in_range 1 4294967295 (digits_value 10 (decimal n)) else None)
      some_digits
      ∙ within (digits_value 10 (decimal n)) (decimal_is_IsNumeral n (omega (arith, high))).1

-- what holds of each digit holds of digits
pub digits_all : (q : ℕ → Bool) → ((d : ℕ) → is_ascii_digit d ≡ true → q d ≡ true)
    → (ds : List ℕ) → all_ascii_digits ds ≡ true → list_all q ds ≡ true
digits_all q each [] all = refl
digits_all q each (d ∷ ds) all =
    let both = and_parts (is_ascii_digit d) (all_ascii_digits ds) all in
    ap (λ b. b && list_all q ds) (each d both.0) ∙ digits_all q each ds both.1

-- the digits of a number are text
pub number_utf8 : (name : List ℕ) (n : ℕ) → number_of name ≡ Some n → IsUtf8 name
number_utf8 name n is =
    digits_utf8 name
    (and_parts (nat_lt 0 (length name)) (all_ascii_digits name) (number_writes name n is).digits).1

pub number_text : (name : List ℕ) (number : Option ℕ) → number ≡ number_of name
    → is_some number ≡ true → IsUtf8 name
number_text name None told some = absurd (true_false (sym some))
number_text name (Some n) told some = number_utf8 name n (sym told)
