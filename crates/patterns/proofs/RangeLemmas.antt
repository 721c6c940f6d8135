-- Ranges of numbers that are written are read as themselves.
use Rattle.std.proofs.Common.{◌≡◌, ◌∙◌, ◌==◌, ◌<◌, ◌≤◌, ◌^◌, ◌-◌, ◌&&◌, ◌++◌, ℕ, Bool, true, false}
use Rattle.std.proofs.Common.{not}
use Rattle.std.proofs.Common.{List, [], ◌∷◌, Some, None, get_or, length, nat_le, option_map}
use Rattle.std.proofs.Common.{refl, sym, ap, arith}
use Rattle.std.proofs.lemmas.Bool.{and_from, and_parts, eqb-true, leb-true}
use Rattle.std.proofs.lemmas.Bool.Decides.{nat_tests}
use Rattle.std.proofs.lemmas.Fmt.{decimal_digit, decimal_nonempty, digits_decimal}
use Rattle.std.proofs.lemmas.Fmt.{digits_value-decimal, first_decimal}
use Rattle.std.proofs.lemmas.List.{append-nil}
use Rattle.std.proofs.lemmas.List.Folds.{list_all-append}
use Rattle.std.specs.Char.{is_ascii_digit}
use Rattle.std.specs.Fmt.{decimal}
use Rattle.std.specs.List.{list_all}
use Rattle.std.specs.Prelude.{if◌then◌else◌}
use Rattle.std.specs.Str.{all_ascii_digits}
use Rattle.std.specs.Str.Parse.{digits_value}
use Rattle.mail_base.specs.Places.{split_once}
use Rattle.patterns.specs.Arguments.{is_end, is_quote}
use Rattle.patterns.specs.Laws.{RangesAreRead}
use Rattle.mail_base.specs.Number.{is_number}
use Rattle.patterns.specs.Numbers.{greatest, number_of, up_to_greatest, with_unit}
use Rattle.patterns.specs.Printed.{can_write_range, is_bare, lacks, printed_range}
use Rattle.patterns.specs.RangeTexts.{between, exactly_or_between, measured, range_of}
use Rattle.patterns_match.specs.declared.range.Range.{Range}
use Rattle.patterns_match.specs.declared.range.Range.TheVariants as range
use Rattle.patterns.specs.declared.range_text.Measure.{Measure}
use Rattle.patterns.specs.declared.range_text.Measure.TheVariants.{Count, Size}
use Rattle.mail_base.proofs.NumberLemmas.{own}
use Rattle.patterns.proofs.PlaceLemmas.{digits_all, no_split, split_read}

no_zero : (b : ℕ) → 48 < b → not (b == 48) ≡ true
no_zero b more = grind (arith, nat_tests)

led_number : (ds : List ℕ) → all_ascii_digits ds ≡ true → 48 < get_or ds 0 0 → is_number ds ≡ true
led_number [] all first = absurd (omega arith)
led_number (b ∷ []) all first = all
led_number (b ∷ c ∷ rest) all first =
    ap (λ t. t && all_ascii_digits (b ∷ c ∷ rest)) (no_zero b first) ∙ all

decimal_number : (n : ℕ) → n < 2 ^ 64 → is_number (decimal n) ≡ true
decimal_number n small = by_test (n == 0) refl
  where
    above : (n == 0) ≡ false → 0 < n
    above e = grind (arith, nat_tests)

    by_test : (t : Bool) → (n == 0) ≡ t → is_number (decimal n) ≡ true
    by_test true e =
        ap is_number (ap decimal (eqb-true n 0 e) ∙ decimal_digit 0 (omega arith))
    by_test false e =
        led_number (decimal n) (digits_decimal own n small) (first_decimal n (above e) small)

fits : (n : ℕ) → nat_le n greatest ≡ true → n < 2 ^ 64
fits n small = let le : n ≤ 2 ^ 63 - 1 = leb-true n greatest small in omega arith

pub number_known : (n : ℕ) → nat_le n greatest ≡ true → number_of (decimal n) ≡ Some n
number_known n small =
    ap (λ t. if t then up_to_greatest (digits_value 10 (decimal n)) else None)
    (decimal_number n (fits n small))
    ∙ ap up_to_greatest (digits_value-decimal own n (fits n small))
    ∙ ap (λ t. if t then Some n else None) small

-- digits are no bytes of other kinds
dash_apart : (d : ℕ) → is_ascii_digit d ≡ true → not (d == 45) ≡ true
dash_apart d is = grind (arith, nat_tests)

units_apart : (d : ℕ) → is_ascii_digit d ≡ true
    → (not (d == 75) ≡ true) × (not (d == 77) ≡ true)
units_apart d is = (grind (arith, nat_tests), grind (arith, nat_tests))

signs_apart : (d : ℕ) → is_ascii_digit d ≡ true → (d == 60 ≡ false) × (d == 62 ≡ false)
signs_apart d is = (grind (arith, nat_tests), grind (arith, nat_tests))

-- a number of each measure
measured_known : (m : Measure) (n : ℕ) → nat_le n greatest ≡ true → measured m (decimal n) ≡ Some n
measured_known Count n small = number_known n small
measured_known Size n small =
    let digits = digits_decimal own n (fits n small) in
    ap (λ s. with_unit 1_024 s
    (with_unit 1_048_576 (split_once 77 (decimal n)) (number_of (decimal n))))
    (no_split 75 (decimal n)
    (digits_all (λ x. not (x == 75)) (λ d is. (units_apart d is).0) (decimal n) digits))
    ∙ ap (λ s. with_unit 1_048_576 s (number_of (decimal n)))
    (no_split 77 (decimal n)
    (digits_all (λ x. not (x == 77)) (λ d is. (units_apart d is).1) (decimal n) digits))
    ∙ number_known n small

module _ (m : Measure) where
  -- digits begin no sign
  led : (ds tail : List ℕ) → all_ascii_digits ds ≡ true → 0 < length ds
      → range_of m (ds ++ tail)
      ≡ exactly_or_between m (ds ++ tail) (split_once 45 (ds ++ tail))
  led [] tail all some = absurd (omega arith)
  led (b ∷ ds) tail all some =
      let apart = signs_apart b (and_parts (is_ascii_digit b) (all_ascii_digits ds) all).0 in
      rw (apart.0, apart.1) refl

  up_to : (ds : List ℕ) → 0 < length ds
      → between m ([], ds) ≡ option_map range.UpTo (measured m ds)
  up_to [] some = absurd (omega arith)
  up_to (b ∷ ds) some = refl

  from : (ds : List ℕ) → 0 < length ds
      → between m (ds, []) ≡ option_map range.From (measured m ds)
  from [] some = absurd (omega arith)
  from (b ∷ ds) some = refl

  both : (ds es : List ℕ) (low high : ℕ) → 0 < length ds → 0 < length es
      → measured m ds ≡ Some low → measured m es ≡ Some high
      → between m (ds, es) ≡ Some (range.Between low high)
  both [] es low high some other is also = absurd (omega arith)
  both (b ∷ ds) [] low high some other is also = absurd (omega arith)
  both (b ∷ ds) (c ∷ es) low high some other is also = rw (is, also) refl

module _ (n : ℕ) (small : nat_le n greatest ≡ true) where
  digits : all_ascii_digits (decimal n) ≡ true
  digits = digits_decimal own n (fits n small)

  some_digits : 0 < length (decimal n)
  some_digits = decimal_nonempty n (fits n small)

  no_dash : lacks 45 (decimal n) ≡ true
  no_dash = digits_all (λ x. not (x == 45)) dash_apart (decimal n) digits

exactly_read : (m : Measure) (n : ℕ) → nat_le n greatest ≡ true
    → range_of m (decimal n) ≡ Some (range.Exactly n)
exactly_read m n small =
    ap (range_of m) (sym (append-nil (decimal n)))
    ∙ led m (decimal n) [] (digits n small) (some_digits n small)
    ∙ ap (λ l. exactly_or_between m l (split_once 45 l)) (append-nil (decimal n))
    ∙ ap (exactly_or_between m (decimal n)) (no_split 45 (decimal n) (no_dash n small))
    ∙ ap (option_map range.Exactly) (measured_known m n small)

-- digits before a dash
dashed : (m : Measure) (n : ℕ) (rest : List ℕ) → nat_le n greatest ≡ true
    → range_of m (decimal n ++ 45 ∷ rest) ≡ between m (decimal n, rest)
dashed m n rest small =
    led m (decimal n) (45 ∷ rest) (digits n small) (some_digits n small)
    ∙ ap (exactly_or_between m (decimal n ++ 45 ∷ rest))
    (split_read 45 (decimal n) rest (no_dash n small))

pub ranges_are_read : RangesAreRead
ranges_are_read m (range.Exactly n) small = exactly_read m n small
ranges_are_read m (range.Between low high) small =
    let parts = and_parts (nat_le low greatest) (nat_le high greatest) small in
    dashed m low (decimal high) parts.0
    ∙ both m (decimal low) (decimal high) low high (some_digits low parts.0)
    (some_digits high parts.1)
    (measured_known m low parts.0) (measured_known m high parts.1)
ranges_are_read m (range.UpTo high) small =
    ap (exactly_or_between m (45 ∷ decimal high)) (split_read 45 [] (decimal high) refl)
    ∙ up_to m (decimal high) (some_digits high small)
    ∙ ap (option_map range.UpTo) (measured_known m high small)
ranges_are_read m (range.From low) small =
    dashed m low [] small ∙ from m (decimal low) (some_digits low small)
    ∙ ap (option_map range.From) (measured_known m low small)
ranges_are_read m (range.Below n) small =
    ap (option_map range.Below) (measured_known m n small)
ranges_are_read m (range.Above n) small =
    ap (option_map range.Above) (measured_known m n small)

-- A written range needs no quotes.

apart_from_ends : (d : ℕ) → is_ascii_digit d ≡ true
    → (not (is_end d) ≡ true) × (not (is_quote d) ≡ true)
apart_from_ends d is = (grind (arith, nat_tests), grind (arith, nat_tests))

no_end : (n : ℕ) → nat_le n greatest ≡ true → list_all (λ x. not (is_end x)) (decimal n) ≡ true
no_end n small =
    digits_all (λ x. not (is_end x)) (λ d is. (apart_from_ends d is).0) (decimal n) (digits n small)

-- digits before more that ends no argument
led_bare : (ds tail : List ℕ) → all_ascii_digits ds ≡ true → 0 < length ds
    → list_all (λ x. not (is_end x)) tail ≡ true → is_bare (ds ++ tail) ≡ true
led_bare [] tail all some free = absurd (omega arith)
led_bare (b ∷ ds) tail all some free =
    let first = (and_parts (is_ascii_digit b) (all_ascii_digits ds) all).0 in
    let ends : list_all (λ x. not (is_end x)) (b ∷ ds) ≡ true =
    digits_all (λ x. not (is_end x)) (λ d is. (apart_from_ends d is).0) (b ∷ ds) all in
    and_from _ _ (apart_from_ends b first).1
    (list_all-append (λ x. not (is_end x)) (b ∷ ds) tail ∙ and_from _ _ ends free)

pub ranges_are_bare : (r : Range ℕ) → can_write_range r ≡ true → is_bare (printed_range r) ≡ true
ranges_are_bare (range.Exactly n) small =
    ap is_bare (sym (append-nil (decimal n)))
    ∙ led_bare (decimal n) [] (digits n small) (some_digits n small) refl
ranges_are_bare (range.Between low high) small =
    let parts = and_parts (nat_le low greatest) (nat_le high greatest) small in
    led_bare (decimal low) (45 ∷ decimal high) (digits low parts.0) (some_digits low parts.0)
    (no_end high parts.1)
ranges_are_bare (range.UpTo high) small = no_end high small
ranges_are_bare (range.From low) small =
    led_bare (decimal low) (45 ∷ []) (digits low small) (some_digits low small) refl
ranges_are_bare (range.Below n) small = no_end n small
ranges_are_bare (range.Above n) small = no_end n small
