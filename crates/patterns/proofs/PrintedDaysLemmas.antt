-- Ranges of days that are written are read as themselves.
use Rattle.std.proofs.Common.{◌≡◌, ◌∙◌, ◌==◌, ◌*◌, ◌/◌, ◌%◌, ◌<◌, ◌≤◌, ◌&&◌, ◌++◌, ℕ, ℤ}
use Rattle.std.proofs.Common.{pos, ◌+ℤ◌, ◌-ℤ◌, ◌≤ℤ◌, neg_ℤ, Bool, true, false, not, List, [], ◌∷◌}
use Rattle.std.proofs.Common.{Option, Some}
use Rattle.std.proofs.Common.{None, nat_le, int_le, option_map, refl, sym, ap, arith}
use Rattle.std.proofs.lemmas.Bool.{and_from, and_parts, leb-true}
use Rattle.std.proofs.lemmas.Bool.Decides.{nat_tests}
use Rattle.std.proofs.lemmas.List.Folds.{list_all-append}
use Rattle.std.specs.Char.{is_ascii_digit}
use Rattle.std.specs.Fmt.{decimal}
use Rattle.std.specs.List.{list_all}
use Rattle.std.specs.Ordering.{int_eq}
use Rattle.std.specs.Prelude.{if◌then◌else◌, unsigned_abs}
use Rattle.std.specs.Str.{all_ascii_digits}
use Rattle.std.specs.Str.Parse.{digits_value}
use Rattle.std.specs.Char.{digit_value}
use Rattle.std.proofs.lemmas.Str.{digit_value_digit}
use Rattle.jiff_core.proofs.SignedLemmas.{one_part, signed_arith}
use Rattle.jiff_core.specs.Calendar.{days_in_month}
use Rattle.jiff_core.proofs.CalendarLemmas.{days_in_month_bounds}
use Rattle.jiff_core.specs.Date.{epoch_day}
use Rattle.jiff_core.specs.declared.civil.date.Date.{Date}
use Rattle.mail_base.specs.Decimal.{in_range}
use Rattle.mail_base.specs.Places.{split_once}
use Rattle.patterns.specs.Arguments.{is_end, is_quote}
use Rattle.patterns.specs.Dates.{ago, count_of, day_or_between, days_between, days_of, or_ago}
use Rattle.patterns.specs.Dates.{up_to_most}
use Rattle.patterns.specs.Days.{behind_day, civil_day, day_at, day_of, days_back, has_day}
use Rattle.patterns.specs.Days.{in_calendar}
use Rattle.patterns.specs.Days.{months_back, two_digits, written_day, year_of}
use Rattle.patterns.specs.Printed.{is_bare, lacks}
use Rattle.patterns.specs.PrintedDays.{can_write_days, days_since, digit, has_date, in_four_digits}
use Rattle.patterns.specs.PrintedDays.{in_two_digits, is_since, printed_date, printed_days}
use Rattle.patterns.specs.PrintedDays.{printed_since}
use Rattle.patterns_match.specs.Trees.{Days}
use Rattle.patterns_match.specs.declared.range.Range.TheVariants as range
use Rattle.std.proofs.lemmas.Bool.Decides.{Decides-int_eq}
use Rattle.std.proofs.lemmas.Fmt.{digits_decimal}
use Rattle.std.proofs.lemmas.List.{append-nil}
use Rattle.mail_base.specs.Fronts.{◌>>=◌}
use Rattle.patterns.specs.Dates.{from_to}
use Rattle.patterns.specs.Numbers.{greatest}
use Rattle.mail_base.proofs.NumberLemmas.{own}
use Rattle.patterns.proofs.RangeLemmas.{number_known}
use Rattle.patterns.proofs.DaysLemmas.{true_le}
use Rattle.patterns.proofs.PlaceLemmas.{digits_all, no_split, split_read}

-- what is written for a range of days is one argument, which is read as that range
pub record IsReadDays (days : List ℕ → Option Days) (write : Days → List ℕ) (range : Days)
    : Type 0 where
  pub is_read : days (write range) ≡ Some range
  pub bare : is_bare (write range) ≡ true

digit_is : (k : ℕ) → is_ascii_digit (digit (k % 10)) ≡ true
digit_is k = let small : k % 10 < 10 = omega arith in grind (arith, nat_tests)

two_all : (n : ℕ) → all_ascii_digits (in_two_digits n) ≡ true
two_all n = rw (digit_is (n / 10), digit_is n) refl

four_all : (n : ℕ) → all_ascii_digits (in_four_digits n) ≡ true
four_all n = rw (digit_is (n / 1000), digit_is (n / 100), digit_is (n / 10), digit_is n) refl

value_is : (k : ℕ) → digit_value (digit (k % 10)) ≡ k % 10
value_is k =
    let small : k % 10 < 10 = omega arith in
    let is = digit_value_digit (digit (k % 10)) (omega arith, omega arith) in
    omega (arith, is)

two_value : (n : ℕ) → n < 100 → digits_value 10 (in_two_digits n) ≡ n
two_value n small =
    let tens = value_is (n / 10) in
    let ones = value_is n in
    omega (arith, tens, ones)

four_value : (n : ℕ) → n < 10000 → digits_value 10 (in_four_digits n) ≡ n
four_value n small =
    let thousands = value_is (n / 1000) in
    let hundreds = value_is (n / 100) in
    let tens = value_is (n / 10) in
    let ones = value_is n in
    omega (arith, thousands, hundreds, tens, ones)

in_range_is : (high n : ℕ) → n ≤ high → in_range 0 high n ≡ Some n
in_range_is high n le =
    let is : (nat_le 0 n && nat_le n high) ≡ true = grind (arith, nat_tests) in
    ap (λ t. if t then Some n else None) is

two_read : (n : ℕ) → n < 100 → two_digits (in_two_digits n) ≡ Some n
two_read n small =
    ap (λ t. if t then in_range 0 99 (digits_value 10 (in_two_digits n)) else None) (two_all n)
    ∙ ap (in_range 0 99) (two_value n small) ∙ in_range_is 99 n (omega arith)

four_read : (n : ℕ) → n < 10000 → year_of (in_four_digits n) ≡ Some n
four_read n small =
    ap (λ t. if t then in_range 0 9999 (digits_value 10 (in_four_digits n)) else None) (four_all n)
    ∙ ap (in_range 0 9999) (four_value n small) ∙ in_range_is 9999 n (omega arith)

-- what holds of digits and of a slash holds of a date
date_all : (q : ℕ → Bool) → ((d : ℕ) → is_ascii_digit d ≡ true → q d ≡ true) → q 47 ≡ true
    → (date : Date) → list_all q (printed_date date) ≡ true
date_all q each slash date =
    let two = λ (n : ℕ). digits_all q each (in_two_digits n) (two_all n) in
    let year = in_four_digits (unsigned_abs date.year) in
    let four = digits_all q each year (four_all (unsigned_abs date.year)) in
    list_all-append q (in_two_digits date.day) (47 ∷ (in_two_digits date.month ++ 47 ∷ year))
    ∙ and_from _ _ (two date.day) (and_from _ _ slash
    (list_all-append q (in_two_digits date.month) (47 ∷ year)
    ∙ and_from _ _ (two date.month) (and_from _ _ slash four)))

slash_apart : (d : ℕ) → is_ascii_digit d ≡ true → not (d == 47) ≡ true
slash_apart d is = grind (arith, nat_tests)

dash_apart : (d : ℕ) → is_ascii_digit d ≡ true → not (d == 45) ≡ true
dash_apart d is = grind (arith, nat_tests)

no_slash : (n : ℕ) → lacks 47 (in_two_digits n) ≡ true
no_slash n = digits_all (λ x. not (x == 47)) slash_apart (in_two_digits n) (two_all n)

no_dash : (date : Date) → lacks 45 (printed_date date) ≡ true
no_dash date = date_all (λ x. not (x == 45)) dash_apart refl date

end_apart : (d : ℕ) → is_ascii_digit d ≡ true → not (is_end d) ≡ true
end_apart d is = grind (arith, nat_tests)

no_end : (date : Date) → list_all (λ x. not (is_end x)) (printed_date date) ≡ true
no_end date = date_all (λ x. not (is_end x)) end_apart refl date

-- a date whose year has four digits
date_read : (today date : Date) → int_le (pos 0) date.year ≡ true
    → day_of today (printed_date date) ≡ Some (epoch_day date)
date_read today date is =
    let low : pos 0 ≤ℤ date.year = true_le (pos 0) date.year is in
    let years = date.year_in in
    let part = one_part date.year in
    let year : pos (unsigned_abs date.year) ≡ date.year = omega (arith, signed_arith, part) in
    let few : unsigned_abs date.year < 10000 = omega (arith, signed_arith, part) in
    let text = in_four_digits (unsigned_abs date.year) in
    let behind = in_two_digits date.month ++ 47 ∷ text in
    let month = date.month_in in
    let day = date.day_in in
    let longest = days_in_month_bounds date.year date.month in
    let there : (nat_le 1 date.month && nat_le date.month 12 && nat_le 1 date.day
    && nat_le date.day (days_in_month date.year date.month)) ≡ true = grind (arith, nat_tests) in
    ap (day_at today (printed_date date))
    (split_read 47 (in_two_digits date.day) behind (no_slash date.day))
    ∙ ap (λ n. behind_day today n behind (split_once 47 behind)) (two_read date.day (omega arith))
    ∙ ap (behind_day today (Some date.day) behind)
    (split_read 47 (in_two_digits date.month) text (no_slash date.month))
    ∙ ap (λ n. written_day (option_map pos n) (two_digits (in_two_digits date.month))
    (Some date.day))
    (four_read (unsigned_abs date.year) few)
    ∙ ap (λ n. written_day (Some (pos (unsigned_abs date.year))) n (Some date.day))
    (two_read date.month (omega arith))
    ∙ ap (λ y. civil_day y date.month date.day) year
    ∙ ap (λ t. if t then Some (epoch_day date) else None) there

-- digits begin no sign
sign_apart : (d : ℕ) → is_ascii_digit d ≡ true
    → (d == 60 ≡ false) × (d == 61 ≡ false) × (d == 62 ≡ false) × (is_quote d ≡ false)
sign_apart d is = (
  grind (arith, nat_tests),
  grind (arith, nat_tests),
  grind (arith, nat_tests),
  grind (arith, nat_tests),
)

module _ (today : Date) where
  led : (b : ℕ) (rest : List ℕ) → is_ascii_digit b ≡ true
      → days_of today (b ∷ rest)
      ≡ day_or_between today (b ∷ rest) (split_once 45 (b ∷ rest))
  led b rest is = let apart = sign_apart b is in rw (apart.0, apart.1, apart.2) refl

  led_bare : (b : ℕ) (rest : List ℕ) → is_ascii_digit b ≡ true
      → list_all (λ x. not (is_end x)) (b ∷ rest) ≡ true → is_bare (b ∷ rest) ≡ true
  led_bare b rest is all = and_from _ _ (ap not (sign_apart b is).3) all

  -- what stands behind the first digit of a date
  abbrev behind_first : Date → List ℕ → List ℕ
  behind_first date tail =
      digit (date.day % 10)
      ∷ 47 ∷ ((in_two_digits date.month ++ 47 ∷ in_four_digits (unsigned_abs date.year)) ++ tail)

  -- a date before a text
  date_led : (date : Date) (tail : List ℕ) → days_of today (printed_date date ++ tail)
      ≡ day_or_between today (printed_date date ++ tail) (split_once 45 (printed_date date ++ tail))
  date_led date tail =
      led (digit (date.day / 10 % 10)) (behind_first date tail) (digit_is (date.day / 10))

  date_bare : (date : Date) (tail : List ℕ) → list_all (λ x. not (is_end x)) tail ≡ true
      → is_bare (printed_date date ++ tail) ≡ true
  date_bare date tail all =
      led_bare (digit (date.day / 10 % 10)) (behind_first date tail) (digit_is (date.day / 10))
      (list_all-append (λ x. not (is_end x)) (printed_date date) tail
      ∙ and_from _ _ (no_end date) all)

  dashed : (date : Date) (rest : List ℕ) → days_of today (printed_date date ++ 45 ∷ rest)
      ≡ days_between today (printed_date date, rest)
  dashed date rest =
      date_led date (45 ∷ rest)
      ∙ ap (day_or_between today (printed_date date ++ 45 ∷ rest))
      (split_read 45 (printed_date date) rest (no_dash date))

  -- a day of a calendar
  known : (date_of : ℤ → Date) (day : ℤ) → has_date date_of day ≡ true
      → day_of today (printed_date (date_of day)) ≡ Some day
  known date_of day is =
      let parts = and_parts (int_eq (epoch_day (date_of day)) day)
      (int_le (pos 0) (date_of day).year) is in
      date_read today (date_of day) parts.1
      ∙ ap Some ((Decides-int_eq (epoch_day (date_of day)) day).0 parts.0)

  -- Days before today.

  since_apart : (d : ℕ) → is_ascii_digit d ≡ true
      → (not (d == 121) ≡ true) × (not (d == 109) ≡ true) × (not (d == 119) ≡ true)
      × (not (d == 100) ≡ true)
  since_apart d is = (
    grind (arith, nat_tests),
    grind (arith, nat_tests),
    grind (arith, nat_tests),
    grind (arith, nat_tests),
  )

  module _ (n : ℕ) (few : n ≤ 9999) where
    small : nat_le n greatest ≡ true
    small = grind (arith, nat_tests)

    digits : all_ascii_digits (decimal n) ≡ true
    digits = digits_decimal own n (omega arith)

    lacks_unit : (q : ℕ) → ((d : ℕ) → is_ascii_digit d ≡ true → not (d == q) ≡ true)
        → not (100 == q) ≡ true → lacks q (decimal n ++ 100 ∷ []) ≡ true
    lacks_unit q each not_day =
        list_all-append (λ x. not (x == q)) (decimal n) (100 ∷ [])
        ∙ and_from _ _ (digits_all (λ x. not (x == q)) each (decimal n) digits)
        (and_from _ _ not_day refl)

    count_known : count_of (decimal n) ≡ Some n
    count_known =
        let is : nat_le n 9999 ≡ true = grind (arith, nat_tests) in
        ap (λ k. k >>= up_to_most) (number_known n small)
        ∙ ap (λ t. if t then Some n else None) is

    ago_read : ago today (decimal n ++ 100 ∷ []) ≡ days_back today n
    ago_read =
        ap (λ s. or_ago (λ k. months_back today (12 * k)) s
        (or_ago (months_back today) (split_once 109 (decimal n ++ 100 ∷ []))
        (or_ago (λ k. days_back today (7 * k)) (split_once 119 (decimal n ++ 100 ∷ []))
        (or_ago (days_back today) (split_once 100 (decimal n ++ 100 ∷ [])) None))))
        (no_split 121 (decimal n ++ 100 ∷ [])
        (lacks_unit 121 (λ d is. (since_apart d is).0) refl))
        ∙ ap (λ s. or_ago (months_back today) s
        (or_ago (λ k. days_back today (7 * k)) (split_once 119 (decimal n ++ 100 ∷ []))
        (or_ago (days_back today) (split_once 100 (decimal n ++ 100 ∷ [])) None)))
        (no_split 109 (decimal n ++ 100 ∷ [])
        (lacks_unit 109 (λ d is. (since_apart d is).1) refl))
        ∙ ap (λ s. or_ago (λ k. days_back today (7 * k)) s
        (or_ago (days_back today) (split_once 100 (decimal n ++ 100 ∷ [])) None))
        (no_split 119 (decimal n ++ 100 ∷ [])
        (lacks_unit 119 (λ d is. (since_apart d is).2) refl))
        ∙ ap (λ s. or_ago (days_back today) s None)
        (split_read 100 (decimal n) [] (digits_all (λ x. not (x == 100))
        (λ d is. (since_apart d is).3) (decimal n) digits))
        ∙ ap (λ k. k >>= days_back today) count_known

    count_bare : list_all (λ x. not (is_end x)) (decimal n ++ 100 ∷ []) ≡ true
    count_bare =
        list_all-append (λ x. not (is_end x)) (decimal n) (100 ∷ [])
        ∙ and_from _ _ (digits_all (λ x. not (is_end x)) end_apart (decimal n) digits) refl

  -- a day so far back
  since_read : (day : ℤ) → is_since today day ≡ true
      → (ago today (printed_since today day) ≡ Some day)
      × (list_all (λ x. not (is_end x)) (printed_since today day) ≡ true)
  since_read day is =
      let last = and_parts (int_le day (epoch_day today) && nat_le (days_since today day) 9999)
      (has_day day) is in
      let first = and_parts (int_le day (epoch_day today)) (nat_le (days_since today day) 9999)
      last.0 in
      let n = days_since today day in
      let few : n ≤ 9999 = leb-true n 9999 first.1 in
      let before : day ≤ℤ epoch_day today = true_le day (epoch_day today) first.0 in
      let part = one_part (epoch_day today -ℤ day) in
      let at : epoch_day today +ℤ neg_ℤ (pos n) ≡ day = omega (arith, signed_arith, part) in (
        ago_read n few ∙ ap (in_calendar true) at
            ∙ ap (λ t. if t then Some day else None) last.1,
        count_bare n few,
      )

  range_read : (date_of : ℤ → Date) (range : Days) → can_write_days today date_of range ≡ true
      → IsReadDays (days_of today) (printed_days today date_of) range
  range_read date_of (range.Exactly day) is =
      let text = printed_date (date_of day) in
      record {
        is_read = ap (days_of today) (sym (append-nil text)) ∙ date_led (date_of day) []
            ∙ ap (λ l. day_or_between today l (split_once 45 l)) (append-nil text)
            ∙ ap (day_or_between today text) (no_split 45 text (no_dash (date_of day)))
            ∙ ap (option_map range.Exactly) (known date_of day is);
        bare = ap is_bare (sym (append-nil text)) ∙ date_bare (date_of day) [] refl;
      }
  range_read date_of (range.Between first last) is =
      let parts = and_parts (has_date date_of first) (has_date date_of last) is in
      record {
        is_read = dashed (date_of first) (printed_date (date_of last))
            ∙ ap (λ d. from_to d (day_of today (printed_date (date_of last))))
            (known date_of first parts.0)
            ∙ ap (from_to (Some first)) (known date_of last parts.1);
        bare = date_bare (date_of first) (45 ∷ printed_date (date_of last)) (no_end (date_of last));
      }
  range_read date_of (range.UpTo last) is = record {
    is_read = ap (day_or_between today (45 ∷ printed_date (date_of last)))
        (split_read 45 [] (printed_date (date_of last)) refl)
        ∙ ap (option_map range.UpTo) (known date_of last is);
    bare = no_end (date_of last);
  }
  range_read date_of (range.From first) is = record {
    is_read = dashed (date_of first) [] ∙ ap (option_map range.From) (known date_of first is);
    bare = date_bare (date_of first) (45 ∷ []) refl;
  }
  range_read date_of (range.Below day) is =
      let read = since_read day is in record {
        is_read = ap (option_map range.Below) read.0;
        bare = read.1;
      }
  range_read date_of (range.Above day) is =
      let read = since_read day is in record {
        is_read = ap (option_map range.Above) read.0;
        bare = read.1;
      }

pub days_read : (today : Date) (date_of : ℤ → Date) (range : Days)
    → can_write_days today date_of range ≡ true
    → IsReadDays (days_of today) (printed_days today date_of) range
days_read = range_read
