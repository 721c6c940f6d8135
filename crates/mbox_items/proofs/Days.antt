-- Each day from 1970 to 9999 has a date.
use Rattle.std.proofs.Common.{◌≡◌, ◌∙◌, sym, ap, refl, arith, rules, ℕ, zero, suc, ◌+◌, ◌≤◌, ◌<◌}
use Rattle.std.proofs.Common.{pos, ◌+ℤ◌, ◌≤ℤ◌, ◌<ℤ◌, ⊎_elim}
use Rattle.std.proofs.lemmas.Bool.{cases_lt}
use Rattle.std.proofs.lemmas.Int.{by_lt_z}
use Rattle.jiff_core.proofs.CalendarLemmas.{day_count-epoch, days_from_civil-day_count}
use Rattle.jiff_core.proofs.CalendarLemmas.{days_in_month_bounds}
use Rattle.jiff_core.proofs.DateLemmas.{days_from_civil-max, days_from_civil-next_month}
use Rattle.jiff_core.proofs.DateLemmas.{days_from_civil-next_year, days_from_civil-day}
use Rattle.jiff_core.proofs.SignedLemmas.{signed_arith}
use Rattle.jiff_core.specs.Calendar.{days_from_civil, days_in_month}
use Rattle.jiff_core.specs.Date.{epoch_day}
use Rattle.jiff_core.specs.declared.civil.date.Date.{Date}

-- a date with that day number
abbrev pub HasDate : ℕ → Type 0
HasDate day = (d : Date) × (epoch_day d ≡ pos day)

first_date : HasDate 0
first_date = (
  record {
    year = pos 1970;
    month = 1;
    day = 1;
    year_in = search rules;
    month_in = search rules;
    day_in = search rules;
  },
  omega (arith, signed_arith, days_from_civil-day_count, day_count-epoch),
)

-- the next day in a month
day_on : (day : ℕ) (d : Date) → epoch_day d ≡ pos day → d.day < days_in_month d.year d.month
    → HasDate (suc day)
day_on day d is less = (
  record {
    year = d.year;
    month = d.month;
    day = d.day + 1;
    year_in = d.year_in;
    month_in = d.month_in;
    day_in = (omega arith, omega arith);
  },
  omega (
    arith,
    signed_arith,
    is,
    days_from_civil-day d.year d.month d.day (d.day + 1) d.day_in.0 (omega arith),
  ),
)

-- the first of the next month
month_on : (day : ℕ) (d : Date) → epoch_day d ≡ pos day → d.day ≡ days_in_month d.year d.month
    → d.month < 12 → HasDate (suc day)
month_on day d is last less = (
  record {
    year = d.year;
    month = d.month + 1;
    day = 1;
    year_in = d.year_in;
    month_in = (omega arith, omega arith);
    day_in = (omega arith, omega (arith, days_in_month_bounds d.year (d.month + 1)));
  },
  omega (
    arith,
    signed_arith,
    is,
    days_from_civil-next_month d.year d.month d.day d.month_in.0 last,
  ),
)

-- the first of the next year
year_on : (day : ℕ) (d : Date) → epoch_day d ≡ pos day → d.day ≡ days_in_month d.year d.month
    → d.month ≡ 12 → d.year <ℤ pos 9999 → HasDate (suc day)
year_on day d is last december less = (
  record {
    year = d.year +ℤ pos 1;
    month = 1;
    day = 1;
    year_in = (omega (arith, signed_arith, d.year_in), omega (arith, signed_arith));
    month_in = search rules;
    day_in = search rules;
  },
  days_from_civil-next_year d.year (d.year +ℤ pos 1) (omega (arith, signed_arith, d.year_in)) refl
      ∙ ap (λ m. days_from_civil d.year m 31 +ℤ pos 1) (sym december)
      ∙ ap (λ k. days_from_civil d.year d.month k +ℤ pos 1)
      (sym (last ∙ ap (days_in_month d.year) december))
      ∙ omega (arith, signed_arith, is),
)

-- the last day of 9999
last_day : (d : Date) → d.day ≡ days_in_month d.year d.month → d.month ≡ 12
    → pos 9999 ≤ℤ d.year → epoch_day d ≡ pos 2_932_896
last_day d last december more =
    let year : d.year ≡ pos 9999 = omega (arith, signed_arith, d.year_in) in
    ap (λ k. days_from_civil d.year d.month k) (last ∙ ap (days_in_month d.year) december)
    ∙ ap (λ m. days_from_civil d.year m 31) december
    ∙ ap (λ y. days_from_civil y 12 31) year ∙ days_from_civil-max

date_on : (day : ℕ) → day < 2_932_896 → HasDate day → HasDate (suc day)
date_on day within (d, is) =
    ⊎_elim (λ less. day_on day d is less)
    (λ more.
    let last : d.day ≡ days_in_month d.year d.month = omega (arith, more, d.day_in.1) in
    ⊎_elim (λ less. month_on day d is last less)
    (λ late.
    let december : d.month ≡ 12 = omega (arith, late, d.month_in.1) in
    by_lt_z d.year (pos 9999) (λ less. year_on day d is last december less)
    (λ end.
    let e = last_day d last december end in absurd (omega (arith, signed_arith, e, is, within))))
    (cases_lt d.month 12))
    (cases_lt d.day (days_in_month d.year d.month))

pub date_of : (day : ℕ) → day ≤ 2_932_896 → HasDate day
date_of zero within = first_date
date_of (suc day) within = date_on day (omega arith) (date_of day (omega arith))
