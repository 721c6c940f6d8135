-- Days of a pattern.
use Rattle.std.specs.Prelude.{◌==◌, ◌&&◌, ◌+◌, ◌+ℤ◌, ℕ, ℤ, pos, neg_ℤ, Bool, true, int_le, nat_le}
use Rattle.std.specs.Prelude.{nat_lt, List, length, Option, Some}
use Rattle.std.specs.Prelude.{None, option_map, if◌then◌else◌}
use Rattle.std.specs.Str.{byte}
use Rattle.jiff_core.specs.Calendar.{days_from_civil, days_in_month}
use Rattle.jiff_core.specs.Date.{epoch_day}
use Rattle.jiff_core.specs.declared.civil.date.Date.{Date}
use Rattle.jiff_span.specs.Months.{add_months, shifted_year}
use Rattle.mail_base.specs.Decimal.{decimal_in}
use Rattle.mail_base.specs.Places.{split_once}

-- a day or a month: one or two digits
abbrev pub two_digits : List ℕ → Option ℕ
two_digits text = if nat_le (length text) 2 then decimal_in 0 99 text else None

-- years of two digits lie from 1970 to 2069
abbrev pub century : ℕ → ℕ
century n = if nat_lt n 70 then 2000 + n else 1900 + n

-- a year: two or four digits
abbrev pub year_of : List ℕ → Option ℕ
year_of text =
    if length text == 2 then option_map century (decimal_in 0 99 text)
    else (if length text == 4 then decimal_in 0 9999 text else None)

-- the day of a date, counted from 1970, where the calendar has it
abbrev pub civil_day : ℤ → ℕ → ℕ → Option ℤ
civil_day year month day =
    if nat_le 1 month && nat_le month 12 && nat_le 1 day && nat_le day (days_in_month year month)
    then Some (days_from_civil year month day)
    else None

-- the same of what was written of it
abbrev pub written_day : Option ℤ → Option ℕ → Option ℕ → Option ℤ
written_day (Some year) (Some month) (Some day) = civil_day year month day
written_day _ _ _ = None

-- what stands behind the day: the month, and behind a further slash the year
abbrev pub behind_day : Date → Option ℕ → List ℕ → Option (List ℕ × List ℕ) → Option ℤ
behind_day today day text None = written_day (Some today.year) (two_digits text) day
behind_day today day text (Some (month, year)) =
    written_day (option_map pos (year_of year)) (two_digits month) day

-- the day that a text writes, by what stands round its first slash
abbrev pub day_at : Date → List ℕ → Option (List ℕ × List ℕ) → Option ℤ
day_at today text None = written_day (Some today.year) (Some today.month) (two_digits text)
day_at today text (Some (day, rest)) =
    behind_day today (two_digits day) rest (split_once (byte "/") rest)

-- The day that a text writes: an omitted month or year is that of today.
abbrev pub day_of : Date → List ℕ → Option ℤ
day_of today text = day_at today text (split_once (byte "/") text)

-- a day of the calendar that the jiff crate has
abbrev pub has_day : ℤ → Bool
has_day day = int_le (neg_ℤ (pos 4_371_587)) day && int_le day (pos 2_932_896)

-- a year of the calendar that the jiff crate has
abbrev pub has_year : ℤ → Bool
has_year year = int_le (neg_ℤ (pos 9999)) year && int_le year (pos 9999)

-- a day, where the calendar has it
abbrev pub in_calendar : Bool → ℤ → Option ℤ
in_calendar reached day = if reached && has_day day then Some day else None

-- so many days before
abbrev pub days_back : Date → ℕ → Option ℤ
days_back today n = in_calendar true (epoch_day today +ℤ neg_ℤ (pos n))

-- so many months before: the same day of that month, or its last where it is shorter
abbrev pub months_back : Date → ℕ → Option ℤ
months_back today n =
    let moved = neg_ℤ (pos n) in
    in_calendar (has_year (shifted_year today moved)) (add_months today moved)
