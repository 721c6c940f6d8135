-- Ranges of days as they are written, by a calendar that gives the date of a day.
use Rattle.std.specs.Prelude.{◌&&◌, ◌++◌, ◌+◌, ◌/◌, ◌%◌, ◌-ℤ◌, ℕ, ℤ, pos, Bool, int_le, nat_le}
use Rattle.std.specs.Prelude.{List}
use Rattle.std.specs.Prelude.{[], ◌∷◌, unsigned_abs}
use Rattle.std.specs.Fmt.{decimal}
use Rattle.std.specs.Ordering.{int_eq}
use Rattle.std.specs.Str.{byte}
use Rattle.jiff_core.specs.Date.{epoch_day}
use Rattle.jiff_core.specs.declared.civil.date.Date.{Date}
use Rattle.patterns.specs.Days.{has_day}
use Rattle.patterns_match.specs.Trees.{Days}
use Rattle.patterns_match.specs.declared.range.Range.TheVariants as range

-- a digit as its byte
abbrev pub digit : ℕ → ℕ
digit n = byte "0" + n

-- a number below 100 in two digits
abbrev pub in_two_digits : ℕ → List ℕ
in_two_digits n = digit (n / 10 % 10) ∷ digit (n % 10) ∷ []

-- a number below 10,000 in four digits
abbrev pub in_four_digits : ℕ → List ℕ
in_four_digits n =
    digit (n / 1000 % 10) ∷ digit (n / 100 % 10) ∷ digit (n / 10 % 10) ∷ digit (n % 10) ∷ []

-- a date with all its parts
abbrev pub printed_date : Date → List ℕ
printed_date date =
    in_two_digits date.day ++ byte "/" ∷ (in_two_digits date.month
    ++ byte "/" ∷ in_four_digits (unsigned_abs date.year))

-- how many days before today a day is
abbrev pub days_since : Date → ℤ → ℕ
days_since today day = unsigned_abs (epoch_day today -ℤ day)

-- how long ago a day is, in days
abbrev pub printed_since : Date → ℤ → List ℕ
printed_since today day = decimal (days_since today day) ++ byte "d" ∷ []

-- a range of days on the day that is today
abbrev pub printed_days : Date → (ℤ → Date) → Days → List ℕ
printed_days today date_of (range.Exactly day) = printed_date (date_of day)
printed_days today date_of (range.Between first last) =
    printed_date (date_of first) ++ byte "-" ∷ printed_date (date_of last)
printed_days today date_of (range.UpTo last) = byte "-" ∷ printed_date (date_of last)
printed_days today date_of (range.From first) = printed_date (date_of first) ++ byte "-" ∷ []
printed_days today date_of (range.Below day) = byte ">" ∷ printed_since today day
printed_days today date_of (range.Above day) = byte "<" ∷ printed_since today day

-- the calendar has the day, in a year that four digits write
abbrev pub has_date : (ℤ → Date) → ℤ → Bool
has_date date_of day = int_eq (epoch_day (date_of day)) day && int_le (pos 0) (date_of day).year

-- a day at most 9,999 days before today
abbrev pub is_since : Date → ℤ → Bool
is_since today day =
    int_le day (epoch_day today) && nat_le (days_since today day) 9999 && has_day day

-- the calendar has the days of a range, or they are not too long ago
abbrev pub can_write_days : Date → (ℤ → Date) → Days → Bool
can_write_days today date_of (range.Exactly day) = has_date date_of day
can_write_days today date_of (range.Between first last) =
    has_date date_of first && has_date date_of last
can_write_days today date_of (range.UpTo last) = has_date date_of last
can_write_days today date_of (range.From first) = has_date date_of first
can_write_days today date_of (range.Below day) = is_since today day
can_write_days today date_of (range.Above day) = is_since today day
