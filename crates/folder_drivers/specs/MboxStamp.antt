-- Moments as asctime(3) writes them, in UTC: `Thu Jan  1 00:00:00 1970`.
use Rattle.std.specs.Prelude.{◌+◌, ◌-◌, ◌/◌, ◌%◌, ◌-ℤ◌, ℕ, zero, suc, ℤ, pos, int_le, nat_lt, List}
use Rattle.std.specs.Prelude.{[], ◌∷◌, ◌++◌, codes, if◌then◌else◌, slice_index_or, unsigned_abs}
use Rattle.jiff_core.specs.Calendar.{days_from_civil, weekday_number}

-- the name of a weekday, from Monday, which is 0
abbrev pub weekday_name : ℕ → List ℕ
weekday_name day =
    slice_index_or (codes "Mon" ∷ codes "Tue" ∷ codes "Wed" ∷ codes "Thu" ∷ codes "Fri"
    ∷ codes "Sat" ∷ codes "Sun" ∷ []) day []

-- the name of a month, from January, which is 1
abbrev pub month_name : ℕ → List ℕ
month_name month =
    slice_index_or
    (codes "Jan" ∷ codes "Feb" ∷ codes "Mar" ∷ codes "Apr" ∷ codes "May" ∷ codes "Jun"
    ∷ codes "Jul" ∷ codes "Aug" ∷ codes "Sep" ∷ codes "Oct" ∷ codes "Nov" ∷ codes "Dec" ∷ [])
    (month - 1) []

-- a number below 100 in two digits
abbrev pub two_digits : ℕ → List ℕ
two_digits number = (48 + number / 10) ∷ (48 + number % 10) ∷ []

-- the same with a blank in place of a first zero
abbrev pub padded : ℕ → List ℕ
padded number =
    (if nat_lt number 10 then 32 else 48 + number / 10) ∷ (48 + number % 10) ∷ []

-- a second of a day as `hh:mm:ss`
abbrev pub clock_text : ℕ → List ℕ
clock_text second =
    two_digits (second / 3600) ++ codes ":" ++ two_digits (second % 3600 / 60) ++ codes ":"
    ++ two_digits (second % 60)

-- a year of four digits
abbrev pub year_text : ℕ → List ℕ
year_text year = two_digits (year / 100) ++ two_digits (year % 100)

-- a word, a blank and what follows
abbrev pub spaced : List ℕ → List ℕ → List ℕ
spaced word rest = word ++ 32 ∷ rest

-- a second of a day of the calendar
abbrev pub asctime : ℕ → ℕ → ℕ → ℕ → List ℕ
asctime year month day second =
    spaced (weekday_name (weekday_number (days_from_civil (pos year) month day)))
    (spaced (month_name month)
    (spaced (padded day)
    (spaced (clock_text second)
    (year_text year))))

-- the day number of the first of a month, which is counted from January 1970
abbrev pub month_start : ℕ → ℤ
month_start month = days_from_civil (pos (1970 + month / 12)) (month % 12 + 1) 1

-- the last of so many months after January 1970 that has begun by a day, or January 1970
unfoldable pub month_begun : ℤ → ℕ → ℕ
month_begun day zero = 0
month_begun day (suc months) =
    if int_le (month_start (suc months)) day then suc months else month_begun day months

-- the month in which a day lies, up to December 9999
abbrev pub month_of_day : ℤ → ℕ
month_of_day day = month_begun day 96_359

-- the day in a month, which is counted from January 1970, with that day number
abbrev pub day_of_month : ℕ → ℤ → ℕ
day_of_month month day = unsigned_abs (day -ℤ month_start month) + 1

-- a second of the day with that day number
abbrev pub stamp_on : ℤ → ℕ → List ℕ
stamp_on day second =
    let month = month_of_day day in
    asctime (1970 + month / 12) (month % 12 + 1) (day_of_month month day) second

-- a moment in seconds since 1970
unfoldable pub stamp_text : ℤ → List ℕ
stamp_text moment =
    stamp_on (pos (unsigned_abs moment / 86_400)) (unsigned_abs moment % 86_400)
