-- Dates of a row, as strftime shows what a clock says at an offset from UTC.
use Rattle.std.specs.Prelude.{◌+◌, ◌/◌, ◌%◌, ◌+ℤ◌, ◌-ℤ◌, ◌&&◌, ℕ, zero, suc, ℤ, pos, neg_ℤ, Bool}
use Rattle.std.specs.Prelude.{true, List, [], Option, Some, None, Err, int_le, unsigned_abs}
use Rattle.std.specs.Prelude.{if◌then◌else◌}
use Rattle.std.specs.Int.{int_div_euclid, int_rem_euclid}
use Rattle.std.specs.Result.{result_unwrap_or}
use Rattle.jiff_core.specs.Calendar.{days_from_civil, weekday_number}
use Rattle.jiff_core.specs.declared.error.Error.TheVariants.{Missing}
use Rattle.jiff_core.specs.declared.error.Part.TheVariants as part
use Rattle.jiff_strtime.specs.Show.{Context, show_format}
use Rattle.jiff_strtime.specs.Text.{Parts, no_parts}
use Rattle.jiff_strtime.specs.declared.directive.Config.{Config}
use Rattle.jiff_strtime.specs.declared.directive.Locale.TheVariants.{Default}
use Rattle.jiff_tz.specs.Year.{year_of_day}
use Rattle.mail_base.specs.Shown.{utf8_text}

-- the last of the first n months of a year that has begun by a day
abbrev pub months_begun : ℤ → ℤ → ℕ → ℕ
months_begun year day zero = 0
months_begun year day (suc n) =
    if int_le (days_from_civil year (suc n) 1) day then suc n else months_begun year day n

-- the month in which a day lies
abbrev pub month_of_day : ℤ → ℕ
month_of_day day = months_begun (year_of_day day) day 12

-- a day's place, from 1, among those from the first of a month on
abbrev pub place_from : ℤ → ℕ → ℤ → ℕ
place_from year month day = unsigned_abs (day -ℤ days_from_civil year month 1) + 1

-- The parts of a second of a day. The week of the year, which no letter of a date's format shows,
-- stands there so that what is shown depends on the parts alone.
unfoldable pub parts_on : ℤ → ℕ → Parts
parts_on day second =
    let year = year_of_day day in record no_parts {
      year = Some year;
      month = Some (month_of_day day);
      day = Some (place_from year (month_of_day day) day);
      day_of_year = Some (place_from year 1 day);
      iso_week_year = Some (pos 0);
      iso_week = Some 0;
      hour = Some (second / 3600);
      minute = Some (second % 3600 / 60);
      second = Some (second % 60);
      weekday = Some (weekday_number day);
    }

-- a day of the calendar that the jiff crate has
abbrev pub has_day : ℤ → Bool
has_day day = int_le (neg_ℤ (pos 4_371_587)) day && int_le day (pos 2_932_896)

-- what a clock says so many seconds after 1970 began there, where the calendar has the day
unfoldable pub parts_at : ℤ → Option Parts
parts_at seconds =
    let day = int_div_euclid seconds (pos 86_400) in
    if has_day day
    then Some (parts_on day (unsigned_abs (int_rem_euclid seconds (pos 86_400))))
    else None

-- parts that are shown without the date and the instant that they come to
abbrev pub context : Parts → Context
context parts = record {
  parts = parts;
  date = Err (Missing part.Date);
  iso = Err (Missing part.Date);
  second = Err (Missing part.Instant);
}

-- strftime in English; it refuses nothing
abbrev pub config : Config
config = record { locale = Default; lenient = true }

-- what a format shows of these parts, as UTF-8
unfoldable pub format_text : List ℕ → Option Parts → List ℕ
format_text format None = []
format_text format (Some parts) =
    utf8_text (result_unwrap_or (show_format config format (context parts)) [])

-- what a format, as UTF-8, shows of a moment in seconds since 1970, at an offset from UTC in
-- seconds
abbrev pub date_text : List ℕ → ℤ → ℤ → List ℕ
date_text format seconds offset = format_text (utf8_text format) (parts_at (seconds +ℤ offset))
