-- Laws of the definitions.
use Rattle.std.specs.Prelude.{◌≡◌, ℕ, List, pos, Some, IsOk}
use Rattle.jiff_core.specs.Date.{ordinal, weekday_of}
use Rattle.jiff_core.specs.DateTime.{civil_seconds}
use Rattle.jiff_core.specs.declared.civil.datetime.DateTime.{DateTime}
use Rattle.jiff_strtime.specs.Show.{show_format}
use Rattle.jiff_strtime.specs.Text.{Parts, no_parts}
use Rattle.index_rows.specs.Date.{config, context, parts_at}

-- the parts of a date and a time of day
abbrev pub parts_of_clock : DateTime → Parts
parts_of_clock c = record no_parts {
  year = Some c.date.year;
  month = Some c.date.month;
  day = Some c.date.day;
  day_of_year = Some (ordinal c.date);
  iso_week_year = Some (pos 0);
  iso_week = Some 0;
  hour = Some c.time.hour;
  minute = Some c.time.minute;
  second = Some c.time.second;
  weekday = Some (weekday_of c.date);
}

-- what a clock says at the moment of a date and a time of day is that date and that time
abbrev pub ClocksSayTheirParts : Type 0
ClocksSayTheirParts = (c : DateTime) → parts_at (civil_seconds c) ≡ Some (parts_of_clock c)

-- strftime shows every format of a date
abbrev pub FormatsAreShown : Type 0
FormatsAreShown = (format : List ℕ) (parts : Parts)
    → IsOk (show_format config format (context parts))
