-- What a text reads as on the day of a moment.
use Rattle.std.specs.Prelude.{◌≡◌, ◌&&◌, ℕ, ℤ, pos, neg_ℤ, Bool, true, false, List, Option}
use Rattle.std.specs.Prelude.{int_le, nat_le, option_map, refl}
use Rattle.std.proofs.lemmas.Bool.{and_parts, leb-true}
use Rattle.std.proofs.lemmas.Float.{T_from_true}
use lib.Signed.{le_z_yes}
use Rattle.jiff_core.specs.Calendar.{IsCivilDate, days_in_month}
use Rattle.jiff_core.specs.declared.civil.date.Date.{Date}
use Rattle.jiff_tz.specs.Year.{year_of_day}
use Rattle.index_rows.specs.Date.{month_of_day, place_from}
use Rattle.patterns.specs.Dates.{days_of}
use Rattle.patterns.specs.Patterns.{pattern_of}
use Rattle.patterns.specs.Readings.{reading_by}
use Rattle.patterns_match.specs.Days.{day_number}
use Rattle.patterns_match.specs.Trees.{Tree}
use Rattle.people.specs.Judged.{PlainJudged}
use Rattle.patterns_match.specs.Pattern.{PlainPattern}
use Rattle.patterns.specs.declared.pattern_error.PatternError.{PatternError}
use Rattle.patterns.specs.declared.pattern_error.PatternError.TheVariants as error
use Rattle.session_state.specs.declared.instant.Instant.{Instant}

-- the calendar has this day
abbrev pub is_civil : ℤ → ℕ → ℕ → Bool
is_civil year month day =
    (int_le (neg_ℤ (pos 9999)) year && int_le year (pos 9999))
    && ((nat_le 1 month && nat_le month 12)
    && (nat_le 1 day && nat_le day (days_in_month year month)))

-- the calendar has a date for which the test says so
abbrev pub civil_holds : (year : ℤ) (month day : ℕ) → is_civil year month day ≡ true
    → IsCivilDate year month day
civil_holds year month day is =
    let all = and_parts _ _ is in
    let years = and_parts _ _ all.0 in
    let rest = and_parts _ _ all.1 in
    let months = and_parts _ _ rest.0 in
    let days = and_parts _ _ rest.1 in (
      (le_z_yes (T_from_true _ years.0), le_z_yes (T_from_true _ years.1)),
      (leb-true _ _ months.0, leb-true _ _ months.1),
      (leb-true _ _ days.0, leb-true _ _ days.1),
    )

-- a date that the calendar has
abbrev pub date_where : (year : ℤ) (month day : ℕ) → IsCivilDate year month day → Date
date_where year month day is = record {
  year = year;
  month = month;
  day = day;
  year_in = is.0;
  month_in = is.1;
  day_in = is.2;
}

-- the date of these parts, and 1970-01-01 where the calendar has none
abbrev pub date_from : (year : ℤ) (month day : ℕ) (there : Bool) → is_civil year month day ≡ there
    → Date
date_from year month day true is = date_where year month day (civil_holds year month day is)
date_from year month day false is = date_where (pos 1970) 1 1 (civil_holds (pos 1970) 1 1 refl)

-- the date of a day
unfoldable pub date_on : ℤ → Date
date_on day =
    let year = year_of_day day in
    let month = month_of_day day in
    let place = place_from year month day in
    date_from year month place (is_civil year month place) refl

-- the pattern that a text is, by these verdicts, at a moment and an offset from UTC
unfoldable pub reading : List PlainJudged → ℤ → ℤ → List ℕ → Option Tree
reading verdicts moment offset text =
    reading_by verdicts (pattern_of (days_of (date_on (day_number moment offset))) text)

-- the same, with the offset by which days are counted
abbrev pub reading_of : List PlainJudged → Instant → List ℕ → Option PlainPattern
reading_of verdicts time text = option_map
    (λ tree. record { tree = tree; offset = time.offset })
    (reading verdicts time.seconds time.offset text)

-- For the code alone.

-- memory is in the way of a pattern
abbrev pub is_memory : PatternError → Bool
is_memory error.NoMemory = true
is_memory _ = false
