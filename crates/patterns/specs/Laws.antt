-- Laws of the definitions.
use Rattle.std.specs.Prelude.{◌≡◌, ◌&&◌, ℕ, ℤ, true, List, Option, Some, Ok}
use Rattle.jiff_core.specs.declared.civil.date.Date.{Date}
use Rattle.patterns.specs.Dates.{days_of}
use Rattle.patterns.specs.Patterns.{most_open, pattern_of}
use Rattle.patterns.specs.Printed.{can_write, can_write_range, is_placed, nests_in, printed}
use Rattle.patterns.specs.Printed.{printed_range}
use Rattle.patterns.specs.PrintedDays.{can_write_days, printed_days}
use Rattle.patterns.specs.RangeTexts.{range_of}
use Rattle.patterns_match.specs.Trees.{Days, Tree}
use Rattle.patterns_match.specs.declared.range.Range.{Range}
use Rattle.patterns.specs.declared.range_text.Measure.{Measure}

-- a range that is written is read as itself
abbrev pub RangesAreRead : Type 0
RangesAreRead = (measure : Measure) (r : Range ℕ) → can_write_range r ≡ true
    → range_of measure (printed_range r) ≡ Some r

-- A pattern that is written is read as itself, on the same day, by whatever calendar its days are
-- written.
abbrev pub PatternsAreRead : Type 0
PatternsAreRead = (today : Date) (date_of : ℤ → Date) (tree : Tree)
    → can_write (can_write_days today date_of) tree ≡ true
    → pattern_of (days_of today) (printed (printed_days today date_of) tree) ≡ Ok tree

-- Each part of a pattern that is read is what its place asks for, and at most 64 parentheses are
-- open in it at once.
abbrev pub ReadPatternsArePlaced : Type 0
ReadPatternsArePlaced = (days : List ℕ → Option Days) (text : List ℕ) (tree : Tree)
    → pattern_of days text ≡ Ok tree → (is_placed tree && nests_in tree most_open) ≡ true
