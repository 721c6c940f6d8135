-- Ranges of days in a pattern.
use Rattle.std.specs.Prelude.{◌==◌, ◌*◌, ℕ, ℤ, nat_le, List, [], ◌∷◌, Option, Some, None}
use Rattle.std.specs.Prelude.{option_map, if◌then◌else◌}
use Rattle.std.specs.Str.{byte}
use Rattle.jiff_core.specs.declared.civil.date.Date.{Date}
use Rattle.mail_base.specs.Fronts.{◌>>=◌}
use Rattle.mail_base.specs.Places.{split_once}
use Rattle.patterns.specs.Days.{day_of, days_back, months_back}
use Rattle.patterns.specs.Numbers.{number_of}
use Rattle.patterns_match.specs.declared.range.Range.{Range}
use Rattle.patterns_match.specs.declared.range.Range.TheVariants as range

-- a number of units of time
abbrev pub up_to_most : ℕ → Option ℕ
up_to_most n = if nat_le n 9999 then Some n else None

-- the number of units that a text writes
abbrev pub count_of : List ℕ → Option ℕ
count_of text = number_of text >>= up_to_most

-- the number before the letter of a unit, which ends the text
abbrev pub ago_count : List ℕ × List ℕ → Option ℕ
ago_count (digits, []) = count_of digits
ago_count (digits, b ∷ rest) = None

-- the day so many units ago
abbrev pub ago_in : (ℕ → Option ℤ) → List ℕ × List ℕ → Option ℤ
ago_in back parts = ago_count parts >>= back

-- the day so many units ago, where the text has their letter, or else the other
abbrev pub or_ago : (ℕ → Option ℤ) → Option (List ℕ × List ℕ) → Option ℤ → Option ℤ
or_ago back None other = other
or_ago back (Some parts) other = ago_in back parts

-- the day that a number and a unit go back to from today: years, months, weeks or days
abbrev pub ago : Date → List ℕ → Option ℤ
ago today text =
    or_ago (λ n. months_back today (12 * n)) (split_once (byte "y") text)
    (or_ago (months_back today) (split_once (byte "m") text)
    (or_ago (λ n. days_back today (7 * n)) (split_once (byte "w") text)
    (or_ago (days_back today) (split_once (byte "d") text) None)))

-- the range between two days, where both are there
abbrev pub from_to : Option ℤ → Option ℤ → Option (Range ℤ)
from_to (Some first) (Some last) = Some (range.Between first last)
from_to _ _ = None

-- the range between two days of which one may be left out
abbrev pub days_between : Date → List ℕ × List ℕ → Option (Range ℤ)
days_between today ([], []) = None
days_between today ([], b ∷ high) = option_map range.UpTo (day_of today (b ∷ high))
days_between today (b ∷ low, []) = option_map range.From (day_of today (b ∷ low))
days_between today (b ∷ low, c ∷ high) =
    from_to (day_of today (b ∷ low)) (day_of today (c ∷ high))

-- the range of one day, or of those round a dash
abbrev pub day_or_between : Date → List ℕ → Option (List ℕ × List ℕ) → Option (Range ℤ)
day_or_between today text None = option_map range.Exactly (day_of today text)
day_or_between today text (Some parts) = days_between today parts

-- The range of days that an argument writes. Less than so long ago is after that day.
abbrev pub days_of : Date → List ℕ → Option (Range ℤ)
days_of today [] = None
days_of today (b ∷ rest) =
    if b == byte "<" then option_map range.Above (ago today rest)
    else (if b == byte ">" then option_map range.Below (ago today rest)
    else (if b == byte "=" then option_map range.Exactly (ago today rest)
    else day_or_between today (b ∷ rest) (split_once (byte "-") (b ∷ rest))))
