-- Texts of ranges of numbers in a pattern.
use Rattle.std.specs.Prelude.{◌==◌, ℕ, List, [], ◌∷◌, Option, Some}
use Rattle.std.specs.Prelude.{None, option_map, if◌then◌else◌}
use Rattle.std.specs.Str.{byte}
use Rattle.mail_base.specs.Fronts.{◌>>=◌}
use Rattle.mail_base.specs.Places.{split_once}
use Rattle.patterns.specs.Numbers.{number_of, size_of}
use Rattle.patterns_match.specs.declared.range.Range.{Range}
use Rattle.patterns_match.specs.declared.range.Range.TheVariants as range
use Rattle.patterns.specs.declared.range_text.Measure.{Measure}
use Rattle.patterns.specs.declared.range_text.Measure.TheVariants.{Count, Size}

-- a number of the measure
abbrev pub measured : Measure → List ℕ → Option ℕ
measured Count text = number_of text
measured Size text = size_of text

-- the range between two texts of which one may be empty
abbrev pub between : Measure → List ℕ × List ℕ → Option (Range ℕ)
between measure ([], []) = None
between measure ([], b ∷ high) = option_map range.UpTo (measured measure (b ∷ high))
between measure (b ∷ low, []) = option_map range.From (measured measure (b ∷ low))
between measure (b ∷ low, c ∷ high) = do
  least ← measured measure (b ∷ low)
  most ← measured measure (c ∷ high)
  Some (range.Between least most)

-- the range of one number, or of those round a dash
abbrev pub exactly_or_between : Measure → List ℕ → Option (List ℕ × List ℕ) → Option (Range ℕ)
exactly_or_between measure text None = option_map range.Exactly (measured measure text)
exactly_or_between measure text (Some parts) = between measure parts

-- the range that an argument writes
abbrev pub range_of : Measure → List ℕ → Option (Range ℕ)
range_of measure [] = None
range_of measure (b ∷ rest) =
    if b == byte "<" then option_map range.Below (measured measure rest)
    else (if b == byte ">" then option_map range.Above (measured measure rest)
    else exactly_or_between measure (b ∷ rest) (split_once (byte "-") (b ∷ rest)))
