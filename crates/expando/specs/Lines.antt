-- The characters of a line that is filled and cut at its columns.
use Rattle.std.specs.Prelude.{◌-◌, ◌/◌, ◌%◌, ◌==◌, ◌++◌, ℕ, nat_le, nat_lt, List, [], ◌∷◌, min}
use Rattle.std.specs.Prelude.{replicate, if◌then◌else◌}
use Rattle.expando.specs.Columns.{blanks, columns_of}
use Rattle.expando.specs.declared.cell.Cell.{Cell}
use Rattle.expando.specs.declared.cell.Cell.TheVariants.{Shown, Gap, Rest}

-- what stands for a character that does not fit in what is left of the columns
abbrev pub blank_in : ℕ → List ℕ
blank_in left = if nat_lt 0 left then 32 ∷ [] else []

-- a character that takes no column fills as a blank
abbrev pub filler : ℕ → ℕ
filler c = if columns_of c == 0 then 32 else c

-- columns filled with a character as often as it fits, and then with blanks
abbrev pub filled : ℕ → ℕ → List ℕ
filled c count =
    replicate (count / columns_of (filler c)) (filler c) ++ blanks (count % columns_of (filler c))

-- how many columns are left for a gap: none where the line is filled to its end
abbrev pub spare : ℕ → List Cell → ℕ
spare left [] = left
spare left (Shown c ∷ rest) = spare (left - columns_of c) rest
spare left (Gap c ∷ rest) = spare left rest
spare left (Rest c ∷ rest) = 0

-- the characters of a line of so many columns, of which the first gap takes so many; a blank stands
-- for a wide character that is cut
abbrev pub laid : ℕ → ℕ → List Cell → List ℕ
laid gap left [] = []
laid gap left (Shown c ∷ rest) =
    if nat_le (columns_of c) left then c ∷ laid gap (left - columns_of c) rest else blank_in left
laid gap left (Gap c ∷ rest) = filled c (min gap left) ++ laid 0 (left - min gap left) rest
laid gap left (Rest c ∷ rest) = filled c left ++ laid gap 0 rest

-- the characters of a line of so many columns
abbrev pub line_chars : ℕ → List Cell → List ℕ
line_chars cols cells = laid (spare cols cells) cols cells
