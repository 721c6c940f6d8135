-- Laws of the definitions.
use Rattle.std.specs.Prelude.{◌≡◌, ◌+◌, ◌-◌, ◌≤◌, ◌++◌, ℕ, true, List, ◌∷◌, Ok, map}
use Rattle.std.specs.List.{list_all}
use Rattle.expando.specs.Columns.{columns_in}
use Rattle.expando.specs.Formats.{PlainPiece, format_of}
use Rattle.expando.specs.Lines.{filled, line_chars}
use Rattle.expando.specs.Printed.{is_piece, printed}
use Rattle.expando.specs.declared.cell.Cell.TheVariants.{Shown, Gap}

-- a format that is written is read as itself
abbrev pub FormatsAreRead : Type 0
FormatsAreRead = (letters : List ℕ) (pieces : List PlainPiece)
    → list_all (is_piece letters) pieces ≡ true → format_of letters (printed pieces) ≡ Ok pieces

-- what fills columns takes these
abbrev pub FilledTakes : Type 0
FilledTakes = (c count : ℕ) → columns_in (filled c count) ≡ count

-- what follows a gap ends at the last column, where both sides leave some
abbrev pub EndsAtTheLast : Type 0
EndsAtTheLast = (cols c : ℕ) (front back : List ℕ) → columns_in front + columns_in back ≤ cols
    → line_chars cols (map Shown front ++ Gap c ∷ map Shown back)
    ≡ front ++ filled c (cols - (columns_in front + columns_in back)) ++ back
