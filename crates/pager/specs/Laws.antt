-- Laws of lines that are broken.
use Rattle.std.specs.Prelude.{◌≡◌, ◌+◌, ◌%◌, ◌≤◌, ◌&&◌, ◌++◌, ℕ, Bool, true, false, nat_lt, List}
use Rattle.std.specs.Prelude.{[], ◌∷◌}
use Rattle.std.specs.List.{concat, list_all}
use Rattle.std.specs.Str.{IsUtf8, byte}
use Rattle.expando.specs.Columns.{columns_in, columns_of}
use Rattle.pager.specs.Broken.{broken, is_shown, line_chars, pieces}
use Rattle.pager.specs.Written.{written}

-- the next piece has a first character, and no room for it is left behind so many columns
abbrev pub is_full : ℕ → ℕ → List (List ℕ) → Bool
is_full cols width [] = true
is_full cols width ([] ∷ more) = false
is_full cols width ((c ∷ cs) ∷ more) = nat_lt cols (width + columns_of c)

-- each piece but the last could not take the next character
abbrev pub are_full : ℕ → List (List ℕ) → Bool
are_full cols [] = true
are_full cols (piece ∷ more) = is_full cols (columns_in piece) more && are_full cols more

-- the pieces of a line, joined, are the line as it is written out
abbrev pub PiecesAreTheLine : Type 0
PiecesAreTheLine = (cols : ℕ) (text : List ℕ)
    → concat (pieces cols cols (line_chars cols text)) ≡ line_chars cols text

-- each piece of a line but the last could not take the next character
abbrev pub PiecesAreFull : Type 0
PiecesAreFull = (cols : ℕ) (text : List ℕ)
    → are_full cols (pieces cols cols (line_chars cols text)) ≡ true

-- no piece of a line is wider than the columns or has a control character
abbrev pub PiecesAreShown : Type 0
PiecesAreShown = (cols : ℕ) (text : List ℕ) → 2 ≤ cols → IsUtf8 text
    → list_all (is_shown cols) (broken cols text) ≡ true

-- a tab ends at a multiple of eight, in columns of the line as it is written out
abbrev pub TabsEndAtEights : Type 0
TabsEndAtEights = (cols : ℕ) (front : List ℕ)
    → columns_in (written cols 0 (front ++ byte "\t" ∷ [])) % 8 ≡ 0
