-- Lines broken at display columns (Unicode Standard Annex 11).
use Rattle.std.specs.Prelude.{◌-◌, ◌&&◌, ℕ, Bool, not, nat_le, List, [], ◌∷◌, map, if◌then◌else◌}
use Rattle.std.specs.Char.{is_control}
use Rattle.std.specs.List.{list_all}
use Rattle.std.specs.Str.{chars, encode_utf8_all, is_utf8}
use Rattle.expando.specs.Columns.{columns_in, columns_of}
use Rattle.pager.specs.Written.{written}

-- pieces, the first of which begins with this character
abbrev pub with_front : ℕ → List (List ℕ) → List (List ℕ)
with_front c [] = (c ∷ []) ∷ []
with_front c (piece ∷ more) = (c ∷ piece) ∷ more

-- the pieces of characters, where so many columns are left in the first: a character that does not
-- fit begins the next
abbrev pub pieces : ℕ → ℕ → List ℕ → List (List ℕ)
pieces cols left [] = [] ∷ []
pieces cols left (c ∷ cs) =
    if nat_le (columns_of c) left then with_front c (pieces cols (left - columns_of c) cs)
    else [] ∷ with_front c (pieces cols (cols - columns_of c) cs)

-- the characters of a line as it is written out
abbrev pub line_chars : ℕ → List ℕ → List ℕ
line_chars cols text = written cols 0 (chars text)

-- the pieces of a line; an empty line is one empty piece
abbrev pub broken : ℕ → List ℕ → List (List ℕ)
broken cols text = map encode_utf8_all (pieces cols cols (line_chars cols text))

-- no character that a terminal would obey
abbrev pub is_plain : List ℕ → Bool
is_plain cs = list_all (λ c. not (is_control c)) cs

-- a screen of so many columns shows the text as it stands
abbrev pub is_shown : ℕ → List ℕ → Bool
is_shown cols text =
    is_utf8 text && (nat_le (columns_in (chars text)) cols && is_plain (chars text))
