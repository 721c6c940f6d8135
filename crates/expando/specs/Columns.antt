-- Characters in display columns (Unicode Standard Annex 11, as unicode_width reads it).
use Rattle.std.specs.Prelude.{◌+◌, ◌-◌, ◌==◌, ◌||◌, ◌++◌, ℕ, Bool, false, nat_le, nat_lt, List, []}
use Rattle.std.specs.Prelude.{◌∷◌, map, replicate, unwrap_or, if◌then◌else◌}
use Rattle.std.specs.Str.{chars}
use Rattle.unicode_width.specs.Width.{char_width}

-- a control character
abbrev pub is_control : ℕ → Bool
is_control c = nat_lt c 32 || c == 127

-- a control character shows as a question mark
abbrev pub shown_char : ℕ → ℕ
shown_char c = if is_control c then 63 else c

-- the characters that show a text
abbrev pub shown_text : List ℕ → List ℕ
shown_text text = map shown_char (chars text)

-- how many columns a character takes; one without a width takes one
abbrev pub columns_of : ℕ → ℕ
columns_of c = unwrap_or (char_width false c) 1

-- how many columns characters take together
abbrev pub columns_in : List ℕ → ℕ
columns_in [] = 0
columns_in (c ∷ rest) = columns_of c + columns_in rest

-- the characters at the front that take no more than these columns together
abbrev pub kept : ℕ → List ℕ → List ℕ
kept limit [] = []
kept limit (c ∷ rest) =
    if nat_le (columns_of c) limit then c ∷ kept (limit - columns_of c) rest else []

-- so many blanks
abbrev pub blanks : ℕ → List ℕ
blanks count = replicate count 32

-- characters with blanks behind or before them, so that they take at least this width
abbrev pub padded : Bool → ℕ → List ℕ → List ℕ
padded left width cs =
    if left then cs ++ blanks (width - columns_in cs) else blanks (width - columns_in cs) ++ cs
