-- Values that are of their variable's type and in its range.
use Rattle.std.specs.Prelude.{ℕ, ℤ, pos, negsuc, Bool, true, false, ◌&&◌, nat_le, List, [], ◌∷◌}
use Rattle.rc_lang.specs.Rules.{allows}
use Rattle.rc_lang.specs.Values.{PlainValue, Flag, Number, Text, Quad}
use Rattle.rc_lang.specs.Variables as kind
use Rattle.rc_lang.specs.Variables.{PlainKind, TableRow}

-- from 0 to the greatest value
abbrev pub is_within : ℕ → ℤ → Bool
is_within most (pos n) = nat_le n most
is_within most (negsuc n) = false

-- the value is of the type and in its range
abbrev pub fits : PlainKind → PlainValue → Bool
fits (kind.Flag default) (Flag flag) = true
fits (kind.Number default most) (Number number) = is_within most number
fits (kind.Quad default) (Quad quad) = true
fits (kind.Text rule default) (Text text) = allows rule text
fits _ _ = false

-- each value fits its row
abbrev pub all_fit : List TableRow → List PlainValue → Bool
all_fit [] [] = true
all_fit (r ∷ rows) (value ∷ values) = fits r.kind value && all_fit rows values
all_fit [] (value ∷ values) = false
all_fit (r ∷ rows) [] = false

-- a variable is a boolean
abbrev pub is_flag : PlainKind → Bool
is_flag (kind.Flag default) = true
is_flag _ = false

-- a variable is one of four ways
abbrev pub is_quad : PlainKind → Bool
is_quad (kind.Quad default) = true
is_quad _ = false

-- a variable is a number
abbrev pub is_number : PlainKind → Bool
is_number (kind.Number default most) = true
is_number _ = false

-- a variable is a text
abbrev pub is_text : PlainKind → Bool
is_text (kind.Text rule default) = true
is_text _ = false

-- the greatest number that a variable may have
abbrev pub most_of : PlainKind → ℕ
most_of (kind.Number default most) = most
most_of _ = 0
