-- A line as it is written out: with blanks for a tab, and two characters for a control character.
use Rattle.std.specs.Prelude.{◌==◌, ◌+◌, ◌-◌, ◌%◌, ℕ, nat_lt, List, [], ◌∷◌, ◌++◌}
use Rattle.std.specs.Prelude.{if◌then◌else◌}
use Rattle.std.specs.Char.{is_control}
use Rattle.std.specs.Str.{byte}
use Rattle.expando.specs.Columns.{blanks, columns_in, columns_of}

-- `^` and the character 64 above; byte 127 is `^?`
abbrev pub caret : ℕ → List ℕ
caret c = byte "^" ∷ (if c == 127 then byte "?" else c + 64) ∷ []

-- A character so many columns behind the last multiple of eight: a tab goes to the next one, and a
-- blank stands for a character that is wider than a whole line.
abbrev pub shown : ℕ → ℕ → ℕ → List ℕ
shown cols past c =
    if c == byte "\t" then blanks (8 - past)
    else if is_control c then caret c
    else if nat_lt cols (columns_of c) then byte " " ∷ []
    else c ∷ []

-- how far behind a multiple of eight these characters end
abbrev pub past_stop : ℕ → List ℕ → ℕ
past_stop past cs = (past + columns_in cs) % 8

-- characters that begin so many columns behind a multiple of eight
abbrev pub written : ℕ → ℕ → List ℕ → List ℕ
written cols past [] = []
written cols past (c ∷ cs) =
    shown cols past c ++ written cols (past_stop past (shown cols past c)) cs
