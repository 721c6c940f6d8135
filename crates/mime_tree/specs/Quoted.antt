-- Bodies in quoted-printable (RFC 2045, section 6.7).
use Rattle.std.specs.Prelude.{◌-◌, ◌==◌, ◌&&◌, ℕ, zero, suc, Bool, nat_lt, List, [], ◌∷◌, ◌++◌}
use Rattle.std.specs.Prelude.{take, drop, length, slice_index, Option, Some, None, if◌then◌else◌}
use Rattle.std.specs.List.{flat_map}
use Rattle.std.specs.Str.{byte}
use Rattle.bstr.specs.Text.{lines_of, without_terminator}
use Rattle.mail_base.specs.Blanks.{without_last_blanks}
use Rattle.mail_base.specs.Hex.{hex_byte}

-- what two digits give, and how many bytes belong to them; a `=` without them is itself
abbrev pub escaped_by : Option (ℕ × List ℕ) → ℕ × ℕ
escaped_by None = (byte "=", 0)
escaped_by (Some found) = (found.0, 2)

-- the byte that a `=` and what follows it write, and how many of the bytes behind it belong to it
-- (rule 1)
abbrev pub escaped_byte : List ℕ → ℕ × ℕ
escaped_byte rest = escaped_by (hex_byte rest)

-- a text with its quoted bytes decoded, whose first so many bytes belong to a byte already read
abbrev pub unquoted_from : ℕ → List ℕ → List ℕ
unquoted_from skip [] = []
unquoted_from (suc n) (b ∷ rest) = unquoted_from n rest
unquoted_from zero (b ∷ rest) =
    if b == byte "=" then (escaped_byte rest).0 ∷ unquoted_from (escaped_byte rest).1 rest
    else b ∷ unquoted_from 0 rest

-- a text with its quoted bytes decoded
abbrev pub unquoted : List ℕ → List ℕ
unquoted text = unquoted_from 0 text

-- the last byte is `=`
abbrev pub ends_soft : List ℕ → Bool
ends_soft text = nat_lt 0 (length text) && slice_index text (length text - 1) == byte "="

-- the text of a line and its line end, which an `=` at the end of the text takes away (rules 4 and
-- 5)
abbrev pub joined : List ℕ → List ℕ → List ℕ
joined text end =
    if ends_soft text then unquoted (take (length text - 1) text) else unquoted text ++ end

-- a line with its line end; the blanks before a line end go (rule 3)
abbrev pub quoted_with : List ℕ → List ℕ → List ℕ
quoted_with text line =
    if length text == length line then unquoted line
    else joined (without_last_blanks text) (drop (length text) line)

-- a line of quoted-printable
abbrev pub quoted_line : List ℕ → List ℕ
quoted_line line = quoted_with (without_terminator line) line

-- quoted-printable, line by line (section 6.7)
abbrev pub from_quoted : List ℕ → List ℕ
from_quoted text = flat_map quoted_line (lines_of text)
