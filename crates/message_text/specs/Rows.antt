-- The rows of the attachment screen (Mutt's manual, "Attachment menu").
use Rattle.std.specs.Prelude.{◌+◌, ◌-◌, ℕ, List, [], ◌∷◌, ◌++◌, length, replicate, codes}
use Rattle.std.specs.Fmt.{decimal}
use Rattle.std.specs.Str.{byte}
use Rattle.mail_base.specs.Shown.{utf8_text}
use Rattle.mime_tree.specs.Part.{PlainPart}
use Rattle.message_text.specs.Message.{listed_parts}

-- a number at the right of three places, or of as many as it takes
abbrev pub in_three_places : List ℕ → List ℕ
in_three_places digits = replicate (3 - length digits) (byte " ") ++ digits

-- the row of a part: its number, its content type and the name of its file
abbrev pub row_line : ℕ → PlainPart → List ℕ
row_line number p =
    in_three_places (decimal number) ++ codes " " ++ utf8_text p.content ++ codes " " ++ p.filename

-- the rows of parts, before which so many stand
abbrev pub rows_behind : ℕ → List PlainPart → List (List ℕ)
rows_behind before [] = []
rows_behind before (p ∷ parts) = row_line (before + 1) p ∷ rows_behind (before + 1) parts

-- a row for each part of a message, in the order of reading
abbrev pub attachment_lines : List ℕ → List (List ℕ)
attachment_lines raw = rows_behind 0 (listed_parts raw)
