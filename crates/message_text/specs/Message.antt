-- The text of a message, and of one of its parts (RFC 2045, section 2.4).
use Rattle.std.specs.Prelude.{ℕ, List, [], ◌∷◌, ◌++◌, drop, length, Option, Some, None, unwrap_or}
use Rattle.std.specs.Prelude.{nat_lt, if◌then◌else◌}
use Rattle.mail_base.specs.Lines.{body_of}
use Rattle.headers.specs.declared.charset.Charset.TheVariants.{Utf8}
use Rattle.mime_tree.specs.Part.{PlainPart}
use Rattle.mime_tree.specs.Parts.{parts_of}
use Rattle.mime_tree.specs.Text.{lines_in}
use Rattle.message_text.specs.Branch.{branch_lines}
use Rattle.message_text.specs.Header.{header_lines}
use Rattle.message_text.specs.Marks.{deep_mark}
use Rattle.message_text.specs.Weeding.{PlainWeeding, unweeded}

-- a part by the parts from it on; the parts of a message nest at most 32 deep
abbrev pub lines_from : PlainWeeding → List ℕ → List PlainPart → List (List ℕ)
lines_from w raw branch = branch_lines 33 w raw branch

-- the body of a message by its parts; as it stands where they nest too deep
abbrev pub body_lines : PlainWeeding → List ℕ → Option (List PlainPart) → List (List ℕ)
body_lines w raw None = deep_mark ∷ lines_in Utf8 (body_of raw)
body_lines w raw (Some parts) = lines_from w raw parts

-- a message: its header, an empty line, and its body
abbrev pub message_lines : PlainWeeding → List ℕ → List (List ℕ)
message_lines w raw = header_lines w raw ++ [] ∷ body_lines w raw (parts_of raw)

-- the parts of a message in the order of reading; none where they nest too deep
abbrev pub listed_parts : List ℕ → List PlainPart
listed_parts raw = unwrap_or (parts_of raw) []

-- the part of the number, counted from 0 in the order of reading, without the header of the message
-- and with the whole header of each message in it
abbrev pub part_lines : List ℕ → ℕ → Option (List (List ℕ))
part_lines raw number =
    if nat_lt number (length (listed_parts raw))
    then Some (lines_from unweeded raw (drop number (listed_parts raw)))
    else None
