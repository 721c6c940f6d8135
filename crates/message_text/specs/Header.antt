-- The header of a message as it is shown.
use Rattle.std.specs.Prelude.{ℕ, List, ◌++◌, map, codes}
use Rattle.mail_base.specs.Lines.{PlainField, message_fields}
use Rattle.mail_base.specs.Shown.{utf8_text}
use Rattle.headers.specs.Decode.{decoded_words}
use Rattle.message_text.specs.Weeding.{PlainWeeding, shown_fields}

-- a field on one line: its name as written, and its value with encoded words decoded
abbrev pub field_line : PlainField → List ℕ
field_line f = utf8_text f.name ++ codes ": " ++ decoded_words f.value

-- the header of a message that has the text
abbrev pub header_lines : PlainWeeding → List ℕ → List (List ℕ)
header_lines w text = map field_line (shown_fields w (message_fields text))
