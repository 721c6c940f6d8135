-- Fields as they stand in a message, where values may go on in further lines (RFC 5322, section
-- 2.2.3).
use Rattle.std.specs.Prelude.{◌++◌, ℕ, List, map}
use Rattle.std.specs.List.{concat}
use Rattle.bstr.specs.Text.{lines_of}
use Rattle.mail_base.specs.Lines.{PlainField, continuations, header_block, more_text, name_of}
use Rattle.mail_base.specs.Lines.{unfolded}
use Rattle.headers.specs.declared.folded_field.FoldedField.{FoldedField}
use Rattle.headers.specs.declared.folded_field.Unfolded.{Unfolded}
use Rattle.headers.specs.declared.folded_field.Unfolded.TheVariants.{Whole, Joined}

-- the lines of a text that continue the field before it, up to the next field or the end of the
-- block
abbrev pub more_lines : List ℕ → List (List ℕ)
more_lines text = continuations (header_block (lines_of text))

-- what they add to its value
abbrev pub continued : List ℕ → List ℕ
continued text = concat (map more_text (more_lines text))

-- the field with its value on one line
abbrev pub plain_folded : FoldedField → PlainField
plain_folded f = record { name = f.name.now; value = f.value.now ++ continued f.lines.now }

-- the field that a line begins, which the text behind it may continue
abbrev pub begun : List ℕ → List ℕ → PlainField
begun line text = record { name = name_of line; value = unfolded line (more_lines text) }

-- the text of an unfolded value
abbrev pub unfolded_text : Unfolded → List ℕ
unfolded_text (Whole text) = text.now
unfolded_text (Joined text) = text.items
