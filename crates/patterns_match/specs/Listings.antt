-- Listings of messages, of which patterns are asked.
use Rattle.std.specs.Prelude.{◌++◌, ◌∷◌, ℕ, Bool, List, [], Option, Some, None, codes, drop, map}
use Rattle.std.specs.Prelude.{nat_eq, unwrap_or, if◌then◌else◌}
use Rattle.std.specs.List.{flat_map, slice_range, starts_with}
use Rattle.bstr.specs.Text.{lines_of, without_terminator}
use Rattle.mail_base.specs.Lines.{PlainField, behind_line, message_fields}
use Rattle.headers.specs.Header.{PlainHeader}
use Rattle.headers.specs.Ids.{ids}
use Rattle.headers.specs.Person.{PlainPerson}
use Rattle.headers.specs.Values.{first_value, values}
use Rattle.mime_tree.specs.Part.{PlainPart}
use Rattle.mime_tree.specs.Parts.{parts_of}
use Rattle.mime_tree.specs.Text.{decoded_lines}
use Rattle.patterns_match.specs.declared.letter.Field.{Field}
use Rattle.patterns_match.specs.declared.letter.Field.TheVariants as field
use Rattle.patterns_match.specs.declared.row.Row.{Row}

-- A message: its row, header and text, the places of its parent and root, and whether it has the
-- id of an earlier one.
pub record Message : Type 0 where
  pub row : Row
  pub header : PlainHeader
  pub raw : List ℕ
  pub parent : Option ℕ
  pub root : ℕ
  pub duplicate : Bool

-- a person as it is searched for
abbrev pub person_text : PlainPerson → List ℕ
person_text p = p.name ++ codes " <" ++ p.address ++ codes ">"

-- the texts of persons
abbrev pub person_texts : List PlainPerson → List (List ℕ)
person_texts persons = map person_text persons

-- a header line as it is searched for
abbrev pub field_text : PlainField → List ℕ
field_text f = f.name ++ codes ": " ++ f.value

-- what is there, as a list
abbrev pub all_of : {X : Type 0} → Option X → List X
all_of None = []
all_of (Some x) = x ∷ []

-- the lines of a part of text, decoded
abbrev pub part_lines : List ℕ → PlainPart → List (List ℕ)
part_lines raw p =
    if starts_with nat_eq p.content (codes "text/")
    then decoded_lines p.encoding p.charset (slice_range raw p.body_at p.body_end)
    else []

-- the lines of a body; those of the raw body where parts nest too deep
abbrev pub body_lines : List ℕ → ℕ → Option (List PlainPart) → List (List ℕ)
body_lines raw body_at None = map without_terminator (lines_of (behind_line (drop body_at raw)))
body_lines raw body_at (Some parts) = flat_map (part_lines raw) parts

-- the lines of the body of a message
abbrev pub body_texts : Message → List (List ℕ)
body_texts m = body_lines m.raw m.header.body_at (parts_of m.raw)

-- the header lines of a message
abbrev pub header_texts : Message → List (List ℕ)
header_texts m = map field_text (message_fields m.raw)

-- the parts of a message, where they do not nest too deep
abbrev pub parts_in : Message → List PlainPart
parts_in m = unwrap_or (parts_of m.raw) []

-- the ids of all fields of the name
abbrev pub ids_named : List ℕ → List PlainField → List (List ℕ)
ids_named name fields = flat_map ids (values name fields)

-- the ids of all References and In-Reply-To fields
abbrev pub answered_ids : List PlainField → List (List ℕ)
answered_ids fields =
    ids_named (codes "references") fields ++ ids_named (codes "in-reply-to") fields

-- where a letter searches: the texts, of which one has to have it
abbrev pub texts_of : Field → Message → List (List ℕ)
texts_of field.Body m = body_texts m
texts_of field.Whole m = header_texts m ++ body_texts m
texts_of field.Header m = header_texts m
texts_of field.Cc m = person_texts m.header.cc
texts_of field.Recipients m = person_texts (m.header.to ++ m.header.cc)
texts_of field.To m = person_texts m.header.to
texts_of field.From m = person_texts m.header.authors
texts_of field.Sender m = person_texts m.header.senders
texts_of field.Anyone m =
    person_texts (m.header.authors ++ m.header.senders ++ m.header.to ++ m.header.cc)
texts_of field.Id m = all_of m.header.message_id
texts_of field.Subject m = m.header.subject ∷ []
texts_of field.References m = answered_ids (message_fields m.raw)
texts_of field.Label m = all_of (first_value (codes "x-label") (message_fields m.raw))
texts_of field.ContentType m = map (λ p. p.content) (parts_in m)
