-- The part that a section of a message holds, and the sections in it (RFC 2045, section 5; RFC
-- 2046, section 5).
use Rattle.std.specs.Prelude.{◌+◌, ◌-◌, ◌&&◌, ◌||◌, ℕ, Bool, false, not, List, [], ◌∷◌, length}
use Rattle.std.specs.Prelude.{take, Option, Some, None, unwrap_or, is_some, codes, if◌then◌else◌}
use Rattle.std.specs.Str.{bytes_eq, str_eq_ignore_ascii_case, str_to_ascii_lowercase}
use Rattle.bstr.specs.Text.{lines_of}
use Rattle.mail_base.specs.Fronts.{behind_text}
use Rattle.mail_base.specs.Lines.{PlainField, body_at, body_of, message_fields}
use Rattle.mail_base.specs.Tokens.{token_len}
use Rattle.headers.specs.Decode.{decoded_words}
use Rattle.headers.specs.Values.{first_value}
use Rattle.mime_tree.specs.Delimiter.{is_cut}
use Rattle.mime_tree.specs.Encoding.{encoding_of}
use Rattle.mime_tree.specs.MediaType.{media_type}
use Rattle.mime_tree.specs.Parameter.{value_of, parameters}
use Rattle.mime_tree.specs.Part.{PlainPart}
use Rattle.mime_tree.specs.Section.{PlainSection, sections}

-- the value of the first field of the name, or nothing
abbrev pub value_in : List ℕ → List PlainField → List ℕ
value_in name fields = unwrap_or (first_value name fields) []

-- a parameter of the first field of the name
abbrev pub parameter_in : List ℕ → List ℕ → List PlainField → Option (List ℕ)
parameter_in field name fields = value_of name (parameters (value_in field fields))

-- the type that a part has without a Content-Type (RFC 2046, section 5.1.5)
abbrev pub default_type : Bool → List ℕ
default_type in_digest = if in_digest then codes "message/rfc822" else codes "text/plain"

-- the type that a Content-Type names; one that is unreadable is text
abbrev pub written_type : Bool → Option (List ℕ) → List ℕ
written_type in_digest None = default_type in_digest
written_type in_digest (Some value) = unwrap_or (media_type value) (codes "text/plain")

-- the type of a part by its fields, in lower case
abbrev pub named_type : Bool → List PlainField → List ℕ
named_type in_digest fields =
    str_to_ascii_lowercase (written_type in_digest (first_value (codes "content-type") fields))

-- the type of a multipart
abbrev pub is_multipart : List ℕ → Bool
is_multipart content = is_some (behind_text (codes "multipart/") content)

-- the boundary that a Content-Type names, or nothing
abbrev pub boundary_of : List PlainField → List ℕ
boundary_of fields = unwrap_or (parameter_in (codes "content-type") (codes "boundary") fields) []

-- a multipart whose boundary does not occur is text
abbrev pub shown_type : List ℕ → List ℕ → List ℕ → List ℕ
shown_type content boundary body =
    if is_multipart content && not (is_cut boundary body) then codes "text/plain" else content

-- the charset that a Content-Type names, in lower case, or nothing
abbrev pub charset_of : List PlainField → List ℕ
charset_of fields =
    str_to_ascii_lowercase
    (unwrap_or (parameter_in (codes "content-type") (codes "charset") fields) [])

-- the name of a file as written: from the disposition, or else from the type
abbrev pub name_of : Option (List ℕ) → List PlainField → List ℕ
name_of (Some name) fields = name
name_of None fields = unwrap_or (parameter_in (codes "content-type") (codes "name") fields) []

-- the name of a file with its encoded words decoded
abbrev pub filename_of : List PlainField → List ℕ
filename_of fields =
    decoded_words
    (name_of (parameter_in (codes "content-disposition") (codes "filename") fields) fields)

-- the disposition is `attachment` (RFC 2183, section 2)
abbrev pub is_attachment : List ℕ → Bool
is_attachment value = str_eq_ignore_ascii_case (take (token_len value) value) (codes "attachment")

-- the type of the part in a section
abbrev pub type_of : PlainSection → List ℕ
type_of s =
    let fields = message_fields s.text in
    shown_type (named_type s.in_digest fields) (boundary_of fields) (body_of s.text)

-- the part of a type in a range of a message
abbrev pub typed_part : ℕ → ℕ → List ℕ → List ℕ → PlainPart
typed_part nesting start text content =
    let fields = message_fields text in record {
      nesting = nesting;
      content = content;
      charset = charset_of fields;
      filename = filename_of fields;
      encoding = encoding_of (value_in (codes "content-transfer-encoding") fields);
      attachment = is_attachment (value_in (codes "content-disposition") fields);
      body_at = start + body_at text;
      body_end = start + length text;
    }

-- the part that a section of a message holds
abbrev pub part_of : ℕ → PlainSection → PlainPart
part_of nesting s = typed_part nesting s.start s.text (type_of s)

-- parts may stand in a part of the type
abbrev pub holds_parts : List ℕ → Bool
holds_parts content = is_multipart content || bytes_eq content (codes "message/rfc822")

-- the sections in a body of a type: those of a multipart, or the message of a message/rfc822
abbrev pub sections_in : List ℕ → List ℕ → ℕ → List ℕ → List PlainSection
sections_in content boundary start body =
    if is_multipart content
    then sections boundary (bytes_eq content (codes "multipart/digest")) start (lines_of body)
    else (if bytes_eq content (codes "message/rfc822")
    then record { start = start; text = body; in_digest = false } ∷ [] else [])

-- the sections that stand directly in a section
abbrev pub children_of : PlainSection → List PlainSection
children_of s =
    sections_in (type_of s) (boundary_of (message_fields s.text))
    (s.start + (length s.text - length (body_of s.text))) (body_of s.text)
