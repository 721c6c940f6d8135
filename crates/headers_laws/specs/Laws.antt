-- Laws of the definitions, in the words of a reader of mail.
use Rattle.std.specs.Prelude.{◌≡◌, ◌==◌, ◌&&◌, ◌||◌, ℕ, Bool, true, false, not, nat_le, is_some}
use Rattle.std.specs.Prelude.{List, [], ◌∷◌, ◌++◌, length}
use Rattle.std.specs.List.{list_all, flat_map, suffix_len}
use Rattle.std.specs.Str.{byte, is_utf8}
use Rattle.mail_base.specs.Blanks.{is_blank}
use Rattle.mail_base.specs.Fronts.{behind}
use Rattle.mail_base.specs.Lines.{PlainField, body_at, is_continuation, is_name_byte}
use Rattle.mail_base.specs.Lines.{message_fields}
use Rattle.mail_base.specs.Shown.{utf8_text}
use Rattle.mail_base.specs.Written.{escaped, is_line_byte}
use Rattle.headers.specs.Decode.{decoded_words}
use Rattle.headers.specs.People.{people}
use Rattle.headers.specs.Person.{PlainPerson}

-- `=?` stands in the text
abbrev pub has_mark : List ℕ → Bool
has_mark [] = false
has_mark (b ∷ rest) = (b == byte "=" && is_some (behind (byte "?") rest)) || has_mark rest

-- a text without `=?` stays, but for malformed bytes, each of which shows as `?`
abbrev pub PlainTextStays : Type 0
PlainTextStays = (s : List ℕ) → has_mark s ≡ false → decoded_words s ≡ utf8_text s

-- UTF-8 shows as it is
abbrev pub Utf8Stays : Type 0
Utf8Stays = (s : List ℕ) → is_utf8 s ≡ true → utf8_text s ≡ s

-- a byte that a phrase or an address may hold as it is: printable, and no special of an address
-- list
abbrev pub is_plain_byte : ℕ → Bool
is_plain_byte b =
    nat_le (byte " ") b && nat_le b 126
    && not (b == byte "\"" || b == byte "(" || b == byte ")" || b == byte "," || b == byte ":"
    || b == byte ";" || b == byte "<" || b == byte ">" || b == byte "\\")

-- no blank stands at either end
abbrev pub is_trimmed : List ℕ → Bool
is_trimmed s = not (is_continuation s) && suffix_len is_blank s == 0

-- plain bytes without blanks at the ends
abbrev pub is_plain : List ℕ → Bool
is_plain s = list_all is_plain_byte s && is_trimmed s

-- a person that can be written without quotes
abbrev pub is_plain_person : PlainPerson → Bool
is_plain_person p = is_plain p.name && not (has_mark p.name) && is_plain p.address

-- `NAME <ADDRESS>,`
abbrev pub written_person : PlainPerson → List ℕ
written_person p = (p.name ++ byte " " ∷ []) ++ byte "<" ∷ p.address ++ byte ">" ∷ byte "," ∷ []

-- persons written so, each with a comma behind it, are read back
abbrev pub WrittenPeopleAreRead : Type 0
WrittenPeopleAreRead =
    (persons : List PlainPerson) → list_all is_plain_person persons ≡ true
    → people (flat_map written_person persons) ≡ persons

-- a person whose name can be written in quotes
abbrev pub is_quotable_person : PlainPerson → Bool
is_quotable_person p =
    is_utf8 p.name && is_trimmed p.name && not (has_mark p.name) && is_plain p.address

-- `"NAME" <ADDRESS>,`
abbrev pub written_quoted : PlainPerson → List ℕ
written_quoted p =
    byte "\""
    ∷ (escaped p.name ++ byte "\"" ∷ byte " " ∷ byte "<"
    ∷ (p.address ++ byte ">" ∷ byte "," ∷ []))

-- a person written so is read back, whatever bytes its name has
abbrev pub QuotedPhraseIsRead : Type 0
QuotedPhraseIsRead =
    (p : PlainPerson) → is_quotable_person p ≡ true → people (written_quoted p) ≡ p ∷ []

-- `PHRASE:`, persons written plainly, and `;`
abbrev pub written_group : List ℕ → List PlainPerson → List ℕ
written_group phrase persons =
    phrase ++ byte ":" ∷ (flat_map written_person persons ++ byte ";" ∷ [])

-- a group gives its members
abbrev pub GroupIsRead : Type 0
GroupIsRead =
    (phrase : List ℕ) (persons : List PlainPerson) → list_all is_plain_byte phrase ≡ true
    → list_all is_plain_person persons ≡ true → people (written_group phrase persons) ≡ persons

-- `ADDRESS (NAME),`
abbrev pub written_commented : PlainPerson → List ℕ
written_commented p =
    (p.address ++ byte " " ∷ []) ++ byte "(" ∷ (p.name ++ byte ")" ∷ byte "," ∷ [])

-- a name in a comment is read back
abbrev pub CommentIsTheName : Type 0
CommentIsTheName =
    (p : PlainPerson) → is_plain_person p ≡ true → people (written_commented p) ≡ p ∷ []

-- a name of a field (RFC 5322, section 2.2)
abbrev pub is_name : List ℕ → Bool
is_name [] = false
is_name (b ∷ name) = is_name_byte b && list_all is_name_byte name

-- a field that fits one line
abbrev pub is_one_line : PlainField → Bool
is_one_line f = is_name f.name && list_all is_line_byte f.value && not (is_continuation f.value)

-- `NAME: VALUE` on a line of its own
abbrev pub written_field : PlainField → List ℕ
written_field f = (f.name ++ byte ":" ∷ byte " " ∷ f.value) ++ byte "\n" ∷ []

-- fields one a line, an empty line and a body
abbrev pub written_message : List PlainField → List ℕ → List ℕ
written_message fields body = flat_map written_field fields ++ byte "\n" ∷ body

-- fields written one a line are read back, whatever the body
abbrev pub WrittenFieldsAreRead : Type 0
WrittenFieldsAreRead =
    (fields : List PlainField) (body : List ℕ) → list_all is_one_line fields ≡ true
    → message_fields (written_message fields body) ≡ fields

-- and the body is found behind them
abbrev pub WrittenBodyIsFound : Type 0
WrittenBodyIsFound =
    (fields : List PlainField) (body : List ℕ) → list_all is_one_line fields ≡ true
    → body_at (written_message fields body) ≡ length (flat_map written_field fields)
