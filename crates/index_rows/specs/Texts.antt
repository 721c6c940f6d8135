-- The texts of the letters of a row (Mutt's manual, "index_format").
use Rattle.std.specs.Prelude.{◌==◌, ◌++◌, ℕ, Bool, List, [], ◌∷◌, Option, Some, None}
use Rattle.std.specs.Prelude.{codes, slice_get, unwrap_or, if◌then◌else◌}
use Rattle.std.specs.Fmt.{decimal}
use Rattle.std.specs.Str.{byte}
use Rattle.mail_base.specs.Lines.{message_fields}
use Rattle.mail_base.specs.Shown.{utf8_text}
use Rattle.mail_base.specs.declared.flags.Flags.{Flags}
use Rattle.expando.specs.Drawing.{line}
use Rattle.expando.specs.Formats.{PlainPiece}
use Rattle.headers.specs.Person.{PlainPerson}
use Rattle.headers.specs.Values.{first_value}
use Rattle.index_rows.specs.Date.{date_text}
use Rattle.index_rows.specs.Entry.{PlainEntry, sent_date}
use Rattle.index_rows.specs.declared.shut.Shut.{Shut}

-- N for new, O for old and unread, r for replied
abbrev pub read_char : Flags → ℕ
read_char flags =
    if flags.seen then (if flags.replied then byte "r" else byte " ")
    else (if flags.aged then byte "O" else byte "N")

-- what a shut thread has among its messages: n for a new one, o for an old and unread one
abbrev pub shut_char : Shut → Flags → ℕ
shut_char shut flags =
    if shut.has_new then byte "n" else (if shut.has_old then byte "o" else read_char flags)

-- of a message that stands for a shut thread, whose others it hides, or for itself
abbrev pub thread_char : Option Shut → Flags → ℕ
thread_char None flags = read_char flags
thread_char (Some shut) flags = shut_char shut flags

-- D for deleted
abbrev pub deleted_char : Bool → ℕ
deleted_char deleted = if deleted then byte "D" else byte " "

-- tagged, flagged, or what the message is to its reader
abbrev pub tag_char : PlainEntry → ℕ
tag_char e =
    if e.tagged then byte "*"
    else (if e.flags.flagged then byte "!"
    else unwrap_or (slice_get e.to_chars e.ties.place) (byte " "))

-- the three characters of the status
abbrev pub status_text : PlainEntry → List ℕ
status_text e =
    utf8_text (thread_char e.shut e.flags ∷ deleted_char e.deleted ∷ tag_char e ∷ [])

-- the first of them
abbrev pub first_status : PlainEntry → List ℕ
first_status e = utf8_text (thread_char e.shut e.flags ∷ [])

-- a name, or else an address
abbrev pub name_or : List ℕ → List ℕ → List ℕ
name_or [] address = utf8_text address
name_or (b ∷ name) address = b ∷ name

-- the first of some persons, by name or else by address
abbrev pub first_name : List PlainPerson → List ℕ
first_name [] = []
first_name (p ∷ persons) = name_or p.name p.address

-- the address of the first of them
abbrev pub first_address : List PlainPerson → List ℕ
first_address [] = []
first_address (p ∷ persons) = utf8_text p.address

-- the address of the first author
abbrev pub address_text : PlainEntry → List ℕ
address_text e = first_address e.header.authors

-- the first author
abbrev pub author_text : PlainEntry → List ℕ
author_text e = first_name e.header.authors

-- the first of those to whom the message was sent
abbrev pub recipient_text : PlainEntry → List ℕ
recipient_text e = first_name (e.header.to ++ e.header.cc)

-- the recipient where the reader is the author, else the author
abbrev pub other_text : PlainEntry → List ℕ
other_text e = if e.ties.from_reader then codes "To " ++ recipient_text e else author_text e

-- a list, else another text
abbrev pub list_or : Option (List ℕ) → List ℕ → List ℕ
list_or None other = other
list_or (Some address) other = codes "To " ++ utf8_text address

-- the list to which the message was sent, else the same
abbrev pub list_text : PlainEntry → List ℕ
list_text e = list_or e.ties.list (other_text e)

-- the id of the message, or nothing
abbrev pub id_text : PlainEntry → List ℕ
id_text e = utf8_text (unwrap_or e.header.message_id [])

-- a subject; an empty one is named
abbrev pub subject_text : List ℕ → List ℕ
subject_text [] = codes "(no subject)"
subject_text (b ∷ subject) = b ∷ subject

-- the subject behind what stands before it
abbrev pub tree_and_subject : PlainEntry → List ℕ
tree_and_subject e = e.tree ++ subject_text e.header.subject

-- the date sent, in the sender's offset
abbrev pub sender_date : PlainEntry → List ℕ → List ℕ
sender_date e format = date_text format (sent_date e).seconds (sent_date e).offset

-- the same in the reader's offset
abbrev pub reader_date : PlainEntry → List ℕ → List ℕ
reader_date e format = date_text format (sent_date e).seconds e.offset

-- the X-Label as it stands, or nothing
abbrev pub label_text : PlainEntry → List ℕ
label_text e = utf8_text (unwrap_or (first_value (codes "x-label") (message_fields e.raw)) [])

-- the text of a letter; `format` is that of a date
unfoldable pub index_text : PlainEntry → ℕ → List ℕ → List ℕ
index_text e letter format =
    if letter == byte "C" then decimal e.number
    else if letter == byte "m" then decimal e.count
    else if letter == byte "Z" then status_text e
    else if letter == byte "S" then first_status e
    else if letter == byte "{" then sender_date e format
    else if letter == byte "[" then reader_date e format
    else if letter == byte "a" then address_text e
    else if letter == byte "n" then author_text e
    else if letter == byte "F" then other_text e
    else if letter == byte "L" then list_text e
    else if letter == byte "t" then recipient_text e
    else if letter == byte "i" then id_text e
    else if letter == byte "s" then tree_and_subject e
    else if letter == byte "c" then decimal e.size
    else if letter == byte "l" then decimal e.header.body_lines
    else if letter == byte "N" then decimal e.score
    else if letter == byte "y" then label_text e
    else []

-- a message's row by a format, in so many columns
abbrev pub index_row : ℕ → PlainEntry → List PlainPiece → List ℕ
index_row cols e format = line cols (index_text e) format
