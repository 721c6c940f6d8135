-- The drafts that a mail reader begins: a new one, and the reply to a message.
use Rattle.std.specs.Prelude.{ℕ, Bool, List, [], ◌++◌, Option, Some, None, map, filter, codes}
use Rattle.std.specs.Prelude.{nat_eq, option_to_list, unwrap_or, if◌then◌else◌}
use Rattle.std.specs.List.{find, slice_range, starts_with}
use Rattle.std.specs.Option.{option_or}
use Rattle.mail_base.specs.Lines.{PlainField, message_fields}
use Rattle.headers.specs.Decode.{decoded_words}
use Rattle.headers.specs.Ids.{PlainFoundId}
use Rattle.headers.specs.Subject.{base_of}
use Rattle.headers.specs.Values.{first_value, id_in, references, subject}
use Rattle.mime_tree.specs.Part.{PlainPart}
use Rattle.mime_tree.specs.Parts.{parts_of}
use Rattle.mime_tree.specs.Text.{decoded_lines}
use Rattle.drafts.specs.Clean.{clean}
use Rattle.drafts.specs.PlainDraft.{PlainDraft, is_id}

-- a draft with these two fields alone
abbrev pub new_draft : List ℕ → List ℕ → PlainDraft
new_draft to subject = record {
  to = clean to;
  subject = clean subject;
  in_reply_to = None;
  references = [];
  body = [];
}

-- whom a reply goes to: the first Reply-To, else the first From
abbrev pub reply_field : List PlainField → Option (List ℕ)
reply_field fields =
    option_or (first_value (codes "reply-to") fields) (first_value (codes "from") fields)

-- the same as text, or nobody
abbrev pub replied_to : List PlainField → List ℕ
replied_to fields = unwrap_or (reply_field fields) []

-- the id, where a draft may have it
abbrev pub kept_id : Option (List ℕ) → Option (List ℕ)
kept_id None = None
kept_id (Some id) = if is_id id then Some id else None

-- the message's own id
abbrev pub own_id : List PlainField → Option (List ℕ)
own_id fields = id_in (codes "message-id") fields

-- the ids before a reply: those of the References fields in order, and the message's own
abbrev pub ids_before : List PlainField → List (List ℕ)
ids_before fields = references fields ++ option_to_list (own_id fields)

-- a part of text
abbrev pub is_text_part : PlainPart → Bool
is_text_part p = starts_with nat_eq p.content (codes "text/")

-- the lines of a part, decoded, where there is one
abbrev pub lines_of_part : List ℕ → Option PlainPart → List (List ℕ)
lines_of_part raw None = []
lines_of_part raw (Some p) =
    decoded_lines p.encoding p.charset (slice_range raw p.body_at p.body_end)

-- the lines of the first part of text, unless parts nest too deep
abbrev pub first_lines : List ℕ → Option (List PlainPart) → List (List ℕ)
first_lines raw None = []
first_lines raw (Some parts) = lines_of_part raw (find is_text_part parts)

-- a line of the message with the indent before it
abbrev pub quoted : List ℕ → List ℕ → List ℕ
quoted indent line = clean indent ++ clean line

-- the draft of a reply to a message of these fields, with this body
abbrev pub reply_with : List PlainField → List (List ℕ) → PlainDraft
reply_with fields body = record {
  to = clean (decoded_words (replied_to fields));
  subject = clean (codes "Re: " ++ base_of (subject fields));
  in_reply_to = kept_id (own_id fields);
  references = filter is_id (ids_before fields);
  body = body;
}

-- the draft of a reply to a message
abbrev pub reply_draft : List ℕ → List ℕ → PlainDraft
reply_draft raw indent =
    reply_with (message_fields raw) (map (quoted indent) (first_lines raw (parts_of raw)))

-- For the code alone.

-- what stands in the brackets of an id, and behind it
abbrev pub found_id : List ℕ → List ℕ → PlainFoundId
found_id inside rest = record { inside = inside; rest = rest }
