-- What a message's header says (RFC 5322, section 3.6).
use Rattle.std.specs.Prelude.{ℕ, Bool, List, Option, option_map, codes}
use Rattle.mail_base.specs.Lines.{PlainField, body_at, message_fields}
use Rattle.mail_base.specs.Series.{plain_texts}
use Rattle.headers.specs.BodyLines.{body_lines}
use Rattle.headers.specs.Candidates.{candidates}
use Rattle.headers.specs.Person.{PlainPerson, plain_persons}
use Rattle.headers.specs.Subject.{base_of, has_prefix}
use Rattle.headers.specs.Values.{id_in, persons, sent, subject}
use Rattle.headers.specs.declared.header.Header.{Header}
use Rattle.headers.specs.declared.sent_date.SentDate.{SentDate}

-- what a header says, but for the list of its fields, and without the rooms of its lists
pub record PlainHeader : Type 0 where
  pub subject : List ℕ
  pub base_subject : List ℕ
  pub reply_prefix : Bool
  pub authors : List PlainPerson
  pub senders : List PlainPerson
  pub to : List PlainPerson
  pub cc : List PlainPerson
  pub reply_to : List PlainPerson
  pub message_id : Option (List ℕ)
  pub candidates : List (List ℕ)
  pub sent : Option SentDate
  pub body_at : ℕ
  pub body_lines : ℕ

-- the header of a message
abbrev pub header : List ℕ → PlainHeader
header text =
    let fields = message_fields text in record {
      subject = subject fields;
      base_subject = base_of (subject fields);
      reply_prefix = has_prefix (subject fields);
      authors = persons (codes "from") fields;
      senders = persons (codes "sender") fields;
      to = persons (codes "to") fields;
      cc = persons (codes "cc") fields;
      reply_to = persons (codes "reply-to") fields;
      message_id = id_in (codes "message-id") fields;
      candidates = candidates fields;
      sent = sent fields;
      body_at = body_at text;
      body_lines = body_lines text;
    }

-- a header as contracts see it
abbrev pub plain_header : Header → PlainHeader
plain_header h = record {
  subject = h.subject.items;
  base_subject = h.base_subject.items;
  reply_prefix = h.reply_prefix;
  authors = plain_persons h.authors;
  senders = plain_persons h.senders;
  to = plain_persons h.to;
  cc = plain_persons h.cc;
  reply_to = plain_persons h.reply_to;
  message_id = option_map (λ id. id.items) h.message_id;
  candidates = plain_texts h.candidates;
  sent = h.sent;
  body_at = h.body_at;
  body_lines = h.body_lines;
}

-- For the code alone.

-- a header with the subject, the ids and the date that fields say
abbrev pub with_texts : List PlainField → PlainHeader → PlainHeader
with_texts fields h = record h {
  subject = subject fields;
  base_subject = base_of (subject fields);
  reply_prefix = has_prefix (subject fields);
  message_id = id_in (codes "message-id") fields;
  candidates = candidates fields;
  sent = sent fields;
}

-- a header with the persons that fields name
abbrev pub with_persons : List PlainField → PlainHeader → PlainHeader
with_persons fields h = record h {
  authors = persons (codes "from") fields;
  senders = persons (codes "sender") fields;
  to = persons (codes "to") fields;
  cc = persons (codes "cc") fields;
  reply_to = persons (codes "reply-to") fields;
}
