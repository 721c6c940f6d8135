-- What is known of a message for its place in a thread, and which of two is listed first.
use Rattle.std.specs.Prelude.{ℕ, ℤ, Bool, false, List, [], Option, None, map, option_map}
use Rattle.std.specs.Prelude.{slice_index_or}
use Rattle.std.specs.Option.{option_map_or}
use Rattle.std.specs.Cmp.Lexicographic.{slice_cmp}
use Rattle.std.specs.Ordering.{int_cmp, is_lt, nat_cmp, ordering_then}
use Rattle.std.specs.declared.cmp.Ordering.{Ordering}
use Rattle.mail_base.specs.Series.{plain_texts}
use Rattle.mail_base.specs.declared.kind.Id.{Id}
use Rattle.headers.specs.Header.{PlainHeader}
use Rattle.threads.specs.declared.message.Message.{Message}

-- a message, with its place in the listing and what its header says of others
pub record PlainMessage : Type 0 where
  pub id : Id
  pub order : ℕ
  pub key : List ℕ
  pub sent : ℤ
  pub message_id : Option (List ℕ)
  pub candidates : List (List ℕ)
  pub base_subject : List ℕ
  pub reply_prefix : Bool

-- a message without a date that can be read was sent when it was received
abbrev pub message : Id → ℕ → List ℕ → ℤ → PlainHeader → PlainMessage
message id order key received header = record {
  id = id;
  order = order;
  key = key;
  sent = option_map_or (λ date. date.seconds) header.sent received;
  message_id = header.message_id;
  candidates = header.candidates;
  base_subject = header.base_subject;
  reply_prefix = header.reply_prefix;
}

-- listing order: by order, bytes of the key and id
abbrev pub listing_cmp : PlainMessage → PlainMessage → Ordering
listing_cmp a b =
    ordering_then (ordering_then (nat_cmp a.order b.order) (slice_cmp nat_cmp a.key b.key))
    (nat_cmp a.id.0 b.id.0)

-- by the date sent, and then in listing order
abbrev pub sent_cmp : PlainMessage → PlainMessage → Ordering
sent_cmp a b = ordering_then (int_cmp a.sent b.sent) (listing_cmp a b)

-- what stands at a place where there is no message
abbrev pub no_message : PlainMessage
no_message = record {
  id = record { 0 = 0 };
  order = 0;
  key = [];
  sent = ℤ.pos 0;
  message_id = None;
  candidates = [];
  base_subject = [];
  reply_prefix = false;
}

-- the message at a place
abbrev pub at : List PlainMessage → ℕ → PlainMessage
at messages place = slice_index_or messages place no_message

-- the message at one place is listed before that at another
abbrev pub is_listed_before : List PlainMessage → ℕ → ℕ → Bool
is_listed_before messages a b = is_lt (listing_cmp (at messages a) (at messages b))

-- the message at one place was sent before that at another, or at the same moment and is listed
-- before it
abbrev pub is_sent_before : List PlainMessage → ℕ → ℕ → Bool
is_sent_before messages a b = is_lt (sent_cmp (at messages a) (at messages b))

-- the numbers of the messages' ids
abbrev pub numbers : List PlainMessage → List ℕ
numbers messages = map (λ m. m.id.0) messages

-- For the code alone.

-- a message as contracts see it
abbrev pub plain_message : Message → PlainMessage
plain_message m = record {
  id = m.id;
  order = m.order;
  key = m.key.items;
  sent = m.sent;
  message_id = option_map (λ id. id.items) m.message_id;
  candidates = plain_texts m.candidates;
  base_subject = m.base_subject.items;
  reply_prefix = m.reply_prefix;
}

-- messages as contracts see them
abbrev pub plain_messages : List Message → List PlainMessage
plain_messages messages = map plain_message messages
