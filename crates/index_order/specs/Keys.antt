-- What messages are sorted by, and how the keys of two of them compare.
use Rattle.std.specs.Prelude.{ℕ, ℤ, pos, List, [], ◌∷◌, slice_index_or}
use Rattle.std.specs.Cmp.Lexicographic.{slice_cmp}
use Rattle.std.specs.Option.{option_map_or}
use Rattle.std.specs.Ordering.{int_cmp, nat_cmp}
use Rattle.std.specs.Str.{str_to_ascii_lowercase}
use Rattle.std.specs.declared.cmp.Ordering.{Ordering}
use Rattle.headers.specs.Header.{PlainHeader}
use Rattle.headers.specs.Person.{PlainPerson}
use Rattle.mail_base.specs.declared.kind.Id.{Id}
use Rattle.index_order.specs.declared.options.Sort.{Sort}
use Rattle.index_order.specs.declared.options.Sort.TheVariants.{DateSent, DateReceived, From}
use Rattle.index_order.specs.declared.options.Sort.TheVariants.{MailboxOrder, Score, Size}
use Rattle.index_order.specs.declared.options.Sort.TheVariants.{Subject, Threads, To}

-- what a message is sorted by
pub record PlainKeys : Type 0 where
  pub id : Id
  pub sent : ℤ
  pub received : ℤ
  pub score : ℕ
  pub size : ℕ
  pub author : List ℕ
  pub recipient : List ℕ
  pub subject : List ℕ

-- the address of the first of some persons, with ASCII letters in lower case
abbrev pub first_address : List PlainPerson → List ℕ
first_address [] = []
first_address (p ∷ persons) = str_to_ascii_lowercase p.address

-- the keys of a message; one without a date that can be read was sent when it was received
abbrev pub keys_of : Id → ℤ → ℕ → ℕ → PlainHeader → PlainKeys
keys_of id received score size header = record {
  id = id;
  sent = option_map_or (λ date. date.seconds) header.sent received;
  received = received;
  score = score;
  size = size;
  author = first_address header.authors;
  recipient = first_address header.to;
  subject = str_to_ascii_lowercase header.base_subject;
}

-- a message at its place in the listing
pub record PlacedKeys : Type 0 where
  pub place : ℕ
  pub keys : PlainKeys

-- what stands at a place where there is no message
abbrev pub no_keys : PlainKeys
no_keys = record {
  id = record { 0 = 0 };
  sent = pos 0;
  received = pos 0;
  score = 0;
  size = 0;
  author = [];
  recipient = [];
  subject = [];
}

-- the message at a place of the listing
abbrev pub at : List PlainKeys → ℕ → PlacedKeys
at keys place = record { place = place; keys = slice_index_or keys place no_keys }

-- how the keys of two messages compare
abbrev pub key_cmp : Sort → PlacedKeys → PlacedKeys → Ordering
key_cmp DateSent a b = int_cmp a.keys.sent b.keys.sent
key_cmp DateReceived a b = int_cmp a.keys.received b.keys.received
key_cmp From a b = slice_cmp nat_cmp a.keys.author b.keys.author
key_cmp MailboxOrder a b = nat_cmp a.place b.place
key_cmp Score a b = nat_cmp a.keys.score b.keys.score
key_cmp Size a b = nat_cmp a.keys.size b.keys.size
key_cmp Subject a b = slice_cmp nat_cmp a.keys.subject b.keys.subject
key_cmp Threads a b = int_cmp a.keys.sent b.keys.sent
key_cmp To a b = slice_cmp nat_cmp a.keys.recipient b.keys.recipient
