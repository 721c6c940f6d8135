-- The listed messages with their letters and headers.
use Rattle.std.specs.Prelude.{ℕ, pos, List, [], length, map}
use Rattle.std.specs.Prelude.{drop, slice_index_or}
use Rattle.mail_base.specs.declared.kind.Id.{Id}
use Rattle.folder_letters.specs.Letters.{Mail, plain_letter}
use Rattle.headers.specs.Header.{PlainHeader, header, plain_header}
use Rattle.index_listed.specs.declared.listed.Listed.{Listed}

-- a listed message, with its letter and the header of that
pub record PlainListed : Type 0 where
  pub id : Id
  pub mail : Mail
  pub header : PlainHeader

-- what stands at a place where there is no letter
abbrev pub no_mail : Mail
no_mail = record { order = 0; key = []; core = []; text_at = 0; received = pos 0 }

-- the id that stands where there is none
abbrev pub no_id : Id
no_id = record { 0 = 0 }

-- the letter of an id
abbrev pub mail_at : List Mail → Id → Mail
mail_at mails id = slice_index_or mails id.0 no_mail

-- the text of a letter
abbrev pub text_of : Mail → List ℕ
text_of mail = drop mail.text_at mail.core

-- what the header of a letter says
abbrev pub header_of : Mail → PlainHeader
header_of mail = header (text_of mail)

-- a message with the letter of its id
abbrev pub listed_with : List Mail → Id → PlainListed
listed_with mails id = record {
  id = id;
  mail = mail_at mails id;
  header = header_of (mail_at mails id);
}

-- the messages with the letters of their ids
abbrev pub all_listed : List Mail → List Id → List PlainListed
all_listed mails ids = map (listed_with mails) ids

-- what stands at a place where there is no message
abbrev pub no_listed : PlainListed
no_listed = record { id = no_id; mail = no_mail; header = header_of no_mail }

-- the message at a place
abbrev pub at : List PlainListed → ℕ → PlainListed
at ls p = slice_index_or ls p no_listed

-- the numbers of the messages' ids
abbrev pub ids : List PlainListed → List ℕ
ids ls = map (λ l. l.id.0) ls

-- the bytes of a message
abbrev pub size_of : PlainListed → ℕ
size_of l = length (text_of l.mail)

-- For the code alone.

-- a listed message as contracts see it
abbrev pub plain_listed : Listed → PlainListed
plain_listed l = record {
  id = l.id;
  mail = plain_letter l.letter.now;
  header = plain_header l.header.now;
}
