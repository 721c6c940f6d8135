-- What a row of the index shows of a message.
use Rattle.std.specs.Prelude.{ℕ, ℤ, pos, Bool, List, Option, Some, None}
use Rattle.headers.specs.Header.{PlainHeader, plain_header}
use Rattle.headers.specs.declared.sent_date.SentDate.{SentDate}
use Rattle.mail_base.specs.declared.flags.Flags.{Flags}
use Rattle.index_rows.specs.Ties.{PlainTies, plain_ties}
use Rattle.index_rows.specs.declared.entry.Entry.{Entry}
use Rattle.index_rows.specs.declared.shut.Shut.{Shut}

-- a message as a row shows it, and the settings that count
pub record PlainEntry : Type 0 where
  pub number : ℕ
  pub count : ℕ
  pub flags : Flags
  pub deleted : Bool
  pub tagged : Bool
  pub shut : Option Shut
  pub ties : PlainTies
  pub header : PlainHeader
  pub raw : List ℕ
  pub size : ℕ
  pub score : ℕ
  pub tree : List ℕ
  pub received : ℤ
  pub to_chars : List ℕ
  pub offset : ℤ

-- an entry without the rooms of its lists
abbrev pub plain_entry : Entry → PlainEntry
plain_entry e = record {
  number = e.number;
  count = e.count;
  flags = e.flags;
  deleted = e.deleted;
  tagged = e.tagged;
  shut = e.shut;
  ties = plain_ties e.ties.now;
  header = plain_header e.header.now;
  raw = e.raw.now;
  size = e.size;
  score = e.score;
  tree = e.tree.now.items;
  received = e.received;
  to_chars = e.to_chars.now;
  offset = e.offset;
}

-- a date, or else a moment in UTC
abbrev pub sent_or : Option SentDate → ℤ → SentDate
sent_or (Some sent) received = sent
sent_or None received = record { seconds = received; offset = pos 0 }

-- when a message was sent; received, in UTC, where it does not say
abbrev pub sent_date : PlainEntry → SentDate
sent_date e = sent_or e.header.sent e.received
