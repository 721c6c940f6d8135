-- For the code alone: messages of a table, as they are lent.
use Rattle.headers.specs.Header.{plain_header}
use Rattle.patterns_match.specs.Listings.{Message}
use Rattle.patterns_match.specs.declared.entry.Entry.{Entry}

-- a message with what is lent of it
abbrev pub plain_entry : Entry → Message
plain_entry e = record {
  row = e.row.now;
  header = plain_header e.header.now;
  raw = e.raw.now;
  parent = e.parent;
  root = e.root;
  duplicate = e.duplicate;
}
