-- A listing of a few messages, as patterns see it.
use Rattle.std.specs.Prelude.{◌-◌, ℕ, List, length, map, min, nat_lt, Option, Some, None}
use Rattle.std.specs.Prelude.{if◌then◌else◌}
use Rattle.headers.specs.Header.{plain_header}
use Rattle.patterns_match.specs.Listings.{Message}
use Rattle.rows_patterns.specs.declared.listing.Listed.{Listed}

-- a place below that number
abbrev pub place_below : ℕ → Option ℕ → Option ℕ
place_below size None = None
place_below size (Some place) = if nat_lt place size then Some place else None

-- a message of so many
abbrev pub message_of : ℕ → Listed → Message
message_of size m = record {
  row = m.row;
  header = plain_header m.header;
  raw = m.raw.items;
  parent = place_below size m.parent;
  root = min m.root (size - 1);
  duplicate = m.duplicate;
}

-- the messages of a listing
abbrev pub listed : List Listed → List Message
listed messages = map (message_of (length messages)) messages
