-- The listed messages as patterns see them.
use Rattle.std.specs.Prelude.{◌≡◌, ◌<◌, ℕ, pos, Bool, false, List, length, map, slice_index_or}
use Rattle.std.specs.List.{range_with_len}
use Rattle.people.specs.People.{PlainPeople}
use Rattle.patterns_match.specs.Listings.{Message}
use Rattle.patterns_match.specs.Scores.{PlainEntry, score}
use Rattle.patterns_match.specs.declared.row.Row.{Row}
use Rattle.index_items.specs.Items.{PlainItem, item_at, shown_flags}
use Rattle.index_items.specs.Pending.{no_flags}
use Rattle.index_listed.specs.Listed.{PlainListed, at, no_id, plain_listed, size_of}
use Rattle.index_listed.specs.Listed.{text_of}
use Rattle.index_listed.specs.Threading.{at as links_at}
use Rattle.index_listed.specs.declared.links.Links.{Links}
use Rattle.index_view.specs.declared.messages.Messages.{Messages}

-- the row that stands where there is none
abbrev pub no_row : Row
no_row = record {
  id = no_id;
  number = 0;
  flags = no_flags;
  deleted = false;
  tagged = false;
  collapsed = false;
  score = 0;
  received = pos 0;
  size = 0;
}

-- the row at a place
abbrev pub row_at : List Row → ℕ → Row
row_at rows p = slice_index_or rows p no_row

-- what is shown of a message but for its number and score
abbrev pub first_row : PlainListed → PlainItem → Bool → Row
first_row l i collapsed = record {
  id = l.id;
  number = 0;
  flags = shown_flags i;
  deleted = i.pending.deleted;
  tagged = i.tagged;
  collapsed = collapsed;
  score = 0;
  received = l.mail.received;
  size = size_of l;
}

-- the thread of the message at a place is shut
abbrev pub in_shut : List PlainItem → List Links → ℕ → Bool
in_shut items links p = (item_at items (links_at links p).root).shut

-- the row of the message at a place before it has a score and a number
abbrev pub first_row_at : List PlainListed → List PlainItem → List Links → ℕ → Row
first_row_at ls items links p = first_row (at ls p) (item_at items p) (in_shut items links p)

-- what is shown of the messages but for numbers and scores
abbrev pub first_rows : List PlainListed → List PlainItem → List Links → List Row
first_rows ls items links = map (first_row_at ls items links) (range_with_len 0 (length ls))

-- a message as patterns see it
abbrev pub message : PlainListed → Row → Links → Message
message l row links = record {
  row = row;
  header = l.header;
  raw = text_of l.mail;
  parent = links.parent;
  root = links.root;
  duplicate = links.duplicate;
}

-- the message at a place as patterns see it
abbrev pub message_at : List PlainListed → List Row → List Links → ℕ → Message
message_at ls rows links p = message (at ls p) (row_at rows p) (links_at links p)

-- the messages as patterns see them
abbrev pub table : List PlainListed → List Row → List Links → List Message
table ls rows links = map (message_at ls rows links) (range_with_len 0 (length ls))

-- a message with its score
abbrev pub with_score : ℕ → Row → Row
with_score n row = record row { score = n }

-- the message at a place with what it scores by these entries
abbrev pub scored_at : PlainPeople → List PlainEntry → List Message → List Row → ℕ → Row
scored_at people entries messages rows p =
    with_score (score people messages entries p) (row_at rows p)

-- the messages with what each scores
abbrev pub scored_rows : PlainPeople → List PlainEntry → List Message → List Row → List Row
scored_rows people entries messages rows =
    map (scored_at people entries messages rows) (range_with_len 0 (length rows))

-- For the code alone.

-- the messages of the code as patterns see them
abbrev pub seen_of : Messages → List Message
seen_of m = table (map plain_listed m.listed.now) m.rows.now m.links.now

-- the message at a place scores the same by two lists of rows
abbrev pub ScoreAlike : List Row → List Row → Type 0
ScoreAlike rows others = (p : ℕ) → p < length rows
    → (row_at rows p).score ≡ (row_at others p).score

-- the message at a place with its score and with the number that it had
abbrev pub renumbered_at : List Row → List Row → ℕ → Row
renumbered_at rows scored p = record (row_at scored p) { number = (row_at rows p).number }

-- the messages with their scores and with the numbers that they had
abbrev pub renumbered : List Row → List Row → List Row
renumbered rows scored = map (renumbered_at rows scored) (range_with_len 0 (length scored))
