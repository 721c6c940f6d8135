-- The order of the index, and the numbers that the messages have by it.
use Rattle.std.specs.Prelude.{◌+◌, ℕ, List, length, map}
use Rattle.std.specs.List.{range_with_len}
use Rattle.std.specs.Option.{option_map_or}
use Rattle.mail_base.specs.declared.kind.Id.{Id}
use Rattle.patterns_match.specs.declared.row.Row.{Row}
use Rattle.index_listed.specs.Listed.{PlainListed, at, size_of}
use Rattle.index_listed.specs.Places.{place_in}
use Rattle.index_order.specs.Keys.{PlainKeys, keys_of}
use Rattle.index_view.specs.Tables.{row_at}

-- what a message with a score is sorted by
abbrev pub key_of : PlainListed → ℕ → PlainKeys
key_of l score = keys_of l.id l.mail.received score (size_of l) l.header

-- what the message at a place is sorted by
abbrev pub key_at : List PlainListed → List Row → ℕ → PlainKeys
key_at ls rows p = key_of (at ls p) (row_at rows p).score

-- what the messages are sorted by
abbrev pub keys : List PlainListed → List Row → List PlainKeys
keys ls rows = map (key_at ls rows) (range_with_len 0 (length ls))

-- the place of an id in the order, from 1
abbrev pub number_in : List Id → Id → ℕ
number_in order id = option_map_or (λ p. p + 1) (place_in order id) 0

-- a message with its number
abbrev pub with_number : List Id → Row → Row
with_number order row = record row { number = number_in order row.id }

-- the messages with their numbers
abbrev pub numbered : List Id → List Row → List Row
numbered order rows = map (with_number order) rows
