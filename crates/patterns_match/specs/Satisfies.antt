-- Which messages of a listing satisfy a pattern.
use Rattle.std.specs.Prelude.{◌==◌, ◌&&◌, ◌||◌, ◌++◌, ℕ, ℤ, Bool, true, false, not, int_le, int_lt}
use Rattle.std.specs.Prelude.{List, Option, Some, None, length, map, slice_get}
use Rattle.std.specs.Ordering.{int_eq}
use Rattle.std.specs.Option.{option_map_or}
use Rattle.std.specs.List.{count_by, list_any, range_with_len}
use Rattle.mail_base.specs.Flags.{is_new, is_old}
use Rattle.people.specs.Expr.{finds, literal_found}
use Rattle.people.specs.People.{PlainPeople, any_in}
use Rattle.people.specs.declared.people.PeopleTable.TheVariants.{Lists, Subscribed, Mine}
use Rattle.patterns_match.specs.Days.{day_number}
use Rattle.patterns_match.specs.Listings.{Message, parts_in, texts_of}
use Rattle.patterns_match.specs.Ranges.{holds}
use Rattle.patterns_match.specs.Trees.{Days, Leaf, Tells, Searches, Dated, Counts}
use Rattle.patterns_match.specs.Trees.{Tree, Asks, Not, And, Or, Group, Related}
use Rattle.patterns_match.specs.declared.letter.Day.{Day}
use Rattle.patterns_match.specs.declared.letter.Day.TheVariants as day
use Rattle.patterns_match.specs.declared.letter.Mark.{Mark}
use Rattle.patterns_match.specs.declared.letter.Mark.TheVariants as mark
use Rattle.patterns_match.specs.declared.letter.Number.{Number}
use Rattle.patterns_match.specs.declared.letter.Number.TheVariants as number
use Rattle.patterns_match.specs.declared.range.Range.TheVariants as range
use Rattle.patterns_match.specs.declared.relation.Relation.{Relation}
use Rattle.patterns_match.specs.declared.relation.Relation.TheVariants.{Thread, Parent, Child}

-- the place is that one
abbrev pub is_place : ℕ → Option ℕ → Bool
is_place place None = false
is_place place (Some other) = place == other

-- some message is a child of that at the place
abbrev pub has_child : List Message → ℕ → Bool
has_child listing place = list_any (λ m. is_place place m.parent) listing

-- the letters without an argument, of the message at a place
abbrev pub tells : PlainPeople → List Message → ℕ → Message → Mark → Bool
tells people listing place m mark.All = true
tells people listing place m mark.Deleted = m.row.deleted
tells people listing place m mark.Flagged = m.row.flags.flagged
tells people listing place m mark.New = is_new m.row.flags
tells people listing place m mark.Old = is_old m.row.flags
tells people listing place m mark.Replied = m.row.flags.replied
tells people listing place m mark.Read = m.row.flags.seen
tells people listing place m mark.Tagged = m.row.tagged
tells people listing place m mark.Unread = not m.row.flags.seen
tells people listing place m mark.KnownList = any_in people Lists (m.header.to ++ m.header.cc)
tells people listing place m mark.Subscribed =
    any_in people Subscribed (m.header.to ++ m.header.cc)
tells people listing place m mark.ToMe = any_in people Mine (m.header.to ++ m.header.cc)
tells people listing place m mark.FromMe = any_in people Mine m.header.authors
tells people listing place m mark.Collapsed = m.row.collapsed
tells people listing place m mark.Duplicate = m.duplicate
tells people listing place m mark.Childless = not (has_child listing place)

-- a text is found, which may be plain
abbrev pub text_found : Bool → List ℕ → List ℕ → Bool
text_found true sought text = literal_found sought text
text_found false sought text = finds sought text

-- the day lies in the range
abbrev pub holds_day : Days → ℤ → Bool
holds_day (range.Exactly n) x = int_eq x n
holds_day (range.Between low high) x = int_le low x && int_le x high
holds_day (range.UpTo high) x = int_le x high
holds_day (range.From low) x = int_le low x
holds_day (range.Below n) x = int_lt x n
holds_day (range.Above n) x = int_lt n x

-- a message without a date that can be read was sent when it was received
abbrev pub sent_at : Message → ℤ
sent_at m = option_map_or (λ date. date.seconds) m.header.sent m.row.received

-- the dates, by an offset from UTC
abbrev pub dated : ℤ → Message → Days → Day → Bool
dated offset m days day.Sent = holds_day days (day_number (sent_at m) offset)
dated offset m days day.Received = holds_day days (day_number m.row.received offset)

-- the numbers
abbrev pub number_of : Message → Number → ℕ
number_of m number.Place = m.row.number
number_of m number.Score = m.row.score
number_of m number.Attachments = count_by (λ p. p.attachment) (parts_in m)
number_of m number.Bytes = m.row.size

-- what a leaf asks of the message at a place
abbrev pub asks : PlainPeople → ℤ → List Message → ℕ → Message → Leaf → Bool
asks people offset listing place m (Tells mark) = tells people listing place m mark
asks people offset listing place m (Searches field plain sought) =
    list_any (text_found plain sought) (texts_of field m)
asks people offset listing place m (Dated day days) = dated offset m days day
asks people offset listing place m (Counts number range) = holds range (number_of m number)

-- the message at the other place is so related to one
abbrev pub is_related : Relation → ℕ → Message → ℕ → Message → Bool
is_related Thread place m other n = n.root == m.root
is_related Parent place m other n = is_place other m.parent
is_related Child place m other n = is_place place n.parent

-- a test of a message, where one is
abbrev pub passes : (Message → Bool) → Option Message → Bool
passes test None = false
passes test (Some m) = test m

-- what a leaf asks of the message at a place
abbrev pub asks_at : PlainPeople → ℤ → List Message → ℕ → Leaf → Bool
asks_at people offset listing place leaf =
    passes (λ m. asks people offset listing place m leaf) (slice_get listing place)

-- the messages at both places are so related
abbrev pub are_related : List Message → Relation → ℕ → ℕ → Bool
are_related listing relation place other =
    passes (λ m. passes (is_related relation place m other) (slice_get listing other))
    (slice_get listing place)

-- some message that is so related to the one at a place passes the test
abbrev pub some_related : List Message → Relation → ℕ → (ℕ → Bool) → Bool
some_related listing relation place test =
    list_any (λ other. are_related listing relation place other && test other)
    (range_with_len 0 (length listing))

-- the message at the place satisfies the pattern
abbrev pub satisfies : PlainPeople → ℤ → List Message → Tree → ℕ → Bool
satisfies people offset listing (Asks leaf) place = asks_at people offset listing place leaf
satisfies people offset listing (Not tree) place =
    not (satisfies people offset listing tree place)
satisfies people offset listing (And a b) place =
    satisfies people offset listing a place && satisfies people offset listing b place
satisfies people offset listing (Or a b) place =
    satisfies people offset listing a place || satisfies people offset listing b place
satisfies people offset listing (Group tree) place = satisfies people offset listing tree place
satisfies people offset listing (Related relation tree) place =
    some_related listing relation place (satisfies people offset listing tree)

-- which messages satisfy the pattern, in the order of the listing
abbrev pub all_satisfying : PlainPeople → ℤ → List Message → Tree → List Bool
all_satisfying people offset listing tree =
    map (satisfies people offset listing tree) (range_with_len 0 (length listing))
