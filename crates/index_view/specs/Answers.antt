-- What the index answers, worked out from scratch.
use Rattle.std.specs.Prelude.{◌≡◌, ℕ, Bool, false, List, [], Option, None, length, map}
use Rattle.std.specs.Prelude.{nat_eq, not, option_and_then, option_map, position, slice_index_or}
use Rattle.std.specs.List.{IsDistinct, filter}
use Rattle.std.specs.Option.{option_map_or}
use Rattle.mail_base.specs.declared.kind.Id.{Id}
use Rattle.patterns_match.specs.Listings.{Message}
use Rattle.patterns_match.specs.ScoreEntries.{held_entries}
use Rattle.patterns_match.specs.Scores.{PlainEntry}
use Rattle.patterns_match.specs.declared.row.Row.{Row}
use Rattle.people.specs.People.{PlainPeople}
use Rattle.threads.specs.Threads.{PlainThreads}
use Rattle.threads.specs.declared.options.Parent.{Parent}
use Rattle.index_items.specs.Items.{PlainItem, plain_items}
use Rattle.index_items.specs.declared.item.Item.{Item}
use Rattle.index_listed.specs.Listed.{PlainListed, ids}
use Rattle.index_listed.specs.Places.{numbers}
use Rattle.index_listed.specs.Seen.{PlainSight, sight, visible_ids}
use Rattle.index_listed.specs.Sight.{AreFirst, stances}
use Rattle.index_listed.specs.Threaded.{parents_of as parents_in}
use Rattle.index_listed.specs.Threading.{AllWithin, all_links, at as links_at, threads}
use Rattle.index_listed.specs.declared.links.Links.{Links}
use Rattle.index_listed.specs.declared.stance.Stance.{Stance}
use Rattle.index_order.specs.Options.{sort_options}
use Rattle.index_order.specs.Order.{is_threads, order}
use Rattle.index_order.specs.declared.view_options.ViewOptions.{ViewOptions}
use Rattle.index_rows.specs.Ties.{PlainTies, ties_of}
use Rattle.index_view.specs.Limit.{all_within, passes}
use Rattle.patterns_match.specs.Pattern.{PlainPattern, plain_pattern}
use Rattle.index_view.specs.Marks.{marks_of}
use Rattle.index_view.specs.Ordering.{keys, numbered}
use Rattle.index_view.specs.Tables.{first_rows, row_at, scored_rows, table}
use Rattle.index_view.specs.declared.answers.Ranked.{Ranked}
use Rattle.index_view.specs.declared.tables.Tables.{Tables}

-- What is given: how the index stands, the listed messages with what the user changed of them, the
-- tables of people, the entries of scores, and the limit, if there is one.
pub record Facts : Type 0 where
  pub options : ViewOptions
  pub items : List PlainItem
  pub people : PlainPeople
  pub scores : List PlainEntry
  pub limit : Option PlainPattern

-- What is answered: each message's parent, links, row and ties in listing order, how the messages
-- stand in order, and what is seen.
pub record PlainAnswers : Type 0 where
  pub parents : List (Option Parent)
  pub links : List Links
  pub rows : List Row
  pub ties : List PlainTies
  pub stances : List Stance
  pub sight : PlainSight

-- From here on the listed messages stand there with their letters.

-- the listed messages in threads
abbrev pub threads_of : List PlainListed → Facts → PlainThreads
threads_of ls f = threads f.options.threads ls

-- what each listed message follows
abbrev pub links_of : List PlainListed → Facts → List Links
links_of ls f = all_links (threads_of ls f) ls

-- rows without numbers, by the links of the messages
abbrev pub scored_by : PlainPeople → List PlainEntry → List PlainListed → List PlainItem
    → List Links → List Row
scored_by people entries ls items links = scored_rows people entries
    (table ls (first_rows ls items links) links) (first_rows ls items links)

-- the rows of the listed messages with their scores, before they have numbers
abbrev pub scored : List PlainListed → Facts → List Row
scored ls f = scored_by f.people f.scores ls f.items (links_of ls f)

-- the ids in order
abbrev pub ordered : List PlainListed → Facts → List Id
ordered ls f = order (sort_options f.options) (keys ls (scored ls f)) (threads_of ls f)

-- the rows of the listed messages, with their numbers in the order
abbrev pub rows_of : List PlainListed → Facts → List Row
rows_of ls f = numbered (ordered ls f) (scored ls f)

-- the messages as the limit and other patterns see them
abbrev pub messages_of : List PlainListed → Facts → List Message
messages_of ls f = table ls (rows_of ls f) (links_of ls f)

-- what each message is to its reader
abbrev pub ties : List PlainListed → Facts → List PlainTies
ties ls f = map (λ l. ties_of f.people l.header) ls

-- the parent of each listed message
abbrev pub parents_of : List PlainListed → Facts → List (Option Parent)
parents_of ls f = parents_in (threads_of ls f) ls

-- how the messages stand in the order
abbrev pub stances_of : List PlainListed → Facts → List Stance
stances_of ls f = stances (is_threads f.options.sort) (threads_of ls f) (ids ls) (ordered ls f)

-- which messages satisfy the limit
abbrev pub within_of : List PlainListed → Facts → List Bool
within_of ls f = all_within f.people f.limit (messages_of ls f)

-- what of the index is seen
abbrev pub sight_of : List PlainListed → Facts → PlainSight
sight_of ls f =
    sight (marks_of (rows_of ls f) (within_of ls f)) (ordered ls f) (stances_of ls f)

-- what the index answers, worked out from scratch
abbrev pub answers : List PlainListed → Facts → PlainAnswers
answers ls f = record {
  parents = parents_of ls f;
  links = links_of ls f;
  rows = rows_of ls f;
  ties = ties ls f;
  stances = stances_of ls f;
  sight = sight_of ls f;
}

-- what an index without messages answers
abbrev pub no_answers : PlainAnswers
no_answers = record {
  parents = [];
  links = [];
  rows = [];
  ties = [];
  stances = [];
  sight = record { order = []; entries = []; new_threads = []; old_threads = [] };
}

-- where a message stands in the listing
abbrev pub place_of : PlainAnswers → Id → Option ℕ
place_of a id = position (nat_eq id.0) (map (λ r. r.id.0) a.rows)

-- what is shown of a message, where it is listed
abbrev pub row : PlainAnswers → Id → Option Row
row a id = option_map (row_at a.rows) (place_of a id)

-- it is listed, and its thread is not shut
abbrev pub is_open : PlainAnswers → Id → Bool
is_open a id = option_map_or (λ r. not r.collapsed) (row a id) false

-- its parent, if it has one
abbrev pub parent_of : PlainAnswers → Id → Option Parent
parent_of a id = option_and_then (λ p. slice_index_or a.parents p None) (place_of a id)

-- the root of its thread
abbrev pub thread_of : PlainAnswers → Id → Option Id
thread_of a id =
    option_map (λ p. (row_at a.rows (links_at a.links p).root).id) (place_of a id)

-- the message with an id satisfies a pattern, of messages as patterns see them
abbrev pub id_passes : PlainPeople → PlainPattern → List Message → PlainAnswers → Id → Bool
id_passes people pattern messages a id =
    option_map_or (passes people pattern messages) (place_of a id) false

-- the ids that are seen and satisfy a pattern, in order
abbrev pub picked : PlainPeople → PlainPattern → List Message → PlainAnswers → List Id
picked people pattern messages a =
    filter (id_passes people pattern messages a) (visible_ids a.sight)

-- For the code alone.

-- What was answered of the same listed messages, by the same facts but for what the user changed.
pub record WereAnswered (ls : List PlainListed) (f : Facts) (a : PlainAnswers) : Type 0 where
  pub items : List PlainItem
  pub are : a ≡ answers ls (record f { items = items })

-- facts by what the code has of them
abbrev pub facts : ViewOptions → List Item → Tables → Facts
facts options items tables = record {
  options = options;
  items = plain_items items;
  people = tables.people;
  scores = held_entries tables.scores.entries.items;
  limit = option_map plain_pattern tables.limit;
}

-- messages with their numbers, their ids in order, and how they stand there
pub record AreRanked (ls : List PlainListed) (f : Facts) (r : Ranked) : Type 0 where
  pub rows_are : r.rows.items ≡ rows_of ls f
  pub order_is : r.order.items ≡ ordered ls f
  pub apart : IsDistinct nat_eq (numbers r.order.items)
  pub stances_are : r.stances.items ≡ stances_of ls f
  pub first : AreFirst r.stances.items

-- what answers keep
pub record AreKept (places : List ℕ) (parents : List (Option Parent)) (links : List Links)
    (rows : List Row) (all : List PlainTies) (stances : List Stance) (order : List Id)
    : Type 0 where
  pub places_are : places ≡ map (λ r. r.id.0) rows
  pub parents_long : length parents ≡ length rows
  pub links_long : length links ≡ length rows
  pub ties_long : length all ≡ length rows
  pub within : AllWithin (length rows) links
  pub stances_long : length stances ≡ length order
  pub apart : IsDistinct nat_eq (numbers order)
  pub first : AreFirst stances
