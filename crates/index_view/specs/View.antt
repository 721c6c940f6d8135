-- A view: what it was given, what it answers, and where the cursor stands.
use Rattle.std.specs.Prelude.{◌≡◌, ◌++◌, [], ℕ, Bool, List, Option, Some, None, length, nat_eq}
use Rattle.std.specs.Prelude.{option_map, take}
use Rattle.std.specs.Prelude.{if◌then◌else◌}
use Rattle.std.specs.List.{IsDistinct, list_any}
use Rattle.std.specs.Option.{option_or}
use Rattle.mail_base.specs.declared.kind.Id.{Id}
use Rattle.folder_letters.specs.Letters.{Mail}
use Rattle.folder_letters.specs.declared.listing.Found.{Found}
use Rattle.headers.specs.Header.{PlainHeader}
use Rattle.patterns_match.specs.Listings.{Message}
use Rattle.patterns_match.specs.ScoreEntries.{held_entries}
use Rattle.patterns_match.specs.declared.pattern.Pattern.{Pattern}
use Rattle.patterns_match.specs.declared.score_entry.ScoreEntry.{ScoreEntry}
use Rattle.people.specs.People.{Alias, PlainPeople, alias_of}
use Rattle.index_items.specs.Found.{AreListedBelow, IsFoundBelow, IsJoined, came_items}
use Rattle.index_items.specs.Items.{PlainItem, numbers as item_numbers}
use Rattle.index_listed.specs.Cursor.{Stands, is_seen, moved, moved_by_shutting}
use Rattle.index_listed.specs.Heads.{AreHeads, AreWithin}
use Rattle.index_listed.specs.Seen.{visible_ids}
use Rattle.index_order.specs.declared.view_options.ViewOptions.{ViewOptions}
use Rattle.index_view.specs.Answers.{Facts, PlainAnswers, answers, messages_of, no_answers, picked}
use Rattle.patterns_match.specs.Pattern.{PlainPattern, plain_pattern}
use Rattle.index_view.specs.Listing.{all_listed}

-- What a view was given, the headers of the letters that it knows, what it answers, the cursor, and
-- the aliases that were added.
pub record PlainView : Type 0 where
  pub options : ViewOptions
  pub items : List PlainItem
  pub people : PlainPeople
  pub scores : List ScoreEntry
  pub limit : Option Pattern
  pub heads : List PlainHeader
  pub answers : PlainAnswers
  pub cursor : Option Id
  pub aliases : List Alias

-- the facts that a view was given
abbrev pub facts_of : PlainView → Facts
facts_of v = record {
  options = v.options;
  items = v.items;
  people = v.people;
  scores = held_entries v.scores;
  limit = option_map plain_pattern v.limit;
}

-- the ids that are seen, in order
abbrev pub visible_of : PlainView → List Id
visible_of v = visible_ids v.answers.sight

-- the messages as patterns see them
abbrev pub messages_over : List Mail → Facts → List Message
messages_over mails f = messages_of (all_listed mails f.items) f

-- what is answered from scratch over these letters
abbrev pub answers_over : List Mail → Facts → PlainAnswers
answers_over mails f = answers (all_listed mails f.items) f

-- the ids of messages differ
abbrev pub AreApart : List PlainItem → Type 0
AreApart items = IsDistinct nat_eq (item_numbers items)

-- A view of an archive: its messages are letters there, each once, it answers what is worked out
-- from scratch, and its cursor stands on a message that is seen, if there is one.
pub record IsOf (mails : List Mail) (v : PlainView) : Type 0 where
  pub heads : AreHeads v.heads mails
  pub within : AreWithin (length v.heads) (item_numbers v.items)
  pub apart : AreApart v.items
  pub answered : v.answers ≡ answers_over mails (facts_of v)
  pub stands : Stands (visible_of v) v.cursor

-- the message with an id is listed
abbrev pub is_listed : PlainView → Id → Bool
is_listed v id = list_any (nat_eq id.0) (item_numbers v.items)

-- all is as before
pub record IsSame (old new : PlainView) : Type 0 where
  pub given : facts_of new ≡ facts_of old
  pub heads : new.heads ≡ old.heads
  pub answers : new.answers ≡ old.answers
  pub cursor : new.cursor ≡ old.cursor
  pub aliases : new.aliases ≡ old.aliases

-- a view that was given other facts, and whose cursor went where it had to
pub record Turned (mails : List Mail) (old new : PlainView) (facts : Facts) : Type 0 where
  pub is_of : IsOf mails new
  pub given : facts_of new ≡ facts
  pub cursor : new.cursor ≡ moved (visible_of old) (visible_of new) old.cursor
  pub aliases : new.aliases ≡ old.aliases

-- the same where a thread was shut or opened
pub record Folded (mails : List Mail) (old new : PlainView) (facts : Facts) : Type 0 where
  pub is_of : IsOf mails new
  pub given : facts_of new ≡ facts
  pub cursor : new.cursor ≡ moved_by_shutting new.answers.sight (visible_of old) (visible_of new)
      old.cursor
  pub aliases : new.aliases ≡ old.aliases

-- What is found may be taken in: messages that are gone or have other flags are letters of the
-- archive, and so are those that came, which differ from each other and from the listed ones.
pub record MayTake (mails : List Mail) (items : List PlainItem) (found : Found) : Type 0 where
  pub below : IsFoundBelow (length mails) found
  pub came_below : AreListedBelow (length mails) found.came.items
  pub apart : AreApart (items ++ came_items found.came.items)

-- a view that took in what a scan found
pub record Took (mails : List Mail) (found : Found) (old new : PlainView) : Type 0 where
  pub is_of : IsOf mails new
  pub joined : IsJoined mails found old.items new.items
  pub given : facts_of new ≡ record (facts_of old) { items = new.items }
  pub cursor : new.cursor ≡ moved (visible_of old) (visible_of new) old.cursor
  pub aliases : new.aliases ≡ old.aliases

-- what a name stands for: what it was given here, or else before
abbrev pub alias_in : PlainView → List ℕ → Option (List ℕ)
alias_in v name = option_or (alias_of v.aliases name) (alias_of v.people.aliases name)

-- a view of no messages yet
abbrev pub first_view : ViewOptions → PlainPeople → List ScoreEntry → PlainView
first_view options people scores = record {
  options = options;
  items = [];
  people = people;
  scores = scores;
  limit = None;
  heads = [];
  answers = no_answers;
  cursor = None;
  aliases = [];
}

-- the ids that are seen and satisfy a pattern, in order
abbrev pub picked_of : List Mail → PlainPattern → PlainView → List Id
picked_of mails pattern v = picked v.people pattern (messages_over mails (facts_of v)) v.answers

-- a view whose cursor went to a message, where that is seen
abbrev pub moved_to : PlainView → Id → PlainView
moved_to v id = if is_seen (visible_of v) id then record v { cursor = Some id } else v

-- a view with other answers, whose cursor went where it had to
abbrev pub turned : PlainView → PlainAnswers → PlainView
turned v all = record v {
  answers = all;
  cursor = moved (visible_of v) (visible_ids all.sight) v.cursor;
}

-- the same where a thread was shut or opened
abbrev pub folded : PlainView → PlainAnswers → PlainView
folded v all = record v {
  answers = all;
  cursor = moved_by_shutting all.sight (visible_of v) (visible_ids all.sight) v.cursor;
}

-- a view that is as before, but that the headers of more letters are kept
pub record IsWithMore (old new : PlainView) : Type 0 where
  pub same : old ≡ record new { heads = old.heads }
  pub front : take (length old.heads) new.heads ≡ old.heads
