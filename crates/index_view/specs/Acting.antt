-- How acts change what is answered in place, where neither the limit nor scores look at flags and
-- tags: rows show the messages as they stand then, and threads are asked anew for unread ones.
use Rattle.std.specs.Prelude.{◌≡◌, ℕ, Bool, true, false, List, Option, map, slice_get}
use Rattle.std.specs.Prelude.{if◌then◌else◌}
use Rattle.std.specs.Option.{option_map_or}
use Rattle.mail_base.specs.Flags as flags
use Rattle.mail_base.specs.declared.flags.Flags.{Flags}
use Rattle.mail_base.specs.declared.kind.Id.{Id}
use Rattle.patterns_match.specs.declared.row.Row.{Row}
use Rattle.index_items.specs.Items.{PlainItem, shown_flags}
use Rattle.index_items.specs.Pending.{no_flags}
use Rattle.index_listed.specs.Seen.{PlainSight, marked_threads}
use Rattle.index_listed.specs.declared.stance.Stance.{Stance}
use Rattle.index_view.specs.Answers.{PlainAnswers}
use Rattle.index_view.specs.Staying.{Touched}

-- what is shown of a message and may hang on what is done to it, with its id
pub record Shown : Type 0 where
  pub id : Id
  pub flags : Flags
  pub deleted : Bool
  pub tagged : Bool

-- what a row shows
abbrev pub row_shows : Row → Shown
row_shows r = record { id = r.id; flags = r.flags; deleted = r.deleted; tagged = r.tagged }

-- what is to be shown of a message
abbrev pub item_shows : PlainItem → Shown
item_shows i = record {
  id = i.id;
  flags = shown_flags i;
  deleted = i.pending.deleted;
  tagged = i.tagged;
}

-- rows show the messages as they stand
abbrev pub RowsShow : List PlainItem → List Row → Type 0
RowsShow items rows = map row_shows rows ≡ map item_shows items

-- the row of a message that stands so now
abbrev pub remarked : PlainItem → Row → Row
remarked i row = record row {
  flags = shown_flags i;
  deleted = i.pending.deleted;
  tagged = i.tagged;
}

-- a row without flags, mark of deletion and tag
abbrev pub bare_row : Row → Row
bare_row r = record r { flags = no_flags; deleted = false; tagged = false }

-- a row without what is touched
abbrev pub veiled : Touched → Row → Row
veiled t r = record r {
  flags = if t.flags then no_flags else r.flags;
  deleted = if t.deleted then false else r.deleted;
  tagged = if t.tagged then false else r.tagged;
}

-- what is shown without what is touched
abbrev pub veiled_shown : Touched → Shown → Shown
veiled_shown t s = record s {
  flags = if t.flags then no_flags else s.flags;
  deleted = if t.deleted then false else s.deleted;
  tagged = if t.tagged then false else s.tagged;
}

-- rows differ in flags, marks of deletion and tags alone
abbrev pub AreAlike : List Row → List Row → Type 0
AreAlike rows others = map bare_row rows ≡ map bare_row others

-- the message of a row is unread and old, or unread and not old
abbrev pub is_unread : Bool → Row → Bool
is_unread old row = if old then flags.is_old row.flags else flags.is_new row.flags

-- the message at a place of the listing, if there is one, is unread and old, or not old
abbrev pub unread_at : Bool → List Row → ℕ → Bool
unread_at old rows p = option_map_or (is_unread old) (slice_get rows p) false

-- which messages of an order are unread and old, or not old
abbrev pub unread_in : Bool → List Row → List Stance → List Bool
unread_in old rows all = map (λ s. unread_at old rows s.place) all

-- the same of the message that stands so in the order, if there is one
abbrev pub unread_of : Bool → List Row → Option Stance → Bool
unread_of old rows stance = option_map_or (λ s. unread_at old rows s.place) stance false

-- what is seen, where the threads with unread messages are those that rows tell
abbrev pub told : List Row → List Stance → PlainSight → PlainSight
told rows all s = record s {
  new_threads = marked_threads s.entries (unread_in false rows all);
  old_threads = marked_threads s.entries (unread_in true rows all);
}

-- what is answered, where threads were asked anew for unread messages
abbrev pub with_unread : PlainAnswers → PlainAnswers
with_unread a = record a { sight = told a.rows a.stances a.sight }
