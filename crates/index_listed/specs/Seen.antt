-- What of the index is seen: the visible messages, and the shut threads that hide others.
use Rattle.std.specs.Prelude.{◌≡◌, ℕ, Bool, true, false, List, [], if◌then◌else◌, length, map}
use Rattle.std.specs.Prelude.{slice_index_or, slice_set}
use Rattle.std.specs.List.{range_with_len}
use Rattle.std.specs.Option.{option_map_or}
use Rattle.mail_base.specs.Shown.{utf8_text}
use Rattle.mail_base.specs.declared.kind.Id.{Id}
use Rattle.index_listed.specs.Entries.{RootsWithin, at, some_below}
use Rattle.index_listed.specs.Marks.{is_unread, mark_at}
use Rattle.index_listed.specs.Places.{numbers, place_in}
use Rattle.index_listed.specs.Sight.{entries, visible}
use Rattle.index_listed.specs.Tree.{tree_text}
use Rattle.index_listed.specs.Visibility.{hides, in_thread}
use Rattle.index_listed.specs.declared.entry.Entry.{Entry}
use Rattle.index_listed.specs.declared.mark.Mark.{Mark}
use Rattle.index_listed.specs.declared.stance.Stance.{Stance}

-- which messages of an order are unread and old, or not old
abbrev pub unread : Bool → List Mark → List Stance → List Bool
unread old marks all = map (λ s. is_unread old (mark_at marks s.place)) all

-- in which threads, by where their roots stand, a message is marked
abbrev pub marked_threads : List Entry → List Bool → List Bool
marked_threads entries marks = map
    (λ root. some_below (in_thread entries (λ p. slice_index_or marks p false) root)
    (length entries)) (range_with_len 0 (length entries))

-- The messages in the order of the index: how each stands there, and which threads have a new
-- message, and an old and unread one.
pub record PlainSight : Type 0 where
  pub order : List Id
  pub entries : List Entry
  pub new_threads : List Bool
  pub old_threads : List Bool

-- what is seen of an order
abbrev pub sight : List Mark → List Id → List Stance → PlainSight
sight marks order all = record {
  order = order;
  entries = entries marks all;
  new_threads = marked_threads (entries marks all) (unread false marks all);
  old_threads = marked_threads (entries marks all) (unread true marks all);
}

-- no thread is marked
abbrev pub no_marks : List Entry → List Bool
no_marks entries = map (λ e. false) entries

-- the thread of the message at a place is marked too, where that message is
abbrev pub with_mark : List Entry → ℕ → Bool → List Bool → List Bool
with_mark entries p is_so threads =
    if is_so then slice_set threads (at entries p).root true else threads

-- no thread has a new message, or an old and unread one
abbrev pub without_unread : PlainSight → PlainSight
without_unread s = record s {
  new_threads = no_marks s.entries;
  old_threads = no_marks s.entries;
}

-- the thread of the message at a place has a new message, or an old and unread one
abbrev pub with_unread : ℕ → Bool → Bool → PlainSight → PlainSight
with_unread p is_new is_old s = record s {
  new_threads = with_mark s.entries p is_new s.new_threads;
  old_threads = with_mark s.entries p is_old s.old_threads;
}

-- the ids that are seen, in order
abbrev pub visible_ids : PlainSight → List Id
visible_ids s = visible s.order s.entries

-- a message of the thread of this one is marked
abbrev pub thread_has : List Entry → List Bool → ℕ → Bool
thread_has entries threads p = slice_index_or threads (at entries p).root false

-- the tree text of an id, where it stands in the order
abbrev pub tree_of : PlainSight → Id → List ℕ
tree_of s id = option_map_or (tree_text s.entries) (place_in s.order id) []

-- the same as text
abbrev pub tree_line : PlainSight → Id → List ℕ
tree_line s id = utf8_text (tree_of s id)

-- For the code alone.

-- in which threads, by where their roots stand, a message before a place is marked
abbrev pub marked_before : List Entry → List Bool → ℕ → List Bool
marked_before entries marks n = map
    (λ root. some_below (in_thread entries (λ p. slice_index_or marks p false) root) n)
    (range_with_len 0 (length entries))

-- what is kept of a sight
pub record IsSight (order : List Id) (entries : List Entry) (places visible_places : List ℕ)
    (visible_ones : List Id) (hiding new_threads old_threads : List Bool) : Type 0 where
  pub long : length entries ≡ length order
  pub roots : RootsWithin entries
  pub places_are : places ≡ numbers order
  pub visible_are : visible_ones ≡ visible order entries
  pub seen_are : visible_places ≡ numbers visible_ones
  pub hiding_are : hiding ≡ map (hides entries) (range_with_len 0 (length entries))
  pub new_long : length new_threads ≡ length entries
  pub old_long : length old_threads ≡ length entries
