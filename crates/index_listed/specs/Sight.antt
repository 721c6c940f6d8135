-- How the messages stand in the order of the index, and what of it is seen.
use Rattle.std.specs.Prelude.{◌≡◌, ◌<◌, ℕ, Bool, List, length, map, option_map, slice_get}
use Rattle.std.specs.Prelude.{Option, Some, None, if◌then◌else◌, slice_index_or, unwrap_or}
use Rattle.mail_base.specs.declared.kind.Id.{Id}
use Rattle.threads.specs.Threads.{PlainThreads, parent}
use Rattle.threads.specs.declared.options.Parent.{Parent}
use Rattle.index_listed.specs.Listed.{no_id}
use Rattle.index_listed.specs.Marks.{mark_at}
use Rattle.index_listed.specs.Places.{numbers}
use Rattle.index_listed.specs.Threading.{place_among, root_place}
use Rattle.index_listed.specs.Visibility.{visible as visible_places}
use Rattle.index_listed.specs.declared.entry.Above.{Above}
use Rattle.index_listed.specs.declared.entry.Entry.{Entry}
use Rattle.index_listed.specs.declared.mark.Mark.{Mark}
use Rattle.index_listed.specs.declared.stance.Stance.{Stance}

-- where the message with an id stands among others
abbrev pub found_place : List ℕ → Id → ℕ
found_place among id = unwrap_or (place_among among id) 0

-- where a parent stands among others
abbrev pub above : List ℕ → Parent → Above
above among p = record { place = found_place among p.id; link = p.link }

-- the parent of a message in the order, where that is one of threads
abbrev pub parent_in : Bool → PlainThreads → List ℕ → Id → Option Above
parent_in threaded ts among id =
    if threaded then option_map (above among) (parent ts id) else None

-- how a message stands in the order: below which other, under which root, and its place in the
-- listing
abbrev pub stance_of : Bool → PlainThreads → List ℕ → List ℕ → Id → Stance
stance_of threaded ts listed among id = record {
  parent = parent_in threaded ts among id;
  root = root_place ts among id;
  place = found_place listed id;
}

-- how the messages stand in the order, which is one of threads or not
abbrev pub stances : Bool → PlainThreads → List ℕ → List Id → List Stance
stances threaded ts listed order =
    map (stance_of threaded ts listed (numbers order)) order

-- a message in the order with what decides whether it is seen
abbrev pub entry_of : List Mark → Stance → Entry
entry_of marks s = record {
  parent = s.parent;
  root = s.root;
  satisfies = (mark_at marks s.place).satisfies;
  is_shut = (mark_at marks s.place).is_shut;
}

-- the messages in the order, by their marks
abbrev pub entries : List Mark → List Stance → List Entry
entries marks all = map (entry_of marks) all

-- the id at a place of the order
abbrev pub id_at : List Id → ℕ → Id
id_at order p = slice_index_or order p no_id

-- the ids that are seen, in order
abbrev pub visible : List Id → List Entry → List Id
visible order all = map (id_at order) (visible_places all)

-- For the code alone.

-- each message stands behind its parent, and its root is among so many
pub record AreFirst (all : List Stance) : Type 0 where
  pub parents : (p : ℕ) (s : Stance) (a : Above) → slice_get all p ≡ Some s → s.parent ≡ Some a
      → a.place < p
  pub roots : (p : ℕ) (s : Stance) → slice_get all p ≡ Some s → s.root < length all
