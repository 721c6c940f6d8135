-- What becomes of a small folder's messages, computed from the definitions.
use Rattle.std.proofs.Common.{
  ◌≡◌,
  ◌++◌,
  ◌∷◌,
  [],
  ℕ,
  ◌==◌,
  Bool,
  true,
  false,
  List,
  Option,
  Some,
  None,
}
use Rattle.std.proofs.Common.{codes, refl, if◌then◌else◌}
use Rattle.std.specs.Prelude.{is_some}
use Rattle.std.specs.Str.{chars, is_utf8}
use lib.Utf8.{encode}
use Rattle.disk_model.specs.Tree.{TreeNode, folder_node}
use Rattle.disk_model.specs.Journal.{Create, WriteAt, Sync, Rename, SyncDir, Done, Entry, Own}
use Rattle.disk_model.specs.Journal.{Others, Puts, Renames}
use Rattle.disk_model.specs.State.{State, run_entries, state_of}
use Rattle.disk_model.specs.Names.{is_before}
use Rattle.disk_model.specs.Fills.{image_of}
use Rattle.disk_model.specs.declared.fill.Fill.{Fill}
use Rattle.disk_model.specs.declared.fill.Fill.TheVariants.{Byte}
use Rattle.folder_stops.specs.Along.{carry}
use Rattle.folder_stops.specs.Appends.{NewItem, adding, but_for}
use Rattle.folder_stops.specs.Messages.{StoredMessage, loosened}
use Rattle.folder_stops.specs.Others.{with_entry}
use Rattle.folder_stops.specs.Reads.{ReadMessage, all_stay, kept}
use Rattle.folder_stops.specs.Shape.{Shape}

-- what stands in a path behind these bytes
abbrev behind : List ℕ → List ℕ → Option (List ℕ)
behind [] path = Some path
behind (b ∷ front) [] = None
behind (b ∷ front) (c ∷ path) = if b == c then behind front path else None

-- a folder whose messages are the files of `m/new`
abbrev shape : Shape
shape = record {
  counts = λ bytes. true;
  slot = λ path. behind (codes "m/new/") path;
  home = λ path. is_some (behind (codes "m/") path);
  before = is_before;
}

-- a file under a key as it is read, before others
abbrev with_file_of : Option (List ℕ) → Option (List ℕ) → List ReadMessage → List ReadMessage
with_file_of None bytes seen = seen
with_file_of (Some key) None seen = seen
with_file_of (Some key) (Some bytes) seen = record { key = key; core = bytes } ∷ seen

-- the files of `m/new`, in the order of the nodes
abbrev reads : List TreeNode → List ReadMessage
reads [] = []
reads (node ∷ tree) = with_file_of (shape.slot node.path) node.bytes (reads tree)

-- a folder with one message
abbrev start : List TreeNode
start = folder_node (codes "m") ∷ folder_node (codes "m/new") ∷ folder_node (codes "m/tmp")
    ∷ record { path = codes "m/new/a"; bytes = Some (codes "one"); stamp = 1 } ∷ []

-- its state
abbrev first : State
first = state_of start

-- its messages
abbrev all : List StoredMessage
all = all_stay (reads start)

-- a message that must stay, or may go
abbrev message : List ℕ → List ℕ → Bool → StoredMessage
message key core may_go = record { key = key; core = core; may_go = may_go }

-- What others do.

-- a message is put there
abbrev delivery : List Entry
delivery = Others (Puts (codes "m/new/b") (codes "two")) ∷ []

delivered : carry (with_entry shape []) delivery all first
    ≡ message (codes "a") (codes "one") false ∷ message (codes "b") (codes "two") false ∷ []
unfolding is_utf8 chars encode
delivered = refl

moved_away : carry (with_entry shape []) (Others (Renames (codes "m/new/a") (codes "m/tmp/a")) ∷ [])
    all first
    ≡ []
unfolding is_utf8 chars encode
moved_away = refl

-- What is named by a sync may be gone at once, and may be there still.

named_gone : kept (loosened (codes "a" ∷ []) all) [] ≡ true
named_gone = refl

named_there : kept (loosened (codes "a" ∷ []) all) (reads start) ≡ true
named_there = refl

not_named : kept (loosened (codes "b" ∷ []) all) [] ≡ false
not_named = refl

-- An append, and what a stop leaves of it.

-- a message that we put there
abbrev item : NewItem
item = record {
  key = codes "0";
  core = codes "new";
  beside = codes "m/tmp/0";
  place = codes "m/new/0";
  made = codes "m/tmp/0";
}

-- the file is made and written beside its place
abbrev writing : List Entry
writing = Own (Create item.beside) Done ∷ Own (WriteAt item.beside 0 item.core) Done ∷ []

-- it gets its name
abbrev naming : List Entry
naming = Own (Rename item.beside item.place) Done ∷ []

-- with the sync
abbrev careful : List Entry
careful = writing ++ (Own (Sync item.beside) Done ∷ naming)

-- without the sync
abbrev careless : List Entry
careless = writing ++ naming

-- the messages with it
abbrev with_it : List StoredMessage
with_it = message (codes "0") (codes "new") false ∷ message (codes "a") (codes "one") false ∷ []

added_once_made : carry (adding shape item) writing all first ≡ with_it
added_once_made = refl

stays_added : carry (adding shape item) careful all first ≡ with_it
stays_added = refl

-- the image behind these entries in which so many name operations stand, as it is read
abbrev left : List Entry → ℕ → Fill → List ReadMessage
left entries count fill = reads (image_of (run_entries entries first) count fill)

-- Without the sync a stop may leave any bytes under the new name.
careless_may_be_torn : kept (but_for item with_it) (left careless 2 (Byte 46)) ≡ false
careless_may_be_torn = refl

-- With it the message is there whole, or not at all,
careful_is_there : kept (but_for item with_it) (left careful 2 (Byte 46)) ≡ true
careful_is_there = refl

careful_is_gone : kept (but_for item with_it) (left careful 1 (Byte 46)) ≡ true
careful_is_gone = refl

-- and it may be gone,
not_yet_kept : kept with_it (left careful 1 (Byte 46)) ≡ false
not_yet_kept = refl

-- until the names are kept.
names_kept : kept with_it (left (careful ++ (Own (SyncDir (codes "m/new")) Done ∷ [])) 0 (Byte 46))
    ≡ true
names_kept = refl
