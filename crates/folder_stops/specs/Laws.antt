-- Laws of folders with one file a message, whatever a stop leaves of them.
use Rattle.std.specs.Prelude.{◌≡◌, ◌≢◌, ◌⊎◌, ℕ, true, false, List, [], ◌∷◌, ◌++◌, map, Option, Some}
use Rattle.std.specs.Prelude.{None}
use Rattle.disk_model.specs.Tree.{TreeNode, is_first_tree}
use Rattle.disk_model.specs.Journal.{Call, ListDir, StatPath, ReadFront, ReadAll, Create, WriteAt}
use Rattle.disk_model.specs.Journal.{Cut, Sync, Rename, Remove, SyncDir, MakeDir, Done, Action}
use Rattle.disk_model.specs.Journal.{Entry, Own, Others}
use Rattle.disk_model.specs.State.{State, run_entries, state_of}
use Rattle.disk_model.specs.Images.{IsImage}
use Rattle.disk_model.specs.Lawful.{AreLawful}
use Rattle.disk_model.specs.Looking.{all_look}
use Rattle.folder_stops.specs.Words.{has}
use Rattle.folder_stops.specs.Along.{Along, Allows, carry}
use Rattle.folder_stops.specs.Appends.{IsFit, MayDoBeside, NewItem, adding, but_for}
use Rattle.folder_stops.specs.Does.{AllOwn, AreElsewhere}
use Rattle.folder_stops.specs.Folder.{FileFolder, IsFolder}
use Rattle.folder_stops.specs.Messages.{StoredMessage, loosened}
use Rattle.folder_stops.specs.Others.{MayDo, with_entry}
use Rattle.folder_stops.specs.Reads.{IsOnce, ReadMessage, all_stay, kept}
use Rattle.folder_stops.specs.Rows.{Holds, IsUnused}
use Rattle.folder_stops.specs.Shape.{Shape}
use Rattle.folder_stops.specs.Syncs.{StandsIn}

-- What is kept.

-- a message as it is read
abbrev pub as_read : StoredMessage → ReadMessage
as_read m = record { key = m.key; core = m.core }

-- the messages without some of those that may go
abbrev pub IsRest : List StoredMessage → List StoredMessage → Type 0
IsRest [] rest = rest ≡ []
IsRest (m ∷ all) rest = ((less : List StoredMessage) × (rest ≡ m ∷ less) × IsRest all less)
    ⊎ ((m.may_go ≡ true) × IsRest all rest)

-- what is kept is read as all messages but for some that may go
abbrev pub KeptIsRest : Type 0
KeptIsRest = (all : List StoredMessage) (seen : List ReadMessage) → kept all seen ≡ true
    → (rest : List StoredMessage) × IsRest all rest × (seen ≡ map as_read rest)

-- and what is read so is kept
abbrev pub RestIsKept : Type 0
RestIsKept = (all rest : List StoredMessage) → IsRest all rest
    → kept all (map as_read rest) ≡ true

-- At the first mark, and elsewhere.

-- where a disk begins with a tree in which no two files have one key, each stop leaves all messages
-- that the tree is read as
abbrev pub FirstStands : Type 0
FirstStands = (folder : FileFolder) (tree : List TreeNode) → IsFolder folder
    → is_first_tree tree ≡ true → IsOnce folder.shape tree
    → StandsIn folder (all_stay (folder.reads tree)) (state_of tree)

-- calls that change nothing in the folder keep its messages at each mark, with what others bring
abbrev pub ElsewhereKeeps : Type 0
ElsewhereKeeps = (folder : FileFolder) (entries : List Entry) (all : List StoredMessage)
    (state : State) → IsFolder folder → Holds folder.shape all state
    → AreElsewhere folder.shape entries → Allows (MayDo folder.shape) entries state
    → Along (with_entry folder.shape []) (StandsIn folder) entries all state

-- and so do calls that change nothing at all
abbrev pub LooksKeep : Type 0
LooksKeep = (folder : FileFolder) (entries : List Entry) (all : List StoredMessage)
    (state : State) → IsFolder folder → Holds folder.shape all state
    → all_look entries ≡ true → Allows (MayDo folder.shape) entries state
    → Along (with_entry folder.shape []) (StandsIn folder) entries all state

-- A sync.

-- a file keeps its key, or loses it where that is one of these; what is not under a key stays so
abbrev pub IsSyncMove : List (List ℕ) → Option (List ℕ) → Option (List ℕ) → Type 0
IsSyncMove keys None to = to ≡ None
IsSyncMove keys (Some key) to = (to ≡ Some key) ⊎ ((to ≡ None) × (has keys key ≡ true))

-- a file may be removed that is under one of these keys, or under none
abbrev pub IsSyncRemoval : List (List ℕ) → Option (List ℕ) → Type 0
IsSyncRemoval keys None = Unit {0}
IsSyncRemoval keys (Some key) = has keys key ≡ true

-- a call that looks, keeps names, moves files within the folder, or removes them
abbrev pub IsSyncCall : Shape → List (List ℕ) → Call → Type 0
IsSyncCall shape keys (ListDir dir) = Unit {0}
IsSyncCall shape keys (StatPath path) = Unit {0}
IsSyncCall shape keys (ReadFront path size) = Unit {0}
IsSyncCall shape keys (ReadAll path limit) = Unit {0}
IsSyncCall shape keys (Create path) = shape.slot path ≡ None
IsSyncCall shape keys (WriteAt path at piece) = shape.home path ≡ false
IsSyncCall shape keys (Cut path size) = shape.home path ≡ false
IsSyncCall shape keys (Sync path) = shape.home path ≡ false
IsSyncCall shape keys (Rename from to) =
    (shape.home from ≡ shape.home to) × IsSyncMove keys (shape.slot from) (shape.slot to)
IsSyncCall shape keys (Remove path) = IsSyncRemoval keys (shape.slot path)
IsSyncCall shape keys (SyncDir dir) = Unit {0}
IsSyncCall shape keys (MakeDir path) = shape.slot path ≡ None

-- such calls, answered or refused, keep the messages at each mark with what others bring, and those
-- with these keys may go
abbrev pub SyncKeeps : Type 0
SyncKeeps = (folder : FileFolder) (keys : List (List ℕ)) (entries : List Entry)
    (all : List StoredMessage) (state : State) → IsFolder folder → Holds folder.shape all state
    → AllOwn (λ call answer. IsSyncCall folder.shape keys call) entries
    → Allows (MayDo folder.shape) entries state
    → Along (with_entry folder.shape keys) (StandsIn folder) entries (loosened keys all) state

-- An append.

-- others act, and then a call of ours is answered Ok
abbrev pub then_done : List Action → Call → List Entry
then_done actions call = map Others actions ++ Own call Done ∷ []

-- What others do before each of the five calls.
pub record Company : Type 0 where
  pub making : List Action
  pub writing : List Action
  pub syncing : List Action
  pub naming : List Action
  pub keeping : List Action

-- the item's file is made, written and synced beside its place, moved there, and the names are kept
abbrev pub append_entries : NewItem → List ℕ → Company → List Entry
append_entries item dir others =
    then_done others.making (Create item.beside)
    ++ (then_done others.writing (WriteAt item.beside 0 item.core)
    ++ (then_done others.syncing (Sync item.beside)
    ++ (then_done others.naming (Rename item.beside item.place)
    ++ then_done others.keeping (SyncDir dir))))

-- The item begins where it is written, under a key that no file has.
pub record Begins (shape : Shape) (item : NewItem) (state : State) : Type 0 where
  pub fit : IsFit shape item
  pub made_is : item.made ≡ item.beside
  pub place_is : shape.slot item.place ≡ Some item.key
  pub unused : IsUnused shape item.key state.names

-- each mark of such an append leaves the messages, and the item, which may be gone until the names
-- are kept, and then stands
abbrev pub AppendStands : Type 0
AppendStands = (folder : FileFolder) (item : NewItem) (dir : List ℕ) (others : Company)
    (all : List StoredMessage) (state : State) → IsFolder folder → Holds folder.shape all state
    → Begins folder.shape item state
    → Allows (MayDoBeside folder.shape [] item) (append_entries item dir others) state
    → Along (adding folder.shape item) (λ all state. StandsIn folder (but_for item all) state)
    (append_entries item dir others) all state
    × StandsIn folder (carry (adding folder.shape item) (append_entries item dir others) all state)
    (run_entries (append_entries item dir others) state)

-- The same, where an empty file holds the place before.

-- an empty file is made at the item's place, the item's file is made, written and synced beside it
-- and moved over it, and the names are kept
abbrev pub numbered_entries : NewItem → List ℕ → List Action → Company → List Entry
numbered_entries item dir holding others =
    then_done holding (Create item.place) ++ append_entries item dir others

-- The item begins at its place, the only one of its key, where an empty file is no message.
pub record BeginsHeld (shape : Shape) (item : NewItem) : Type 0 where
  pub fit : IsFit shape item
  pub made_is : item.made ≡ item.place
  pub apart : item.beside ≢ item.place
  pub place_is : shape.slot item.place ≡ Some item.key
  pub only : (path : List ℕ) → shape.slot path ≡ Some item.key → path ≡ item.place
  pub blank : shape.counts [] ≡ false

-- each mark of such an append leaves the messages, and the item, which may be gone until the names
-- are kept, and then stands; that its key was free is told by the making of the empty file
abbrev pub NumberedStands : Type 0
NumberedStands = (folder : FileFolder) (item : NewItem) (dir : List ℕ) (holding : List Action)
    (others : Company) (all : List StoredMessage) (state : State) → IsFolder folder
    → Holds folder.shape all state → BeginsHeld folder.shape item
    → AreLawful (numbered_entries item dir holding others) state
    → Allows (MayDoBeside folder.shape [] item) (numbered_entries item dir holding others) state
    → Along (adding folder.shape item) (λ all state. StandsIn folder (but_for item all) state)
    (numbered_entries item dir holding others) all state
    × StandsIn folder
    (carry (adding folder.shape item) (numbered_entries item dir holding others) all state)
    (run_entries (numbered_entries item dir holding others) state)

-- Holds is enough: each image of a state that holds the messages is read as these, but for some
-- that may go
abbrev pub HoldsStands : Type 0
HoldsStands = (folder : FileFolder) (all : List StoredMessage) (state : State)
    (tree : List TreeNode) → IsFolder folder → Holds folder.shape all state → IsImage state tree
    → kept all (folder.reads tree) ≡ true
