-- What a call keeps of a folder that only renames and removes, and writes side files.
use Rattle.std.specs.Prelude.{ℕ, List, Option}
use Rattle.disk_model.specs.Journal.{Action, Entry, Past}
use Rattle.disk_model.specs.State.{State}
use Rattle.folder_stops.specs.Along.{Along, Allows, Grown, Keeps}
use Rattle.folder_stops.specs.Folder.{FileFolder}
use Rattle.folder_stops.specs.Messages.{StoredMessage, IsLoose, loosened}
use Rattle.folder_stops.specs.Others.{MayDoTo, with_entry}
use Rattle.folder_stops.specs.Reads.{Stands}
use Rattle.folder_stops.specs.Rows.{Holds}
use Rattle.folder_stops.specs.Shape.{Shape}

-- the messages are those of the folder, and each stop leaves them, but for some that may go
abbrev pub StandsIn : FileFolder → List StoredMessage → State → Type 0
StandsIn folder all state = Stands folder.shape folder.reads all state

-- where the folder holds the messages and others do what they may, each mark leaves them with what
-- others bring, and those with these keys may go from the first mark on
abbrev pub KeepsMessages : FileFolder → List (List ℕ) → State → List Entry → Type 0
KeepsMessages folder keys state entries = (all : List StoredMessage) → Holds folder.shape all state
    → Allows (MayDoTo folder.shape folder.sides) entries state
    → Along (with_entry folder.shape keys) (StandsIn folder) entries (loosened keys all) state

-- A call keeps the messages at each mark, and may take those with these keys away.
pub record KeepsHolds (folder : FileFolder) (keys : List (List ℕ)) (old new : Option Past)
    : Type 0 where
  pub grown : Grown old new (KeepsMessages folder keys)

-- From Pre on to Post, and P at each mark, where others do what is allowed.
pub record Leads (next : Entry → State → List StoredMessage → List StoredMessage)
    (IsAllowed : Action → State → Type 0) (P : List StoredMessage → State → Type 0)
    (old new : Option Past) (Pre Post : List StoredMessage → State → Type 0) : Type 0 where
  pub grown : Grown old new (Keeps next IsAllowed P Pre Post)

-- The stage of a sync: the folder holds the messages, and those with these keys may go.
pub record Syncing (shape : Shape) (keys : List (List ℕ)) (all : List StoredMessage)
    (state : State) : Type 0 where
  pub holds : Holds shape all state
  pub loose : IsLoose keys all

-- from one stage of a sync on to another, where others leave these side files alone
abbrev pub SyncLeads : Shape → List (List ℕ) → List (List ℕ) → Option Past → Option Past
    → (List StoredMessage → State → Type 0) → (List StoredMessage → State → Type 0) → Type 0
SyncLeads shape sides keys old new Pre Post =
    Leads (with_entry shape keys) (MayDoTo shape sides) (Holds shape) old new Pre Post

-- the stage of a sync leads to itself
abbrev pub Syncs : Shape → List (List ℕ) → List (List ℕ) → Option Past → Option Past → Type 0
Syncs shape sides keys old new =
    SyncLeads shape sides keys old new (Syncing shape keys) (Syncing shape keys)
