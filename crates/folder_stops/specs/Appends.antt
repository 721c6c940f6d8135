-- What a call keeps of a folder that may put a message into it, and what it adds.
use Rattle.std.specs.Prelude.{Bool, List, None, Option, Some, [], false, if◌then◌else◌, true, ℕ}
use Rattle.std.specs.Prelude.{◌∷◌, ◌≡◌, ◌≢◌, ◌⊎◌}
use Rattle.std.specs.Str.{bytes_eq}
use Rattle.disk_model.specs.Journal.{Action, Answer, Appends, Call, Create, Cut, Done, Entry}
use Rattle.disk_model.specs.Journal.{ListDir, MakeDir, Others, Own, Past, Puts, ReadAll, ReadFront}
use Rattle.disk_model.specs.Journal.{Refused, Remove, Removes, Rename, Renames, StatPath, Sync}
use Rattle.disk_model.specs.Journal.{SyncDir, WriteAt, Writes}
use Rattle.disk_model.specs.State.{Name, State, run_entries}
use Rattle.folder_stops.specs.Along.{Allows, Along, Grown, carry}
use Rattle.folder_stops.specs.Does.{AllOwn, IsOurs}
use Rattle.folder_stops.specs.Folder.{FileFolder, IsSide}
use Rattle.folder_stops.specs.Messages.{StoredMessage, loosened, with_message}
use Rattle.folder_stops.specs.Others.{MayDoTo, with_action, with_entry}
use Rattle.folder_stops.specs.Rows.{Holds, IsBlank, IsOfKey, IsUnused}
use Rattle.folder_stops.specs.Shape.{Shape}
use Rattle.folder_stops.specs.Syncs.{Leads, StandsIn, SyncLeads}
use Rattle.folder_stops.specs.Words.{Among}

-- A message of ours that is put into a folder: its key and its bytes, the path where it is written
-- first, the one that it gets, and that of these two which is made first. From then on it is one of
-- the messages.
pub record NewItem : Type 0 where
  pub key : List ℕ
  pub core : List ℕ
  pub beside : List ℕ
  pub place : List ℕ
  pub made : List ℕ

-- the item as a message that must stay
abbrev pub message : NewItem → StoredMessage
message item = record { key = item.key; core = item.core; may_go = false }

-- the messages with the item
abbrev pub with_item : Shape → NewItem → List StoredMessage → List StoredMessage
with_item shape item all = with_message shape.before (message item) all

-- those with the item's key may go
abbrev pub but_for : NewItem → List StoredMessage → List StoredMessage
but_for item all = loosened (item.key ∷ []) all

-- What an item must be: it is written at a side name, and is a message.
pub record IsFit (shape : Shape) (item : NewItem) : Type 0 where
  pub side : IsSide shape item.beside
  pub counts : shape.counts item.core ≡ true

-- What others leave alone.

-- the action leaves the file beside and the item's place alone, and brings no file under its key
abbrev pub Spares : Shape → NewItem → Action → Type 0
Spares shape item (Appends path piece) = path ≢ item.beside
Spares shape item (Puts path bytes) =
    (path ≢ item.beside) × (shape.slot path ≢ Some item.key)
Spares shape item (Renames from to) = (from ≢ item.beside) × (to ≢ item.beside)
    × (shape.slot from ≡ None → shape.slot to ≢ Some item.key) × (from ≢ item.place)
Spares shape item (Removes path) = path ≢ item.beside
Spares shape item (Writes path bytes) = path ≢ item.beside

-- at most a file that is no message has the item's key, at the item's place
abbrev pub IsVacant : Shape → NewItem → State → Type 0
IsVacant shape item state = (x : Name) (n : ℕ) → Among x state.names
    → IsOfKey shape x item.key n → (x.path ≡ item.place) × IsBlank shape state.files n

-- others do what they may, leave the side files alone, and spare the item until it stands
abbrev pub MayDoBeside : Shape → List (List ℕ) → NewItem → Action → State → Type 0
MayDoBeside shape sides item action state =
    MayDoTo shape sides action state × (IsVacant shape item state → Spares shape item action)

-- The messages along an append.

-- the messages behind a call of ours: the item is one of them once its first file is made
abbrev pub with_own : Shape → NewItem → Answer → Call → List StoredMessage → List StoredMessage
with_own shape item (Refused why wrote) call all = all
with_own shape item Done (Create path) all =
    if bytes_eq path item.made then with_item shape item all else all
with_own shape item Done (ListDir dir) all = all
with_own shape item Done (StatPath path) all = all
with_own shape item Done (ReadFront path size) all = all
with_own shape item Done (ReadAll path limit) all = all
with_own shape item Done (WriteAt path at piece) all = all
with_own shape item Done (Cut path size) all = all
with_own shape item Done (Sync path) all = all
with_own shape item Done (Rename from to) all = all
with_own shape item Done (Remove path) all = all
with_own shape item Done (SyncDir dir) all = all
with_own shape item Done (MakeDir path) all = all

-- the messages behind an entry of a call that adds the item
abbrev pub adding : Shape → NewItem → Entry → State → List StoredMessage → List StoredMessage
adding shape item (Own call answer) state all = with_own shape item answer call all
adding shape item (Others action) state all = with_action shape [] action state all

-- Which item it is.

-- The item has these bytes; its key is that of the file that is made first and of its place, and it
-- is written where the folder says.
pub record IsItemOf (folder : FileFolder) (core : List ℕ) (item : NewItem) : Type 0 where
  pub core_is : item.core ≡ core
  pub making_is : folder.making item.made ≡ Some item.key
  pub place_is : folder.shape.slot item.place ≡ Some item.key
  pub beside_is : item.beside ≡ folder.beside item.made

-- where the making of its first file does not tell it, no file has the item's key
abbrev pub IsFree : Bool → Shape → List ℕ → State → Type 0
IsFree true shape key state = Unit {0}
IsFree false shape key state = IsUnused shape key state.names

-- What an append says of the messages.

-- no item began: the folder keeps its messages at each mark, with what others bring
abbrev pub KeepsAll : FileFolder → State → List Entry → Type 0
KeepsAll folder state entries = (all : List StoredMessage) → Holds folder.shape all state
    → Allows (MayDoTo folder.shape folder.sides) entries state
    → Along (with_entry folder.shape []) (StandsIn folder) entries all state

-- an item began: the folder keeps its messages at each mark, and from its first file on the item,
-- which may be gone
abbrev pub KeepsItem : FileFolder → NewItem → State → List Entry → Type 0
KeepsItem folder item state entries = (all : List StoredMessage) → Holds folder.shape all state
    → IsFree folder.tells_free folder.shape item.key state
    → Allows (MayDoBeside folder.shape folder.sides item) entries state
    → Along (adding folder.shape item) (λ all state. StandsIn folder (but_for item all) state)
    entries all state

-- in the end the item stands
abbrev pub EndsWith : FileFolder → NewItem → State → List Entry → Type 0
EndsWith folder item state entries = (all : List StoredMessage) → Holds folder.shape all state
    → IsFree folder.tells_free folder.shape item.key state
    → Allows (MayDoBeside folder.shape folder.sides item) entries state
    → StandsIn folder (carry (adding folder.shape item) entries all state)
    (run_entries entries state)

-- our calls changed the folder alone, and no item began but this one
abbrev pub DoesHere : FileFolder → Option (List ℕ) → List Entry → Type 0
DoesHere folder made entries = AllOwn (IsOurs folder.shape.home folder.making made) entries

-- No item began.
pub record IsNone (folder : FileFolder) (state : State) (entries : List Entry) : Type 0 where
  pub does : DoesHere folder None entries
  pub keeps : KeepsAll folder state entries

-- An item of these bytes began.
pub record IsMade (folder : FileFolder) (core : List ℕ) (state : State) (entries : List Entry)
    (item : NewItem) : Type 0 where
  pub is_item : IsItemOf folder core item
  pub among : Among (Own (Create item.made) Done) entries
  pub does : DoesHere folder (Some item.made) entries
  pub keeps : KeepsItem folder item state entries

-- An item of these bytes was added.
pub record WasAdded (folder : FileFolder) (core : List ℕ) (state : State) (entries : List Entry)
    : Type 0 where
  pub item : NewItem
  pub made : IsMade folder core state entries item
  pub ends : EndsWith folder item state entries

-- an item of these bytes was added or not
abbrev pub MayBeAdded : FileFolder → List ℕ → State → List Entry → Type 0
MayBeAdded folder core state entries =
    IsNone folder state entries ⊎ ((item : NewItem) × IsMade folder core state entries item)

-- A call keeps the messages at each mark. Where it began an item of these bytes, which others
-- spared and whose key was free, that is one of them from then on, and may be gone.
pub record AddsSome (folder : FileFolder) (core : List ℕ) (old new : Option Past) : Type 0 where
  pub grown : Grown old new (MayBeAdded folder core)

-- The same of a call that added an item, which stands in the end.
pub record AddedSome (folder : FileFolder) (core : List ℕ) (old new : Option Past) : Type 0 where
  pub grown : Grown old new (WasAdded folder core)

-- From stage to stage.

-- the folder holds the messages, but for those with the item's key
abbrev pub HoldsBeside : Shape → NewItem → List StoredMessage → State → Type 0
HoldsBeside shape item all state = Holds shape (but_for item all) state

-- from one stage of an append on to another, where others leave these side files alone
abbrev pub AddLeads : Shape → List (List ℕ) → NewItem → Option Past → Option Past
    → (List StoredMessage → State → Type 0) → (List StoredMessage → State → Type 0) → Type 0
AddLeads shape sides item old new Pre Post =
    Leads (adding shape item) (MayDoBeside shape sides item) (HoldsBeside shape item) old new Pre
    Post

-- The stage before the item's first file is made: its key is free, or its making will tell.
pub record Opening (shape : Shape) (tells : Bool) (item : NewItem) (all : List StoredMessage)
    (state : State) : Type 0 where
  pub holds : Holds shape all state
  pub free : IsFree tells shape item.key state

-- the journal grew by entries among which a file was made at this path
pub record MakesIn (path : List ℕ) (old new : Option Past) : Type 0 where
  pub grown : Grown old new (λ state entries. Among (Own (Create path) Done) entries)

-- the folder keeps its messages, and no item began
abbrev pub Quiet : Shape → List (List ℕ) → Option Past → Option Past → Type 0
Quiet shape sides old new =
    SyncLeads shape sides [] old new (Holds shape) (Holds shape)
