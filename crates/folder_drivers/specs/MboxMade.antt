-- What making a mailbox in one file did.
use Rattle.std.specs.Prelude.{◌≡◌, ◌⊎◌, ℕ, Bool, true, false, List, [], ◌∷◌, Option, Some, None}
use Rattle.std.specs.Prelude.{Result, Ok, IfErr, OnOk, is_some}
use Rattle.std.specs.Str.{bytes_eq}
use Rattle.mail_base.specs.declared.kind.Kind.{Kind}
use Rattle.mail_base.specs.declared.kind.Kind.TheVariants.{Mbox}
use Rattle.disk_model.specs.Images.{IsImage}
use Rattle.disk_model.specs.Journal.{Action, Appends, Entry, Past, has_foreign}
use Rattle.disk_model.specs.Seen.{Seen}
use Rattle.disk_model.specs.State.{Name, State, is_file, name_at, run_entries, tree_of}
use Rattle.disk_model.specs.Tree.{TreeNode, folder_of, node_at}
use Rattle.folder_core.specs.Directory.{is_folder_at}
use Rattle.folder_core.specs.Kinds.{empty_file_kind, kind_at}
use Rattle.folder_core.specs.Mbox.{file_reads, mbox_reads}
use Rattle.folder_core.specs.Message.{Message}
use Rattle.folder_changes.specs.Refused.{IsBetween, StepRefused}
use Rattle.folder_changes.specs.Serving.{Serves}
use Rattle.folder_changes.specs.declared.sync_error.SyncError.{SyncError}
use Rattle.folder_changes.specs.declared.sync_error.SyncError.TheVariants.{Fault, NoMemory}
use Rattle.folder_changes.specs.declared.sync_error.SyncError.TheVariants.{NotFolder}
use Rattle.folder_drivers.specs.Making.{MakeErrors, MetFirst}
use Rattle.folder_stops.specs.Along.{Grown, Keeps}
use Rattle.folder_stops.specs.Does.{Does}
use Rattle.folder_stops.specs.Others.{SparesPath}
use Rattle.folder_stops.specs.Words.{Among}
use Rattle.folder_tails.specs.Others.{MayDo, met}
use Rattle.folder_tails.specs.Rows.{HasNoTail, IsSafe, IsSound, MayRow}
use Rattle.folder_tails.specs.Settled.{settled_bytes}

-- Where a mailbox may be made.

-- by what stands at the path: nothing, in a folder, or a file that is a mailbox
abbrev pub fits_mailbox : List ℕ → List TreeNode → Option TreeNode → Bool
fits_mailbox path tree None = is_folder_at tree (folder_of path)
fits_mailbox path tree (Some node) = is_some (file_reads node.bytes)

-- a mailbox may be made at the path, or is there
abbrev pub may_be_mailbox : List ℕ → List TreeNode → Bool
may_be_mailbox path tree = fits_mailbox path tree (node_at tree path)

-- What stands where one was made.

-- the messages of what stood at the path: none where nothing stood there
abbrev pub read_before : Option TreeNode → Option (List Message)
read_before None = Some []
read_before (Some node) = file_reads node.bytes

-- A mailbox stands, with the messages from before, and with none where nothing stood there; the
-- rule of kinds finds it, unless an empty file is to be of another kind.
pub record IsMailboxMade (path : List ℕ) (old new : List TreeNode) : Type 0 where
  pub mailbox : is_some (mbox_reads new path) ≡ true
  pub reads : mbox_reads new path ≡ read_before (node_at old path)
  pub kind : (empty : Kind) → empty_file_kind empty ≡ Mbox → kind_at empty new path ≡ Ok Mbox

-- where nobody else acted
abbrev pub MadeMailboxAlone : List ℕ → State → List Entry → Type 0
MadeMailboxAlone path state entries = has_foreign entries ≡ false
    → IsMailboxMade path (tree_of state) (tree_of (run_entries entries state))

-- What each stop leaves.

-- where a mailbox is there, it settles at each mark to what it may have settled to before, with
-- what others put behind it
abbrev pub KeepsMailbox : List ℕ → (List ℕ → Bool) → State → List Entry → Type 0
KeepsMailbox path ours state entries = Keeps (met path) (MayDo path) (IsSafe path ours)
    (IsSafe path ours) (IsSafe path ours) state entries

-- Nothing is at the path, nor does a stop bring something there; the test passes an empty mailbox.
pub record IsVacant (path : List ℕ) (may : List ℕ → Bool) (state : State) : Type 0 where
  pub sound : IsSound state
  pub rows : (names : List Name) → Among names (state.names ∷ state.earlier)
      → (is_file (name_at names path) ≡ false) × HasNoTail path names
  pub empty : may [] ≡ true

-- Each stop leaves no file at the path, or a mailbox that settles to bytes that pass a test.
pub record MayStand (path : List ℕ) (ours : List ℕ → Bool) (may : List ℕ → Bool) (state : State)
    : Type 0 where
  pub sound : IsSound state
  pub rows : (names : List Name) → Among names (state.names ∷ state.earlier)
      → (is_file (name_at names path) ≡ false) ⊎ MayRow path ours may state.files names
  pub images : (tree : List TreeNode) → IsImage state tree
      → (settled_bytes ours path tree ≡ None)
      ⊎ ((bytes : List ℕ) × (may bytes ≡ true) × (settled_bytes ours path tree ≡ Some bytes))

-- bytes are put at the end of a mailbox that is there
abbrev pub IsBehind : List ℕ → Action → State → Type 0
IsBehind path (Appends at piece) state =
    SparesPath path (Appends at piece) ⊎ (is_file (name_at state.names path) ≡ true)
IsBehind path action state = Unit {0}

-- what others may do while a mailbox is made
abbrev pub MayDoThere : List ℕ → Action → State → Type 0
MayDoThere path action state = MayDo path action state × IsBehind path action state

-- where nothing is there, nothing is at each mark, or an empty mailbox, with what others put
-- behind it
abbrev pub BeginsMailbox : List ℕ → (List ℕ → Bool) → State → List Entry → Type 0
BeginsMailbox path ours state entries = Keeps (met path) (MayDoThere path) (MayStand path ours)
    (IsVacant path) (MayStand path ours) state entries

-- the same, and in the end each stop leaves a mailbox
abbrev pub StandsBegun : List ℕ → (List ℕ → Bool) → State → List Entry → Type 0
StandsBegun path ours state entries = Keeps (met path) (MayDoThere path) (MayStand path ours)
    (IsVacant path) (IsSafe path ours) state entries

-- What making one is.

-- why it was refused: the first look met a place where none may be made, or a call of ours was
-- refused for a state that is no doing of ours; the disk failed, or memory ran out
abbrev pub MailboxRefused : List ℕ → SyncError → Option Past → Option Past → Type 0
MailboxRefused path NotFolder old new = IsBetween (StepRefused (λ call. Unit {0})) old new
    ⊎ Grown old new (MetFirst (may_be_mailbox path) false)
MailboxRefused path Fault old new = Unit {0}
MailboxRefused path NoMemory old new = Unit {0}
MailboxRefused path why old new = ⊥

-- A mailbox in one file was made, or not. Whatever the answer, each stop leaves a mailbox that is
-- there, and where none is, none or an empty one; and our calls changed its path alone. Where the
-- answer is Ok, the first look met a place where one may be made, and a mailbox stands, also after
-- each stop.
pub record MakesMailbox (path : List ℕ) (result : Result (Unit {0}) SyncError) (old new : Seen)
    : Type 0 where
  pub keeps : (ours : List ℕ → Bool) → Grown old.told new.told (KeepsMailbox path ours)
  pub begins : (ours : List ℕ → Bool) → Grown old.told new.told (BeginsMailbox path ours)
  pub stands : OnOk result
      ((ours : List ℕ → Bool) → Grown old.told new.told (StandsBegun path ours))
  pub here : Does (λ at. bytes_eq at path) (λ at. None) None old.told new.told
  pub made : OnOk result (Grown old.told new.told (MadeMailboxAlone path))
  pub looked : OnOk result (Grown old.told new.told (MetFirst (may_be_mailbox path) true))
  pub may_be : IfErr result MakeErrors
  pub cause : IfErr result (λ why. MailboxRefused path why old.told new.told)
  pub serves : Serves result old new
