-- Parts of the making of a folder: by which calls they go on, and why they are refused.
use Rattle.std.specs.Prelude.{◌≡◌, ◌≤◌, ◌⊎◌, ℕ, true, false, List, [], ◌∷◌, Option, Some, None}
use Rattle.std.specs.Prelude.{OnOk, Result, IfErr, IsErrOf, codes}
use Rattle.mail_base.specs.Faults.{Rose}
use Rattle.disk_model.specs.Journal.{Call, Create, Entry, ListDir, MakeDir, Past, ReadAll, SyncDir}
use Rattle.disk_model.specs.Names.{names_in}
use Rattle.disk_model.specs.Journal.{has_foreign}
use Rattle.disk_model.specs.Seen.{Seen}
use Rattle.disk_model.specs.State.{State, is_file, name_at, run_entries, tree_of}
use Rattle.disk_model.specs.Tree.{TreeNode, folder_of, node_at}
use Rattle.folder_core.specs.Directory.{file_at, is_folder_at, path_in}
use Rattle.folder_core.specs.FirstLook.{Look, first_look}
use Rattle.folder_core.specs.Maildir.{is_maildir}
use Rattle.folder_core.specs.Mh.{sequences_path}
use Rattle.folder_changes.specs.Refused.{IsBetween}
use Rattle.folder_changes.specs.Serving.{Serves}
use Rattle.folder_changes.specs.declared.sync_error.SyncError.{SyncError}
use Rattle.folder_changes.specs.declared.sync_error.SyncError.TheVariants.{Fault}
use Rattle.folder_drivers.specs.Making.{MakeErrors, MetFirst}
use Rattle.folder_drivers.specs.MboxMade.{MadeMailboxAlone, MailboxRefused, MayDoThere}
use Rattle.folder_drivers.specs.MboxMade.{may_be_mailbox}
use Rattle.folder_drivers.specs.MaildirAppend.{is_there}
use Rattle.folder_stops.specs.Along.{Allows, Grown}
use Rattle.folder_stops.specs.Does.{AllOwn}
use Rattle.folder_tails.specs.Rows.{IsSound}
use Rattle.folder_drivers.specs.Refusing.{RefusedFor}

-- Calls.

-- a call that looks into a directory or a file, makes one of these directories or files, or puts
-- names on the disk
abbrev pub IsMaking : (List ℕ → Type 0) → (List ℕ → Type 0) → Call → Type 0
IsMaking Dirs Files (ListDir dir) = Unit {0}
IsMaking Dirs Files (ReadAll path limit) = Unit {0}
IsMaking Dirs Files (MakeDir path) = Dirs path
IsMaking Dirs Files (Create path) = Files path
IsMaking Dirs Files (SyncDir dir) = Unit {0}
IsMaking Dirs Files call = ⊥

-- no path
abbrev pub Nowhere : List ℕ → Type 0
Nowhere path = ⊥

-- this path
abbrev pub IsAt : List ℕ → List ℕ → Type 0
IsAt path other = other ≡ path

-- the path of one of these names in a directory
abbrev pub IsIn : List ℕ → List (List ℕ) → List ℕ → Type 0
IsIn dir [] path = ⊥
IsIn dir (name ∷ names) path = (path ≡ path_in dir name) ⊎ IsIn dir names path

-- the directories of a Maildir, in the order in which they are made: it is one once the last is
-- there
abbrev pub maildir_names : List (List ℕ)
maildir_names = codes "tmp" ∷ codes "new" ∷ codes "cur" ∷ []

-- a call that makes one of these directories
abbrev pub NeedsIn : List ℕ → List (List ℕ) → Call → Type 0
NeedsIn dir names (MakeDir path) = IsIn dir names path
NeedsIn dir names call = ⊥

-- a call that puts the names in a directory on the disk
abbrev pub NeedsKept : Call → Type 0
NeedsKept (SyncDir dir) = Unit {0}
NeedsKept call = ⊥

-- the call that puts the names in this directory on the disk
abbrev pub IsKeep : List ℕ → Call → Type 0
IsKeep dir call = call ≡ SyncDir dir

-- the call that makes this file
abbrev pub IsCreate : List ℕ → Call → Type 0
IsCreate path call = call ≡ Create path

-- one of both
abbrev pub NeedsEither : (Call → Type 0) → (Call → Type 0) → Call → Type 0
NeedsEither Needs Others call = Needs call ⊎ Others call

-- The calls of ours are such ones.
pub record MakesBy (Dirs Files : List ℕ → Type 0) (old new : Option Past) : Type 0 where
  pub grown : Grown old new (λ state entries.
      AllOwn (λ call answer. IsMaking Dirs Files call) entries)

-- A part of the making: its calls, and why it was refused. A call that is refused is one of those
-- that are needed.
pub record IsPart (Dirs Files : List ℕ → Type 0) (Needs : Call → Type 0) {A : Type 0}
    (result : Result A SyncError) (old new : Seen) : Type 0 where
  pub calls : MakesBy Dirs Files old.told new.told
  pub marks : old.marks ≤ new.marks
  pub faults : old.faults ≤ new.faults
  pub cause : IsErrOf result Fault → Rose old.faults new.faults
  pub errors : IfErr result MakeErrors
  pub refused : IfErr result (λ why. IsBetween (RefusedFor Needs why) old.told new.told)

-- The first look.

-- these are the names in the folder at a path; none where nothing stands there, in a folder
abbrev pub AreNames : List ℕ → List (List ℕ) → List TreeNode → Type 0
AreNames path names tree = ((is_folder_at tree path ≡ true) × (names ≡ names_in tree path))
    ⊎ ((node_at tree path ≡ None) × (is_folder_at tree (folder_of path) ≡ true) × (names ≡ []))

-- a look met such a tree
abbrev pub LookedAt : (List TreeNode → Type 0) → Option Look → Type 0
LookedAt Tells None = ⊥
LookedAt Tells (Some look) = Tells look.tree

-- The first call of ours met these names.
pub record MetNames (path : List ℕ) (names : List (List ℕ)) (old new : Option Past) : Type 0 where
  pub grown : Grown old new (λ state entries.
      LookedAt (AreNames path names) (first_look state entries))

-- What stands in the end.

-- A folder stands at the path.
pub record Leaves (path : List ℕ) (old new : Option Past) : Type 0 where
  pub grown : Grown old new (λ state entries.
      is_folder_at (tree_of (run_entries entries state)) path ≡ true)

-- Something stands at the path.
pub record LeavesNode (path : List ℕ) (old new : Option Past) : Type 0 where
  pub grown : Grown old new (λ state entries.
      is_there path (tree_of (run_entries entries state)) ≡ true)

-- Where nobody else acts a Maildir stands at the path.
pub record LeavesMaildir (path : List ℕ) (old new : Option Past) : Type 0 where
  pub grown : Grown old new (λ state entries. has_foreign entries ≡ false
      → is_maildir (tree_of (run_entries entries state)) path ≡ true)

-- For the code alone.

-- A folder stood around the path from the start on, whatever others did.
pub record FoundAround (path : List ℕ) (old new : Option Past) : Type 0 where
  pub grown : Grown old new (λ state entries.
      is_folder_at (tree_of state) (folder_of path) ≡ true)

-- Where nobody else acts something stands at the path of the sequences.
pub record SequencesKept (path : List ℕ) (old new : Option Past) : Type 0 where
  pub grown : Grown old new (λ state entries. has_foreign entries ≡ false
      → is_there (sequences_path path) (tree_of (run_entries entries state)) ≡ true)

-- Where nobody else acts an empty file stands at the path.
pub record LeavesEmpty (path : List ℕ) (old new : Option Past) : Type 0 where
  pub grown : Grown old new (λ state entries. has_foreign entries ≡ false
      → file_at (tree_of (run_entries entries state)) path ≡ Some [])

-- All names are on the disk in the end.
pub record NamesKept (old new : Option Past) : Type 0 where
  pub grown : Grown old new (λ state entries. (run_entries entries state).earlier ≡ [])

-- a file stands at the path, and all names are on the disk
abbrev pub IsKeptAt : List ℕ → State → Type 0
IsKeptAt path state = (is_file (name_at state.names path) ≡ true) × (state.earlier ≡ [])

-- Where others do what they may, a file stands at the path in the end, and all names are on the
-- disk.
pub record LeavesKept (path : List ℕ) (old new : Option Past) : Type 0 where
  pub grown : Grown old new (λ state entries. IsSound state
      → Allows (MayDoThere path) entries state → IsKeptAt path (run_entries entries state))

-- the same where no file stood there
abbrev pub EndsKept : List ℕ → State → List Entry → Type 0
EndsKept path state entries = is_file (name_at state.names path) ≡ false → IsSound state
    → Allows (MayDoThere path) entries state → IsKeptAt path (run_entries entries state)

-- A mailbox in one file was made, or not: by which calls, and why not.
pub record TriesMailbox (path : List ℕ) (result : Result (Unit {0}) SyncError) (old new : Seen)
    : Type 0 where
  pub calls : MakesBy Nowhere (IsAt path) old.told new.told
  pub kept : OnOk result (Grown old.told new.told (EndsKept path))
  pub made : OnOk result (Grown old.told new.told (MadeMailboxAlone path))
  pub looked : OnOk result (Grown old.told new.told (MetFirst (may_be_mailbox path) true))
  pub may_be : IfErr result MakeErrors
  pub cause : IfErr result (λ why. MailboxRefused path why old.told new.told)
  pub serves : Serves result old new
