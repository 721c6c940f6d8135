-- What making a folder did, whatever its kind.
use Rattle.std.specs.Prelude.{◌≡◌, ◌⊎◌, ◌&&◌, ◌||◌, ℕ, Bool, true, false, List, [], Option, Some}
use Rattle.std.specs.Prelude.{None}
use Rattle.std.specs.Prelude.{Result, Ok, IfErr, OnOk, codes, is_none}
use Rattle.std.specs.List.{list_all, list_any}
use Rattle.std.specs.Str.{bytes_eq}
use Rattle.mail_base.specs.declared.kind.Kind.{Kind}
use Rattle.mail_base.specs.declared.kind.Kind.TheVariants.{Maildir, Mbox, Mh, Mmdf}
use Rattle.disk_model.specs.Journal.{Entry, Past, has_foreign}
use Rattle.disk_model.specs.Names.{names_in}
use Rattle.disk_model.specs.Seen.{Seen}
use Rattle.disk_model.specs.State.{State, run_entries, tree_of}
use Rattle.disk_model.specs.Tree.{TreeNode, folder_of, node_at}
use Rattle.folder_core.specs.Directory.{is_folder_at}
use Rattle.folder_core.specs.Kinds.{kind_at}
use Rattle.folder_core.specs.Maildir.{directory, maildir_messages, maildir_reads}
use Rattle.folder_core.specs.Message.{Message}
use Rattle.folder_core.specs.Mh.{mh_messages, mh_reads}
use Rattle.folder_changes.specs.Refused.{IsBetween, StepRefused}
use Rattle.folder_changes.specs.Serving.{Serves}
use Rattle.folder_changes.specs.declared.sync_error.SyncError.{SyncError}
use Rattle.folder_changes.specs.declared.sync_error.SyncError.TheVariants.{Fault, NoMemory}
use Rattle.folder_changes.specs.declared.sync_error.SyncError.TheVariants.{NotFolder}
use Rattle.folder_drivers.specs.Appended.{IsUnwritten}
use Rattle.folder_drivers.specs.Making.{MakeErrors, MetFirst}
use Rattle.folder_drivers.specs.MboxMade.{MakesMailbox}
use Rattle.folder_shapes.specs.Maildir.{maildir_files}
use Rattle.folder_shapes.specs.Mh.{mh_files}
use Rattle.folder_stops.specs.Along.{Grown}
use Rattle.folder_stops.specs.Does.{Does}
use Rattle.folder_stops.specs.Folder.{FileFolder}
use Rattle.folder_stops.specs.Syncs.{KeepsHolds}

-- Where a folder may be made.

-- by what stands at the path: nothing, in a folder, or a folder whose names are those of one that
-- is there or was begun
abbrev pub fits_at : (List (List ℕ) → Bool) → List ℕ → List TreeNode → Option TreeNode → Bool
fits_at is_begun path tree None = is_folder_at tree (folder_of path)
fits_at is_begun path tree (Some node) = is_none node.bytes && is_begun (names_in tree path)

-- a folder may be made at the path
abbrev pub may_be_made : (List (List ℕ) → Bool) → List ℕ → List TreeNode → Bool
may_be_made is_begun path tree = fits_at is_begun path tree (node_at tree path)

-- What making a folder is.

-- what making a kind of folders is
pub record MakeRow : Type 1 where
  -- how the folder is read, and what a stop may leave of it
  pub files : List ℕ → FileFolder
  -- the messages of a directory, whether it is a whole folder or not
  pub messages : List TreeNode → List ℕ → List Message
  -- those of a folder of the kind
  pub reads : List TreeNode → List ℕ → Option (List Message)
  -- whether a directory with these names is such a folder, or was begun as one
  pub is_begun : List (List ℕ) → Bool
  -- what the rule of kinds says of the path
  pub IsOfKind : List TreeNode → List ℕ → Type 0

-- A folder of the kind stands where one was made: it has the messages that its files were before,
-- and none where nothing stood there; the rule of kinds finds it to be of the kind.
pub record IsMade (row : MakeRow) (path : List ℕ) (old new : List TreeNode) : Type 0 where
  pub reads : row.reads new path ≡ Some (row.messages old path)
  pub none : node_at old path ≡ None → row.messages old path ≡ []
  pub kind : row.IsOfKind new path

-- where nobody else acted
abbrev pub MadeAlone : MakeRow → List ℕ → State → List Entry → Type 0
MadeAlone row path state entries = has_foreign entries ≡ false
    → IsMade row path (tree_of state) (tree_of (run_entries entries state))

-- the folder's own path, and what is in it
abbrev pub is_its : FileFolder → List ℕ → List ℕ → Bool
is_its folder path other = bytes_eq other path || folder.shape.home other

-- why it was refused: the first look met a place where none may be made, or a call of ours was
-- refused for a state that is no doing of ours; the disk failed, or memory ran out
abbrev pub MakeRefused : MakeRow → List ℕ → SyncError → Option Past → Option Past → Type 0
MakeRefused row path NotFolder old new = IsBetween (StepRefused (λ call. Unit {0})) old new
    ⊎ Grown old new (MetFirst (may_be_made row.is_begun path) false)
MakeRefused row path Fault old new = Unit {0}
MakeRefused row path NoMemory old new = Unit {0}
MakeRefused row path why old new = ⊥

-- A folder of a kind was made, or not. Whatever the answer, each stop leaves the messages of each
-- folder, and our calls changed this one alone. Where the answer is Ok, the first look met a place
-- where one may be made, and a folder of the kind stands.
pub record MakesAs (row : MakeRow) (path : List ℕ) (result : Result (Unit {0}) SyncError)
    (old new : Seen) : Type 0 where
  pub keeps : KeepsHolds (row.files path) [] old.told new.told
  pub here : Does (is_its (row.files path) path) (row.files path).making None old.told new.told
  pub made : OnOk result (Grown old.told new.told (MadeAlone row path))
  pub looked : OnOk result
      (Grown old.told new.told (MetFirst (may_be_made row.is_begun path) true))
  pub may_be : IfErr result MakeErrors
  pub cause : IfErr result (λ why. MakeRefused row path why old.told new.told)
  pub serves : Serves result old new

-- Maildirs (maildir(5)).

-- a directory that making a Maildir begins with
abbrev pub begins_maildir : List ℕ → Bool
begins_maildir name = bytes_eq name (codes "tmp") || bytes_eq name (codes "new")

-- it begins with each of these
abbrev pub all_begin : List (List ℕ) → Bool
all_begin names = list_all begins_maildir names

-- `cur` is among these
abbrev pub has_cur : List (List ℕ) → Bool
has_cur names = list_any (λ name. bytes_eq name (codes "cur")) names

-- `cur` is among the names, or making a Maildir begins with each of them
abbrev pub is_maildir_begun : List (List ℕ) → Bool
is_maildir_begun names = has_cur names || all_begin names

-- the rule of kinds finds a Maildir
abbrev pub IsMaildirKind : List TreeNode → List ℕ → Type 0
IsMaildirKind tree path = (empty : Kind) → kind_at empty tree path ≡ Ok Maildir

-- making a Maildir
abbrev pub maildir_makes : MakeRow
maildir_makes = record {
  files = maildir_files;
  messages = maildir_messages;
  reads = maildir_reads;
  is_begun = is_maildir_begun;
  IsOfKind = IsMaildirKind;
}

-- MH folders (mh-mail(5)): each directory is one.

-- the rule of kinds finds an MH folder, unless a directory `cur` makes it a Maildir
abbrev pub IsMhKind : List TreeNode → List ℕ → Type 0
IsMhKind tree path = (empty : Kind) → is_folder_at tree (directory true path) ≡ false
    → kind_at empty tree path ≡ Ok Mh

-- making an MH folder
abbrev pub mh_makes : MakeRow
mh_makes = record {
  files = mh_files;
  messages = mh_messages;
  reads = mh_reads;
  is_begun = λ names. true;
  IsOfKind = IsMhKind;
}

-- By kind.

-- a folder of a kind was made, or not; those of MMDF are not written yet
abbrev pub Makes : Kind → List ℕ → Result (Unit {0}) SyncError → Seen → Seen → Type 0
Makes Mbox path result old new = MakesMailbox path result old new
Makes Maildir path result old new = MakesAs maildir_makes path result old new
Makes Mh path result old new = MakesAs mh_makes path result old new
Makes Mmdf path result old new = IsUnwritten result old new
