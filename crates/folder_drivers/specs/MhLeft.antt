-- What a sync of an MH folder leaves of what is known, which messages a stop may take, and why it
-- is refused.
use Rattle.std.specs.Prelude.{◌≡◌, ◌≤◌, ◌==◌, ◌&&◌, ◌⊎◌, ◌∷◌, [], ℕ, Bool, true, false, not, length}
use Rattle.std.specs.Prelude.{List, Option, Some, None, is_some}
use Rattle.std.specs.Prelude.{if◌then◌else◌}
use Rattle.mail_base.specs.Ordered.{IsIn}
use Rattle.mail_base.specs.declared.kind.Id.{Id}
use Rattle.mail_base.specs.declared.kind.Kind.TheVariants.{Mh}
use Rattle.disk_model.specs.Journal.{Call, Create, Past, Remove, Rename, Sync, SyncDir, WriteAt}
use Rattle.disk_model.specs.Judge.{GoesOn}
use Rattle.disk_model.specs.State.{tree_at}
use Rattle.disk_model.specs.Tree.{TreeNode, node_at}
use Rattle.index_items.specs.Changes.{Changed, PlainChange, Alters, Discards, change_for}
use Rattle.folder_letters.specs.Letters.{Mail}
use Rattle.folder_letters.specs.declared.listing.Listed.{Listed}
use Rattle.folder_core.specs.Directory.{path_in}
use Rattle.folder_core.specs.Keeping.{mail_of}
use Rattle.folder_core.specs.Known.{KnownFolder}
use Rattle.folder_core.specs.Mh.{is_number, sequences_path}
use Rattle.folder_changes.specs.Asked.{discarded, ids_of}
use Rattle.folder_changes.specs.Left.{listing_synced}
use Rattle.folder_changes.specs.Refused.{StepRefused}
use Rattle.folder_changes.specs.Worked.{WasCause}
use Rattle.folder_changes.specs.declared.sync_error.Spot.TheVariants.{Name}
use Rattle.folder_changes.specs.declared.sync_error.SyncError.{SyncError}
use Rattle.folder_changes.specs.declared.sync_error.SyncError.TheVariants.{Changed as IsChanged}
use Rattle.folder_changes.specs.declared.sync_error.SyncError.TheVariants.{Fault, NoMemory}
use Rattle.folder_drivers.specs.MhNames.{append_path, away_path, new_sequences_path}
use Rattle.folder_drivers.specs.MhSync.{DidByNumber}
use Rattle.folder_drivers.specs.SyncRow.{SyncRow}
use Rattle.folder_shapes.specs.Mh.{mh_files}
use Rattle.folder_stops.specs.Syncs.{KeepsHolds}
use Rattle.folder_stops.specs.Words.{has}

-- What is known behind it.

-- a stamp that is first of some, if there is one
abbrev pub with_stamp : List ℕ → List ℕ → List ℕ
with_stamp [] left = left
with_stamp (stamp ∷ stamps) left = stamp ∷ left

-- the stamp of a listed message stays, but where the message is discarded
abbrev pub stamp_left : Option PlainChange → List ℕ → List ℕ → List ℕ
stamp_left None stamps left = with_stamp stamps left
stamp_left (Some (Alters added cleared)) stamps left = with_stamp stamps left
stamp_left (Some Discards) stamps left = left

-- the stamps behind the first
abbrev pub next_stamps : List ℕ → List ℕ
next_stamps [] = []
next_stamps (stamp ∷ stamps) = stamps

-- the stamps of the messages that a sync leaves listed
abbrev pub stamps_synced : List Changed → List Listed → List ℕ → List ℕ
stamps_synced changes [] stamps = []
stamps_synced changes (listed ∷ listing) stamps =
    stamp_left (change_for changes listed.id.0) stamps
    (stamps_synced changes listing (next_stamps stamps))

-- what is known of a folder behind a sync with these changes
abbrev pub mh_synced : List Changed → KnownFolder → KnownFolder
mh_synced changes known = record known {
  listing = listing_synced Mh changes known.listing;
  stamps = stamps_synced changes known.listing known.stamps;
}

-- The stamps of messages.

-- the stamp with which the file of a listed message was read
abbrev pub stamp_known : List Listed → List ℕ → ℕ → Option ℕ
stamp_known [] stamps id = None
stamp_known (listed ∷ listing) [] id = None
stamp_known (listed ∷ listing) (stamp ∷ stamps) id =
    if listed.id.0 == id then Some stamp else stamp_known listing stamps id

-- what stands there is a file with this stamp
abbrev pub bears : Option ℕ → Option TreeNode → Bool
bears None at = false
bears (Some stamp) None = false
bears (Some stamp) (Some node) = is_some node.bytes && node.stamp == stamp

-- a file with this stamp stands at a path
abbrev pub bears_at : Option ℕ → List ℕ → List TreeNode → Bool
bears_at stamp path tree = bears stamp (node_at tree path)

-- no file with this stamp stands at a path
abbrev pub bears_no : Option ℕ → List ℕ → List TreeNode → Bool
bears_no stamp path tree = not (bears_at stamp path tree)

-- At a mark between two marks the file of a listed message had the stamp with which it was read.
pub record BoreStamp (known : KnownFolder) (mails : List Mail) (id : Id) (m n : ℕ) (past : Past)
    : Type 0 where
  pub mark : ℕ
  pub from : m ≤ mark
  pub to : mark ≤ n
  pub bore : bears_at (stamp_known known.listing known.stamps id.0)
      (path_in known.path (mail_of mails id.0).key) (tree_at past mark) ≡ true

-- A number is that of a discarded message whose file was, in the call, the one that was read.
pub record NamesDiscard (known : KnownFolder) (mails : List Mail) (changes : List Changed)
    (key : List ℕ) (old new : Option Past) : Type 0 where
  pub id : Id
  pub among : IsIn id (ids_of changes)
  pub key_is : key ≡ (mail_of mails id.0).key
  pub discards : has (discarded mails changes) key ≡ true
  pub bore : GoesOn (λ p q. BoreStamp known mails id (length p.journal) (length q.journal) q)
      old new

-- A stop leaves each message but some that are discarded, whose files were those that were read,
-- and what others brought.
pub record KeepsNumbers (known : KnownFolder) (mails : List Mail) (changes : List Changed)
    (old new : Option Past) : Type 0 where
  pub keys : List (List ℕ)
  pub named : (key : List ℕ) → has keys key ≡ true → NamesDiscard known mails changes key old new
  pub keeps : KeepsHolds (mh_files known.path) keys old new

-- Why it is refused.

-- the call needs the folder, its sequences or a side file of ours
abbrev pub IsFolderCall : List ℕ → Call → Type 0
IsFolderCall path (Create at) = at ≡ new_sequences_path path
IsFolderCall path (WriteAt at place piece) = at ≡ new_sequences_path path
IsFolderCall path (Sync at) = at ≡ new_sequences_path path
IsFolderCall path (Rename from to) =
    (from ≡ new_sequences_path path) × (to ≡ sequences_path path)
IsFolderCall path (Remove at) = (at ≡ new_sequences_path path) ⊎ (at ≡ append_path path)
IsFolderCall path (SyncDir at) = at ≡ path
IsFolderCall path call = ⊥

-- the call takes the file of a number out of the folder
abbrev pub IsNumberCall : List ℕ → List ℕ → Call → Type 0
IsNumberCall path key (Rename from to) =
    (from ≡ path_in path key) × (to ≡ away_path path key)
IsNumberCall path key (Remove at) = at ≡ path_in path key
IsNumberCall path key call = ⊥

-- A path is that of one of the messages that change.
pub record IsNumberPath (known : KnownFolder) (mails : List Mail) (changes : List Changed)
    (name : List ℕ) : Type 0 where
  pub id : Id
  pub among : IsIn id (ids_of changes)
  pub at : name ≡ path_in known.path (mail_of mails id.0).key

-- No file with the stamp with which a message was read stood at a path, which is no doing of ours.
pub record WasUnlike (known : KnownFolder) (id : Id) (name : List ℕ) (m n : ℕ) (past : Past)
    : Type 0 where
  pub stamp : ℕ
  pub is_known : stamp_known known.listing known.stamps id.0 ≡ Some stamp
  pub cause : WasCause (bears_no (Some stamp) name) m n past

-- The path is that of one of the messages that change. Its key is no number; or no file with the
-- stamp with which it was read stood there; or the step that takes its file out of the folder was
-- refused.
pub record NumberRefused (known : KnownFolder) (mails : List Mail) (changes : List Changed)
    (name : List ℕ) (m n : ℕ) (past : Past) : Type 0 where
  pub of : IsNumberPath known mails changes name
  pub why : (is_number (mail_of mails of.id.0).key ≡ false)
      ⊎ WasUnlike known of.id name m n past
      ⊎ StepRefused (IsNumberCall known.path (mail_of mails of.id.0).key) m n past

-- why a sync was refused between two marks: a step was refused that needs the folder, a message was
-- not as it is known, or the step of its file was refused; the disk failed, or memory ran out. No
-- state is a cause that our own steps have made.
abbrev pub MhRefused : KnownFolder → List Mail → List Changed → SyncError → ℕ → ℕ → Past → Type 0
MhRefused known mails changes (IsChanged (Name name)) m n past =
    ((name.items ≡ known.path) × StepRefused (IsFolderCall known.path) m n past)
    ⊎ NumberRefused known mails changes name.items m n past
MhRefused known mails changes Fault m n past = Unit {0}
MhRefused known mails changes NoMemory m n past = Unit {0}
MhRefused known mails changes why m n past = ⊥

-- how a sync may be refused: what is not as it is known has the path of the folder or of a message
abbrev pub MhErrors : KnownFolder → List Mail → List Changed → SyncError → Type 0
MhErrors known mails changes (IsChanged (Name name)) =
    (name.items ≡ known.path) ⊎ IsNumberPath known mails changes name.items
MhErrors known mails changes Fault = Unit {0}
MhErrors known mails changes NoMemory = Unit {0}
MhErrors known mails changes why = ⊥

-- syncs of MH folders
abbrev pub mh_syncs : SyncRow
mh_syncs = record {
  Works = λ owner purge known mails changes result old new.
      DidByNumber purge known.path mails changes result old new;
  Keeps = KeepsNumbers;
  IsSynced = λ owner changes known new_known old new. new_known ≡ mh_synced changes known;
  MayBe = MhErrors;
  Refused = MhRefused;
  home = λ path. (mh_files path).shape.home;
  making = λ path. (mh_files path).making;
}
