-- What adding a message to an MH folder is (mh-mail(5)).
use Rattle.std.specs.Prelude.{◌≡◌, ◌≢◌, ◌≤◌, ◌<◌, ◌+◌, ◌==◌, ◌⊎◌, ◌++◌, ◌∷◌, [], ℕ, Bool, true}
use Rattle.std.specs.Prelude.{false}
use Rattle.std.specs.Prelude.{max}
use Rattle.std.specs.Prelude.{List, Ok, Option, drop, option_map, take}
use Rattle.std.specs.Fmt.{decimal}
use Rattle.std.specs.List.{list_any}
use Rattle.mail_base.specs.Flags.{stored}
use Rattle.mail_base.specs.declared.flags.Flags.{Flags}
use Rattle.mail_base.specs.declared.kind.Kind.TheVariants.{Mh}
use Rattle.disk_model.specs.Journal.{Answer, Call, Create, Done, Entry, ListDir, Others, Own, Past}
use Rattle.disk_model.specs.Journal.{ReadAll, Refused, Remove, Rename, Sync, SyncDir, WriteAt}
use Rattle.disk_model.specs.Judge.{list_of}
use Rattle.disk_model.specs.State.{State, after_done, after_entry, run_entries, tree_at, tree_of}
use Rattle.disk_model.specs.declared.answers.DiskError.{DiskError}
use Rattle.disk_model.specs.declared.answers.DiskError.TheVariants.{Exists, Missing}
use Rattle.disk_model.specs.Tree.{TreeNode}
use Rattle.folder_core.specs.Directory.{is_folder_at, path_in}
use Rattle.folder_core.specs.Message.{Message}
use Rattle.folder_core.specs.Mh.{mh_reads, number_at, sequences_at, sequences_path}
use Rattle.folder_core.specs.MhSequences.{mh_flags}
use Rattle.folder_changes.specs.Refused.{StepRefused}
use Rattle.folder_changes.specs.Worked.{WasCause, nothing_wanted, others_at}
use Rattle.folder_changes.specs.declared.item.Item.{Item}
use Rattle.folder_changes.specs.declared.sync_error.Spot.TheVariants.{Name}
use Rattle.folder_changes.specs.declared.sync_error.SyncError.{SyncError}
use Rattle.folder_changes.specs.declared.sync_error.SyncError.TheVariants.{Changed, Fault}
use Rattle.folder_changes.specs.declared.sync_error.SyncError.TheVariants.{NoMemory, NotFolder}
use Rattle.folder_drivers.specs.AppendRow.{AppendRow, GainsOne, lacks}
use Rattle.folder_drivers.specs.FirstLooking.{LooksFirst}
use Rattle.folder_drivers.specs.MaildirAppend.{is_there}
use Rattle.folder_drivers.specs.MetNames.{SawNames}
use Rattle.folder_drivers.specs.MhNames.{IsSidePath, append_path, new_sequences_path}
use Rattle.folder_drivers.specs.MhSync.{reflagged, with_flags}
use Rattle.folder_drivers.specs.Refusing.{AppendErrors}
use Rattle.folder_shapes.specs.Mh.{mh_files}
use Rattle.folder_stops.specs.Along.{Allows, Grown}
use Rattle.folder_stops.specs.Others.{SparesAll}
use Rattle.mh_sequences.specs.Sequences.{file_of, sequences_of}

-- the bytes of a message of this text: an empty text is one line feed, since an empty file is none
abbrev pub mh_core : List ℕ → List ℕ
mh_core [] = 10 ∷ []
mh_core (b ∷ text) = b ∷ text

-- The number.

-- the highest number that one of the names has, or 0
abbrev pub highest_number : List (List ℕ) → ℕ
highest_number [] = 0
highest_number (name ∷ names) = max (number_at name) (highest_number names)

-- one of the names has the number
abbrev pub has_number : List (List ℕ) → ℕ → Bool
has_number names number = list_any (λ name. number_at name == number) names

-- The least number of a message that none of the names has.
pub record IsLeastFree (names : List (List ℕ)) (number : ℕ) : Type 0 where
  pub low : 1 ≤ number
  pub high : number ≤ 4294967295
  pub free : has_number names number ≡ false
  pub least : (other : ℕ) → 1 ≤ other → other < number → has_number names other ≡ true

-- the number above the highest of the names, or where that is past the last the least free one
abbrev pub IsNextNumber : List (List ℕ) → ℕ → Type 0
IsNextNumber names number =
    ((highest_number names < 4294967295) × (number ≡ highest_number names + 1))
    ⊎ ((4294967295 ≤ highest_number names) × IsLeastFree names number)

-- the path of a number
abbrev pub number_path : List ℕ → ℕ → List ℕ
number_path path number = path_in path (decimal number)

-- The calls.

-- the file of the sequences in which a new number has these flags, in place of an older one
abbrev pub sequences_with : ℕ → Flags → List ℕ → List ℕ
sequences_with number flags sequences =
    file_of (with_flags number (stored Mh flags) (sequences_of sequences))

-- among the entries these calls of ours were done, in this order
abbrev pub AreDone : List Call → List Entry → Type 0
AreDone [] entries = Unit {0}
AreDone (call ∷ calls) [] = ⊥
AreDone (call ∷ calls) (entry ∷ entries) =
    ((entry ≡ Own call Done) × AreDone calls entries) ⊎ AreDone (call ∷ calls) entries

-- a file of these bytes is made and put on the disk
abbrev pub calls_writing : List ℕ → List ℕ → List Call
calls_writing at bytes = Create at ∷ WriteAt at 0 bytes ∷ Sync at ∷ []

-- an empty file holds the number, and the message is written beside
abbrev pub calls_beside : List ℕ → ℕ → List ℕ → List Call
calls_beside path number core =
    Create (number_path path number) ∷ calls_writing (append_path path) core

-- new sequences are put in place of the older ones
abbrev pub put_call : List ℕ → Call
put_call path = Rename (new_sequences_path path) (sequences_path path)

-- the message is put in its place
abbrev pub place_call : List ℕ → ℕ → Call
place_call path number = Rename (append_path path) (number_path path number)

-- What they do.

-- others leave the two files alone in which we write
abbrev pub SparesSides : List ℕ → List Entry → State → Type 0
SparesSides path entries state = Allows (λ action state.
    SparesAll (new_sequences_path path ∷ append_path path ∷ []) action) entries state

-- each call of ours leaves the messages as they were
abbrev pub LeavesMessages : List ℕ → State → List Entry → Type 0
LeavesMessages path state [] = Unit {0}
LeavesMessages path state (Own call answer ∷ entries) =
    (mh_reads (tree_of (after_entry state (Own call answer))) path
    ≡ mh_reads (tree_of state) path)
    × LeavesMessages path (after_entry state (Own call answer)) entries
LeavesMessages path state (Others action ∷ entries) =
    LeavesMessages path (after_entry state (Others action)) entries

-- a message of these bytes under a number, with the flags that the sequences of a tree give it
abbrev pub numbered : List ℕ → ℕ → List ℕ → List TreeNode → Message
numbered path number core tree = record {
  order = number;
  key = decimal number;
  flags = mh_flags (sequences_at tree path) number;
  raw = core;
}

-- The message was written beside; then the sequences were read, and new ones in which the number
-- has the flags were written beside.
pub record WritesBoth (path : List ℕ) (number : ℕ) (core : List ℕ) (flags : Flags) (state : State)
    (entries : List Entry) : Type 0 where
  pub before : List Entry
  pub limit : ℕ
  pub answer : Answer
  pub behind : List Entry
  pub is : entries ≡ before ++ Own (ReadAll (sequences_path path) limit) answer ∷ behind
  pub beside : AreDone (calls_beside path number core) before
  pub sequences : List ℕ
  pub read : sequences ≡ sequences_at (tree_of (run_entries before state)) path
  pub written : AreDone (calls_writing (new_sequences_path path)
      (sequences_with number flags sequences)) behind

-- At one step of ours the new sequences were put in place, by which nothing but flags changes, and
-- at a later one the message; each other call of ours left the messages as they were. Where others
-- left our two files alone, the sequences are those that were written then, and one message more
-- stands in the folder, with its bytes.
pub record PutsNumber (path : List ℕ) (number : ℕ) (core : List ℕ) (flags : Flags) (state : State)
    (entries : List Entry) : Type 0 where
  pub lead : List Entry
  pub waiting : List Entry
  pub behind : List Entry
  pub is : entries ≡ lead ++ (Own (put_call path) Done
      ∷ (waiting ++ (Own (place_call path number) Done ∷ behind)))
  pub writes : WritesBoth path number core flags state lead
  pub kept : AreDone (SyncDir path ∷ []) behind
  pub put : State
  pub put_is : put ≡ after_done (put_call path) (run_entries lead state)
  pub placed : State
  pub placed_is : placed ≡ after_done (place_call path number) (run_entries waiting put)
  pub leads : LeavesMessages path state lead
  pub waits : LeavesMessages path put waiting
  pub ends : LeavesMessages path placed behind
  pub flags_only : mh_reads (tree_of put) path
      ≡ option_map (reflagged (sequences_at (tree_of put) path) nothing_wanted)
      (mh_reads (tree_of (run_entries lead state)) path)
  pub sequences_are : SparesSides path entries state → sequences_at (tree_of put) path
      ≡ sequences_with number flags writes.sequences
  pub gains : SparesSides path entries state
      → lacks (decimal number) (mh_reads (tree_of (run_entries waiting put)) path)
      → GainsOne Mh (numbered path number core (tree_of placed))
      (mh_reads (tree_of (run_entries waiting put)) path) (mh_reads (tree_of placed) path)

-- A message was put under a number, the next one by the names that the look has met.
pub record WasNumbered (path : List ℕ) (item : Item) (old new : Option Past) : Type 0 where
  pub names : List (List ℕ)
  pub saw : SawNames path names old new
  pub number : ℕ
  pub next : IsNextNumber names number
  pub steps : Grown old new (PutsNumber path number (mh_core item.text.items) item.flags)

-- Why it was refused.

-- the path of a number
abbrev pub IsNumberPath : List ℕ → List ℕ → Type 0
IsNumberPath path at = (number : ℕ) × (at ≡ number_path path number)

-- A call that a step of an append needs: it lists the folder, takes away what was left over, holds
-- a number, reads the sequences, writes one of the two files, puts it in its place or keeps the
-- names.
abbrev pub IsAppendCall : List ℕ → Call → Type 0
IsAppendCall path (ListDir dir) = dir ≡ path
IsAppendCall path (Remove at) = IsSidePath path at
IsAppendCall path (Create at) = IsSidePath path at ⊎ IsNumberPath path at
IsAppendCall path (WriteAt at from piece) = IsSidePath path at
IsAppendCall path (Sync at) = IsSidePath path at
IsAppendCall path (ReadAll at limit) = at ≡ sequences_path path
IsAppendCall path (Rename from to) =
    ((from ≡ new_sequences_path path) × (to ≡ sequences_path path))
    ⊎ ((from ≡ append_path path) × IsNumberPath path to)
IsAppendCall path (SyncDir dir) = dir ≡ path
IsAppendCall path call = ⊥

-- others acted just before, at a mark from the first one on
abbrev pub OthersMade : ℕ → ℕ → Past → Type 0
OthersMade m since past = (before : ℕ) × (m ≤ before) × (since ≡ before + 1)
    × (others_at before past ≡ true)

-- A call makes, writes or moves a file, or keeps the names: it needs the folder, which the look has
-- met, and what our own calls made or took away. New sequences need besides that no folder stands
-- where they are put.
abbrev pub IsLater : List ℕ → Call → List TreeNode → Type 0
IsLater path (Create at) tree = Unit {0}
IsLater path (WriteAt at from piece) tree = Unit {0}
IsLater path (Sync at) tree = Unit {0}
IsLater path (Rename from to) tree = to ≡ sequences_path path → is_folder_at tree to ≡ false
IsLater path (SyncDir dir) tree = Unit {0}
IsLater path call tree = ⊥

-- a step is refused by it: not where a file that may be left over is missing, or the sequences are
abbrev pub StopsStep : Call → DiskError → Type 0
StopsStep (Remove at) why = why ≢ Missing
StopsStep (ReadAll at limit) why = why ≢ Missing
StopsStep call why = Unit {0}

-- A call that a step needs was refused for a state that is no doing of ours. Of a later call others
-- made the state since our call began.
pub record MissesStep (path : List ℕ) (m n : ℕ) (past : Past) : Type 0 where
  pub step : StepRefused (IsAppendCall path) m n past
  pub stops : StopsStep step.call step.why
  pub later : IsLater path step.call (tree_at past step.refused.mark)
      → OthersMade m step.refused.since past

-- Others put a file under the next number by the names that our call met as it listed the folder:
-- nothing stood there then, something did when our call was to make it, and that was no doing of
-- ours.
pub record WasPut (path name : List ℕ) (m n : ℕ) (past : Past) : Type 0 where
  pub names : List (List ℕ)
  pub number : ℕ
  pub next : IsNextNumber names number
  pub named : name ≡ number_path path number
  pub listed : ℕ
  pub from : m ≤ listed
  pub answer : Answer
  pub call : take 1 (drop listed past.journal) ≡ Own (ListDir path) answer ∷ []
  pub met : Ok names ≡ list_of (tree_at past listed) path
  pub free : is_there name (tree_at past listed) ≡ false
  pub put : WasCause (is_there name) listed n past
  pub refused : take 1 (drop put.mark past.journal) ≡ Own (Create name) (Refused Exists 0) ∷ []

-- why the adding of a message was refused between two marks: others put a file under the number
-- that was chosen; a call that a step needs was refused for a state that is no doing of ours; the
-- disk failed, or memory ran out
abbrev pub MhAppendRefused : List ℕ → SyncError → ℕ → ℕ → Past → Type 0
MhAppendRefused path (Changed (Name name)) m n past = WasPut path name.items m n past
MhAppendRefused path NotFolder m n past = MissesStep path m n past
MhAppendRefused path Fault m n past = Unit {0}
MhAppendRefused path NoMemory m n past = Unit {0}
MhAppendRefused path why m n past = ⊥

-- adding a message to an MH folder
abbrev pub mh_additions : AppendRow
mh_additions = record {
  files = mh_files;
  core = mh_core;
  Works = λ path mails item old new. WasNumbered path item old new;
  MayBe = AppendErrors;
  Refused = MhAppendRefused;
  Looked = λ path result old new. LooksFirst path result old new;
}
