-- By which calls a part of a sync goes on, and why it is refused.
use Rattle.std.specs.Prelude.{◌≡◌, ◌⊎◌, ℕ, true, false, is_some, List, Option}
use Rattle.mail_base.specs.Ordered.{IsIn}
use Rattle.mail_base.specs.declared.kind.Id.{Id}
use Rattle.disk_model.specs.Journal.{Call, Create, Past, Remove, Rename, Sync, WriteAt}
use Rattle.index_items.specs.Changes.{Changed}
use Rattle.folder_letters.specs.Letters.{Mail}
use Rattle.folder_core.specs.Directory.{path_in}
use Rattle.folder_core.specs.Keeping.{mail_of}
use Rattle.folder_core.specs.Known.{KnownFolder}
use Rattle.folder_core.specs.Mh.{is_number, sequences_path}
use Rattle.folder_changes.specs.Asked.{ids_of}
use Rattle.folder_changes.specs.Refused.{OnChanged, StepRefused}
use Rattle.folder_changes.specs.Serving.{IsErrorAt}
use Rattle.folder_changes.specs.declared.sync_error.SyncError.{SyncError}
use Rattle.folder_drivers.specs.MhLeft.{IsNumberCall, bears_no, stamp_known}
use Rattle.folder_drivers.specs.MhNames.{append_path, away_path, new_sequences_path}
use Rattle.mh_syncs.specs.Met.{Met}

-- Calls.

-- the call takes this file away
abbrev pub IsRemove : List ℕ → Call → Type 0
IsRemove at call = call ≡ Remove at

-- the call takes a side file away
abbrev pub IsClearing : List ℕ → Call → Type 0
IsClearing path call = IsRemove (new_sequences_path path) call ⊎ IsRemove (append_path path) call

-- the call writes new sequences or puts them in place
abbrev pub IsPutting : List ℕ → Call → Type 0
IsPutting path (Create at) = at ≡ new_sequences_path path
IsPutting path (WriteAt at place piece) = at ≡ new_sequences_path path
IsPutting path (Sync at) = at ≡ new_sequences_path path
IsPutting path (Rename from to) = (from ≡ new_sequences_path path) × (to ≡ sequences_path path)
IsPutting path call = ⊥

-- the call takes the file of a number out of the folder
abbrev pub IsTaking : List ℕ → List ℕ → Call → Type 0
IsTaking path key call = (is_number key ≡ true)
    × ((call ≡ Remove (path_in path key)) ⊎ (call ≡ Rename (path_in path key) (away_path path key)))

-- the call takes the file of some number out of the folder
pub record IsTakingOne (path : List ℕ) (call : Call) : Type 0 where
  pub key : List ℕ
  pub is : IsTaking path key call

-- Causes.

-- a call was refused
abbrev pub CallCause : (Call → Type 0) → SyncError → ℕ → ℕ → Past → Type 0
CallCause Needs why m n past = OnChanged why (StepRefused Needs m n past)

-- the key of a message is no number, or the call was refused that takes its file
abbrev pub KeyCause : List ℕ → List ℕ → SyncError → ℕ → ℕ → Past → Type 0
KeyCause path key why m n past =
    OnChanged why ((is_number key ≡ false) ⊎ StepRefused (IsNumberCall path key) m n past)

-- so it is of one of the messages that change, which names the path of its file
pub record IsTakeRefused (path : List ℕ) (mails : List Mail) (changes : List Changed)
    (why : SyncError) (m n : ℕ) (past : Past) : Type 0 where
  pub id : Id
  pub among : IsIn id (ids_of changes)
  pub at : IsErrorAt (path_in path (mail_of mails id.0).key) why
  pub cause : (is_number (mail_of mails id.0).key ≡ false)
      ⊎ StepRefused (IsNumberCall path (mail_of mails id.0).key) m n past

-- why the files of discarded messages were not all taken
abbrev pub TakeCause : List ℕ → List Mail → List Changed → SyncError → ℕ → ℕ → Past → Type 0
TakeCause path mails changes why m n past =
    OnChanged why (IsTakeRefused path mails changes why m n past)

-- What looks have found.

-- no file with this stamp stood at a path in the call
abbrev pub BearsNot : Option ℕ → List ℕ → Option Past → Option Past → Type 0
BearsNot stamp at old new = Met (λ tree. bears_no stamp at tree ≡ true) old new

-- a key is no number, or no file with this stamp stood at its path
abbrev pub KeyUnlike : List ℕ → List ℕ → Option ℕ → Option Past → Option Past → Type 0
KeyUnlike path key stamp old new =
    (is_number key ≡ false) ⊎ BearsNot stamp (path_in path key) old new

-- so it is of one of the messages that change, which names the path of its file
pub record IsUnlike (known : KnownFolder) (mails : List Mail) (changes : List Changed)
    (why : SyncError) (old new : Option Past) : Type 0 where
  pub id : Id
  pub among : IsIn id (ids_of changes)
  pub at : IsErrorAt (path_in known.path (mail_of mails id.0).key) why
  pub cause : KeyUnlike known.path (mail_of mails id.0).key
      (stamp_known known.listing known.stamps id.0) old new

-- the stamp of each message that changes is known
abbrev pub AreStamped : KnownFolder → List Changed → Type 0
AreStamped known changes = (id : Id) → IsIn id (ids_of changes)
    → is_some (stamp_known known.listing known.stamps id.0) ≡ true
