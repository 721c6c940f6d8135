-- What the parts of a sync promise, for the code alone.
use Rattle.std.specs.Prelude.{◌≡◌, ◌<◌, ◌≤◌, ◌⊎◌, ◌++◌, Bool, false, true, List, ℕ, Option, Result}
use Rattle.std.specs.Prelude.{IfErr, IfOk, OnOk, length, take}
use Rattle.disk_model.specs.Journal.{Past}
use Rattle.disk_model.specs.Judge.{Grows}
use Rattle.disk_model.specs.Seen.{Seen}
use Rattle.folder_core.specs.Known.{KnownFolder}
use Rattle.folder_core.specs.Limits.{most_bytes, most_messages}
use Rattle.folder_core.specs.Mbox.{begins_mailbox, raw_messages}
use Rattle.folder_changes.specs.declared.item.Item.{Item}
use Rattle.folder_changes.specs.declared.sync_error.SyncError.{SyncError}
use Rattle.folder_changes.specs.declared.sync_error.Spot.TheVariants.{Name}
use Rattle.folder_changes.specs.declared.sync_error.SyncError.TheVariants.{Changed as IsChanged}
use Rattle.folder_changes.specs.declared.sync_error.SyncError.TheVariants.{Fault, NoMemory}
use Rattle.folder_changes.specs.declared.sync_error.SyncError.TheVariants.{NotFolder}
use Rattle.folder_changes.specs.declared.sync_error.SyncError.TheVariants.{TooLarge}
use Rattle.folder_drivers.specs.MboxAppend.{NotAddedFor, addition_of}
use Rattle.folder_drivers.specs.MboxFeeds.{feeds_before}
use Rattle.folder_drivers.specs.MboxRegion.{appended, item_region}
use Rattle.folder_tails.specs.Recovery.{Entered, SafeLeads}
use Rattle.folder_tails.specs.Rows.{IsSafe}
use Rattle.folder_tails.specs.Stages.{Ended, Job, Leads}
use Rattle.index_items.specs.Changes.{Changed}
use Rattle.mbox_writes.specs.Plan.{IsPlan}
use Rattle.folder_drivers.specs.MboxLocked.{Locked, MayPut, MeetsLong, Passes, ReadsWhole}
use Rattle.mbox_writes.specs.Refusals.{IsGone}
use Rattle.folder_drivers.specs.MboxSync.{UnchangedFor, Unread, WasRead}
use Rattle.folder_drivers.specs.MboxSync.{changed_file, job_of, start_of}
use Rattle.mbox_writes.specs.declared.plan.Plan.{Plan}

-- neither marks nor faults fall, and a told past only grows
pub record GoesOn (old new : Seen) : Type 0 where
  pub grows : Grows old.told new.told
  pub marks : old.marks ≤ new.marks
  pub faults : old.faults ≤ new.faults

-- the end behind a front
abbrev pub job_for : (List ℕ → Bool) → List ℕ → List ℕ → Job
job_for ours front end = record { ours = ours; front = front; end = end }

-- why a new end was not put
abbrev pub NotPutFor : List ℕ → SyncError → Type 0
NotPutFor path Fault = Unit {0}
NotPutFor path why = IsGone path why

-- A mailbox that began with a front got a new end behind it, or not.
pub record Puts (path owner front end : List ℕ) (held : Bool) (result : Result (Unit {0}) SyncError)
    (old new : Option Past) : Type 0 where
  pub keeps : (ours : List ℕ → Bool) → Passes owner ours → (bytes : List ℕ)
      → take (length front) bytes ≡ front
      → SafeLeads path ours old new (MayPut path ours bytes (front ++ end)) (IsSafe path ours)
  pub puts : OnOk result ((ours : List ℕ → Bool) → Passes owner ours → (bytes : List ℕ)
      → take (length front) bytes ≡ front
      → Leads path (length front) (IsSafe path ours) old new
      (MayPut path ours bytes (front ++ end)) (Ended path (job_for ours front end)))
  pub why : IfErr result (NotPutFor path)
  pub given : OnOk result (held ≡ false)

-- A mailbox of these bytes was changed, or not.
pub record Rewrote (known : KnownFolder) (owner : List ℕ) (changes : List Changed) (bytes : List ℕ)
    (held : Bool) (result : Result Plan SyncError) (old new : Option Past) : Type 0 where
  pub keeps : (ours : List ℕ → Bool) → Passes owner ours → SafeLeads known.path ours old new
      (MayPut known.path ours bytes (changed_file known changes bytes)) (IsSafe known.path ours)
  pub puts : OnOk result ((ours : List ℕ → Bool) → Passes owner ours
      → Leads known.path (start_of known changes bytes) (IsSafe known.path ours) old new
      (MayPut known.path ours bytes (changed_file known changes bytes))
      (Ended known.path (job_of ours known changes bytes)))
  pub plan : IfOk result (IsPlan known changes bytes)
  pub why : IfErr result (UnchangedFor known.path known changes bytes)
  pub given : OnOk result (held ≡ false)

-- why the file was not read whole under the lock
abbrev pub ReadFor : List ℕ → SyncError → Option Past → Option Past → Type 0
ReadFor path (IsChanged (Name name)) old new = name.items ≡ path
ReadFor path (TooLarge size) old new = MeetsLong path size old new
ReadFor path Fault old new = Unit {0}
ReadFor path NoMemory old new = Unit {0}
ReadFor path why old new = ⊥

-- The file was not read under the lock.
pub record Unreadable (path owner : List ℕ) {A : Type 0} (result : Result A SyncError)
    (old new : Option Past) : Type 0 where
  pub not_done : OnOk result ⊥
  pub keeps : (ours : List ℕ → Bool) → Passes owner ours
      → SafeLeads path ours old new (Locked path ours) (IsSafe path ours)
  pub why : IfErr result (λ why. ReadFor path why old new)

-- The file was read under the lock, and changed or not.
pub record Readable (known : KnownFolder) (owner : List ℕ) (changes : List Changed) (held : Bool)
    (result : Result Plan SyncError) (old new : Option Past) : Type 0 where
  pub bytes : List ℕ
  pub behind : Option Past
  pub reads : ReadsWhole known.path bytes old behind
  pub went : Rewrote known owner changes bytes held result behind new

-- under a lock a mailbox was changed, or not
abbrev pub LockedChanges : List ℕ → KnownFolder → List Changed → Bool → Result Plan SyncError
    → Option Past → Option Past → Type 0
LockedChanges owner known changes held result old new =
    Unreadable known.path owner result old new
    ⊎ Readable known owner changes held result old new

-- The file was read, and this is what was written.
pub record WasPlanned (owner : List ℕ) (known : KnownFolder) (changes : List Changed)
    (held new_held : Bool) (result : Result Plan SyncError) (old new : Option Past) : Type 0 where
  pub read : WasRead known.path owner held known changes result old new
  pub plan : IfOk result (IsPlan known changes read.bytes)
  pub given : OnOk result (new_held ≡ false)

-- a mailbox was changed, or not
abbrev pub Changes : List ℕ → KnownFolder → List Changed → Bool → Bool → Result Plan SyncError
    → Option Past → Option Past → Type 0
Changes owner known changes held new_held result old new =
    Unread known.path owner held result old new
    ⊎ WasPlanned owner known changes held new_held result old new

-- A message is added.

-- The end of a mailbox of these bytes to which a message is added.
pub record IsAddition (item : Item) (bytes end : List ℕ) : Type 0 where
  pub mailbox : begins_mailbox bytes ≡ true
  pub few : length (raw_messages bytes) < most_messages
  pub written : end ≡ feeds_before bytes ++ item_region item
  pub small : length (appended bytes item) ≤ most_bytes

-- why there is none
abbrev pub NoAdditionFor : Item → List ℕ → SyncError → Type 0
NoAdditionFor item bytes Fault = ⊥
NoAdditionFor item bytes why = NotAddedFor item bytes why

-- why nothing was added, where what is gone is told as a change
abbrev pub NotAddedHere : Item → List ℕ → SyncError → Type 0
NotAddedHere item bytes (IsChanged spot) = Unit {0}
NotAddedHere item bytes why = NotAddedFor item bytes why

-- A message was added to a mailbox of these bytes, or not.
pub record Added (path owner : List ℕ) (item : Item) (bytes : List ℕ)
    (result : Result (Unit {0}) SyncError) (old new : Option Past) : Type 0 where
  pub keeps : (ours : List ℕ → Bool) → Passes owner ours → SafeLeads path ours old new
      (MayPut path ours bytes (appended bytes item)) (IsSafe path ours)
  pub puts : OnOk result ((ours : List ℕ → Bool) → Passes owner ours
      → Leads path (length bytes) (IsSafe path ours) old new
      (MayPut path ours bytes (appended bytes item)) (Ended path (addition_of ours item bytes)))
  pub mailbox : OnOk result (begins_mailbox bytes ≡ true)
  pub few : OnOk result (length (raw_messages bytes) < most_messages)
  pub small : OnOk result (length (appended bytes item) ≤ most_bytes)
  pub why : IfErr result (NotAddedHere item bytes)

-- The file was read under the lock, and the message was added or not.
pub record AddedRead (path owner : List ℕ) (item : Item) (result : Result (Unit {0}) SyncError)
    (old new : Option Past) : Type 0 where
  pub bytes : List ℕ
  pub behind : Option Past
  pub reads : ReadsWhole path bytes old behind
  pub went : Added path owner item bytes result behind new

-- under a lock a message was added, or not
abbrev pub LockedAdds : List ℕ → List ℕ → Item → Result (Unit {0}) SyncError → Option Past
    → Option Past → Type 0
LockedAdds path owner item result old new = Unreadable path owner result old new
    ⊎ AddedRead path owner item result old new

-- The lock was taken, and under it the file was read.
pub record AddedLocked (path owner : List ℕ) (item : Item) (result : Result (Unit {0}) SyncError)
    (old new : Option Past) : Type 0 where
  pub before : Option Past
  pub locks : (ours : List ℕ → Bool) → Passes owner ours
      → SafeLeads path ours old before (Entered path ours false) (Locked path ours)
  pub read : AddedRead path owner item result before new

-- a message was added, or not
abbrev pub Adds : List ℕ → List ℕ → Item → Result (Unit {0}) SyncError → Option Past → Option Past
    → Type 0
Adds path owner item result old new = Unread path owner false result old new
    ⊎ AddedLocked path owner item result old new

-- what is not as it should be is no folder
abbrev pub as_folder : SyncError → SyncError
as_folder (IsChanged spot) = NotFolder
as_folder why = why
