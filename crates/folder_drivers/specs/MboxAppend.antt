-- What adding a message to a mailbox in one file is.
use Rattle.std.specs.Prelude.{◌≡◌, ◌⊎◌, ◌<◌, ◌≤◌, ◌+◌, Bool, false, true, List, ℕ, Option, None}
use Rattle.std.specs.Prelude.{◌++◌, Result, IfErr, OnOk, length, max}
use Rattle.disk_model.specs.Journal.{Past}
use Rattle.disk_model.specs.Looking.{LooksOnly}
use Rattle.disk_model.specs.Seen.{Seen}
use Rattle.folder_core.specs.Limits.{most_bytes, most_messages}
use Rattle.folder_core.specs.Mbox.{begins_mailbox, raw_messages}
use Rattle.folder_changes.specs.Serving.{Serves}
use Rattle.folder_changes.specs.declared.item.Item.{Item}
use Rattle.folder_changes.specs.declared.sync_error.SyncError.{SyncError}
use Rattle.folder_changes.specs.declared.sync_error.SyncError.TheVariants.{Changed as IsChanged}
use Rattle.folder_changes.specs.declared.sync_error.SyncError.TheVariants.{Fault}
use Rattle.folder_changes.specs.declared.sync_error.SyncError.TheVariants.{Locked as IsLocked}
use Rattle.folder_changes.specs.declared.sync_error.SyncError.TheVariants.{NoMemory, NotFolder}
use Rattle.folder_changes.specs.declared.sync_error.SyncError.TheVariants.{TooLarge, TooMany}
use Rattle.folder_changes.specs.declared.sync_error.SyncError.TheVariants.{Unfinished}
use Rattle.folder_drivers.specs.MboxFeeds.{feeds_before}
use Rattle.folder_drivers.specs.MboxLocked.{Holds, Locked, MayPut, MeetsLong, Passes, ReadsWhole}
use Rattle.folder_drivers.specs.MboxRegion.{appended, item_region}
use Rattle.folder_drivers.specs.MboxSync.{is_home}
use Rattle.folder_stops.specs.Does.{Does}
use Rattle.folder_tails.specs.Recovery.{Entered, SafeLeads}
use Rattle.folder_tails.specs.Rows.{IsSafe}
use Rattle.folder_tails.specs.Stages.{Ended, Job, Leads}
use Rattle.folder_tails.specs.Traces.{LockAlone, MeetsTail}

-- the end that is written
abbrev pub addition_of : (List ℕ → Bool) → Item → List ℕ → Job
addition_of ours item bytes = record {
  ours = ours;
  front = bytes;
  end = feeds_before bytes ++ item_region item;
}

-- how many messages a file has or would have, where these are more than are listed
abbrev pub IsOneTooMany : List ℕ → ℕ → Type 0
IsOneTooMany bytes count = (count ≡ max (length (raw_messages bytes)) (most_messages + 1))
    × (most_messages ≤ length (raw_messages bytes))

-- why the file was not read whole
abbrev pub NotReadFor : List ℕ → SyncError → Option Past → Option Past → Type 0
NotReadFor path IsLocked old new = LooksOnly old new
NotReadFor path Unfinished old new = MeetsTail path old new × LockAlone path old new
NotReadFor path (TooLarge size) old new = MeetsLong path size old new
NotReadFor path NotFolder old new = Unit {0}
NotReadFor path Fault old new = Unit {0}
NotReadFor path NoMemory old new = Unit {0}
NotReadFor path why old new = ⊥

-- The file was not read whole: each stop leaves a mailbox that settles to what it may have settled
-- to before.
pub record AddsNothing (path owner : List ℕ) {A : Type 0} (result : Result A SyncError)
    (old new : Option Past) : Type 0 where
  pub not_done : OnOk result ⊥
  pub keeps : (ours : List ℕ → Bool) → Passes owner ours
      → SafeLeads path ours old new (Entered path ours false) (IsSafe path ours)
  pub why : IfErr result (λ why. NotReadFor path why old new)

-- why nothing was added to a file of these bytes
abbrev pub NotAddedFor : Item → List ℕ → SyncError → Type 0
NotAddedFor item bytes (TooMany count) = (begins_mailbox bytes ≡ true) × IsOneTooMany bytes count
NotAddedFor item bytes (TooLarge size) =
    (size ≡ length (appended bytes item)) × (most_bytes < size)
NotAddedFor item bytes NotFolder = Unit {0}
NotAddedFor item bytes Fault = Unit {0}
NotAddedFor item bytes NoMemory = Unit {0}
NotAddedFor item bytes why = ⊥

-- The file held these bytes as it was read under the lock. Each stop leaves a mailbox that settles
-- to what it may have settled to before, and from then on to that or to the file with the message;
-- answered Ok, it is the file with the message, with what others put behind it, and neither a lock
-- nor a tail file is there, and no write or cut of the mailbox started before its old end.
pub record AddsBehind (path owner : List ℕ) (item : Item) {A : Type 0}
    (result : Result A SyncError) (old new : Option Past) : Type 0 where
  pub bytes : List ℕ
  pub before : Option Past
  pub behind : Option Past
  pub locks : (ours : List ℕ → Bool) → Passes owner ours
      → SafeLeads path ours old before (Entered path ours false) (Locked path ours)
  pub reads : ReadsWhole path bytes before behind
  pub held_so : (ours : List ℕ → Bool)
      → SafeLeads path ours before behind (Locked path ours) (Holds path ours bytes)
  pub keeps : (ours : List ℕ → Bool) → Passes owner ours → SafeLeads path ours behind new
      (MayPut path ours bytes (appended bytes item)) (IsSafe path ours)
  pub puts : OnOk result ((ours : List ℕ → Bool) → Passes owner ours
      → Leads path (length bytes) (IsSafe path ours) behind new
      (MayPut path ours bytes (appended bytes item)) (Ended path (addition_of ours item bytes)))
  pub mailbox : OnOk result (begins_mailbox bytes ≡ true)
  pub few : OnOk result (length (raw_messages bytes) < most_messages)
  pub small : OnOk result (length (appended bytes item) ≤ most_bytes)
  pub why : IfErr result (NotAddedFor item bytes)

-- how it may be refused
abbrev pub MboxAppendErrors : SyncError → Type 0
MboxAppendErrors (IsChanged spot) = ⊥
MboxAppendErrors why = Unit {0}

-- A message was added to a mailbox for an owner of its lock, or not: the file was not read, or it
-- was. Our calls changed the mailbox and the names beside it alone.
pub record AddsToMailbox (path owner : List ℕ) (item : Item) (result : Result (Unit {0}) SyncError)
    (old new : Seen) : Type 0 where
  pub adds : AddsNothing path owner result old.told new.told
      ⊎ AddsBehind path owner item result old.told new.told
  pub here : Does (is_home path) (λ at. None) None old.told new.told
  pub may_be : IfErr result MboxAppendErrors
  pub serves : Serves result old new
