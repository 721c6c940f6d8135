-- What a sync of a mailbox in one file is.
use Rattle.std.specs.Prelude.{◌≡◌, ◌⊎◌, ◌<◌, ◌≤◌, ◌||◌, Bool, false, List, [], ℕ, Option, Some}
use Rattle.std.specs.Prelude.{None, Result, Ok, IfErr, OnOk, length, take}
use Rattle.std.specs.Str.{bytes_eq}
use Rattle.mail_base.specs.declared.kind.Kind.TheVariants.{Mbox}
use Rattle.disk_model.specs.Journal.{Past}
use Rattle.disk_model.specs.Looking.{LooksOnly}
use Rattle.folder_letters.specs.Letters.{Mail}
use Rattle.folder_core.specs.Known.{KnownFolder}
use Rattle.folder_core.specs.Limits.{most_bytes}
use Rattle.folder_core.specs.Mbox.{raw_messages}
use Rattle.folder_changes.specs.Left.{listing_synced}
use Rattle.folder_changes.specs.Refused.{Untold}
use Rattle.folder_changes.specs.declared.sync_error.Spot.TheVariants.{At, Name}
use Rattle.folder_changes.specs.declared.sync_error.SyncError.{SyncError}
use Rattle.folder_changes.specs.declared.sync_error.SyncError.TheVariants.{Changed as IsChanged}
use Rattle.folder_changes.specs.declared.sync_error.SyncError.TheVariants.{Fault}
use Rattle.folder_changes.specs.declared.sync_error.SyncError.TheVariants.{Locked as IsLocked}
use Rattle.folder_changes.specs.declared.sync_error.SyncError.TheVariants.{NoMemory, NotFolder}
use Rattle.folder_changes.specs.declared.sync_error.SyncError.TheVariants.{TooLarge, TooMany}
use Rattle.folder_changes.specs.declared.sync_error.SyncError.TheVariants.{Unfinished}
use Rattle.folder_drivers.specs.MboxFront.{IsAsKnown, first_difference, too_many}
use Rattle.folder_drivers.specs.MboxLocked.{Holds, Locked, MayPut, MeetsLong, Passes, ReadsWhole}
use Rattle.folder_drivers.specs.SyncRow.{SyncRow}
use Rattle.folder_tails.specs.Recovery.{Entered, SafeLeads}
use Rattle.folder_tails.specs.Rows.{IsSafe}
use Rattle.folder_tails.specs.Sides.{lock_of, tail_of, tmp_of}
use Rattle.folder_tails.specs.Stages.{Ended, Job, Leads}
use Rattle.folder_tails.specs.Traces.{LockAlone, MeetsTail}
use Rattle.index_items.specs.Changes.{Changed}
use Rattle.mbox_text.specs.Rewriting.{changed_tail, first_changed, rewritten, wanted_of}

-- What becomes of a file of which messages change.

-- where in the file the first message starts that changes
abbrev pub start_of : KnownFolder → List Changed → List ℕ → ℕ
start_of known changes bytes = first_changed (wanted_of changes known.listing) (raw_messages bytes)

-- what stands from there on behind the changes
abbrev pub end_of : KnownFolder → List Changed → List ℕ → List ℕ
end_of known changes bytes = changed_tail (wanted_of changes known.listing) (raw_messages bytes)

-- the file behind the changes
abbrev pub changed_file : KnownFolder → List Changed → List ℕ → List ℕ
changed_file known changes bytes = rewritten (wanted_of changes known.listing) bytes

-- the end that is written
abbrev pub job_of : (List ℕ → Bool) → KnownFolder → List Changed → List ℕ → Job
job_of ours known changes bytes = record {
  ours = ours;
  front = take (start_of known changes bytes) bytes;
  end = end_of known changes bytes;
}

-- What a sync did.

-- a path is the mailbox, or one of the names beside it
abbrev pub is_home : List ℕ → List ℕ → Bool
is_home path at = bytes_eq at path || (bytes_eq at (lock_of path)
    || (bytes_eq at (tail_of path) || bytes_eq at (tmp_of path)))

-- why the file was not read whole
abbrev pub UnreadFor : List ℕ → SyncError → Option Past → Option Past → Type 0
UnreadFor path IsLocked old new = LooksOnly old new
UnreadFor path Unfinished old new = MeetsTail path old new × LockAlone path old new
UnreadFor path (IsChanged (Name name)) old new = name.items ≡ path
UnreadFor path (TooLarge size) old new = MeetsLong path size old new
UnreadFor path Fault old new = Unit {0}
UnreadFor path NoMemory old new = Unit {0}
UnreadFor path why old new = ⊥

-- The file was not read whole: each stop leaves a mailbox that settles to what it may have settled
-- to before.
pub record Unread (path owner : List ℕ) (held : Bool) {A : Type 0} (result : Result A SyncError)
    (old new : Option Past) : Type 0 where
  pub not_done : OnOk result ⊥
  pub keeps : (ours : List ℕ → Bool) → Passes owner ours
      → SafeLeads path ours old new (Entered path ours held) (IsSafe path ours)
  pub why : IfErr result (λ why. UnreadFor path why old new)

-- why a file of these bytes was not changed, where the disk is not to blame
abbrev pub UnplannedFor : KnownFolder → List Changed → List ℕ → SyncError → Type 0
UnplannedFor known changes bytes (IsChanged (At place)) =
    (too_many bytes ≡ None) × (first_difference known.bytes bytes ≡ Some place)
UnplannedFor known changes bytes (TooMany count) = too_many bytes ≡ Some count
UnplannedFor known changes bytes (TooLarge size) =
    ((too_many bytes ≡ None) × (first_difference known.bytes bytes ≡ None))
    × ((size ≡ length (changed_file known changes bytes)) × (most_bytes < size))
UnplannedFor known changes bytes NoMemory = Unit {0}
UnplannedFor known changes bytes why = ⊥

-- why a file of these bytes was not changed
abbrev pub UnchangedFor : List ℕ → KnownFolder → List Changed → List ℕ → SyncError → Type 0
UnchangedFor path known changes bytes (IsChanged (Name name)) = name.items ≡ path
UnchangedFor path known changes bytes Fault = Unit {0}
UnchangedFor path known changes bytes why = UnplannedFor known changes bytes why

-- The file held these bytes as it was read under the lock. Each stop leaves a mailbox that settles
-- to what it may have settled to before, and from then on to that or to the changed file; answered
-- Ok, it is the changed file, with what others put behind it, and neither a lock nor a tail file is
-- there, and no write or cut of the mailbox started before the first message that changes.
pub record WasRead (path owner : List ℕ) (held : Bool) (known : KnownFolder)
    (changes : List Changed) {A : Type 0} (result : Result A SyncError) (old new : Option Past)
    : Type 0 where
  pub bytes : List ℕ
  pub before : Option Past
  pub behind : Option Past
  pub locks : (ours : List ℕ → Bool) → Passes owner ours
      → SafeLeads path ours old before (Entered path ours held) (Locked path ours)
  pub reads : ReadsWhole path bytes before behind
  pub held_so : (ours : List ℕ → Bool)
      → SafeLeads path ours before behind (Locked path ours) (Holds path ours bytes)
  pub keeps : (ours : List ℕ → Bool) → Passes owner ours → SafeLeads path ours behind new
      (MayPut path ours bytes (changed_file known changes bytes)) (IsSafe path ours)
  pub puts : OnOk result ((ours : List ℕ → Bool) → Passes owner ours
      → Leads path (start_of known changes bytes) (IsSafe path ours) behind new
      (MayPut path ours bytes (changed_file known changes bytes))
      (Ended path (job_of ours known changes bytes)))
  pub as_known : OnOk result (IsAsKnown known bytes)
  pub small : OnOk result (length (changed_file known changes bytes) ≤ most_bytes)
  pub why : IfErr result (UnchangedFor path known changes bytes)

-- what is known of a mailbox behind a sync that read these bytes
abbrev pub known_synced : List Changed → List ℕ → KnownFolder → KnownFolder
known_synced changes bytes known = record known {
  listing = listing_synced Mbox changes known.listing;
  bytes = changed_file known changes bytes;
  stamps = [];
  held = false;
}

-- The file was read, and what is known of it is what was written.
pub record WasKnown (path owner : List ℕ) (known new_known : KnownFolder) (changes : List Changed)
    (result : Result (Unit {0}) SyncError) (old new : Option Past) : Type 0 where
  pub read : WasRead path owner known.held known changes result old new
  pub known_so : OnOk result (new_known ≡ known_synced changes read.bytes known)

-- What it is.

-- a sync was tried for an owner of the lock: the file was not read, or it was
abbrev pub TriesMailbox : List ℕ → KnownFolder → List Changed → Result (Unit {0}) SyncError
    → Option Past → Option Past → Type 0
TriesMailbox owner known changes result old new =
    Unread known.path owner known.held result old new
    ⊎ WasRead known.path owner known.held known changes result old new

-- a file that was read was changed, and what is known of it is what was written
abbrev pub WritesMailbox : List ℕ → List Changed → KnownFolder → KnownFolder → Option Past
    → Option Past → Type 0
WritesMailbox owner changes known new_known old new =
    WasKnown known.path owner known new_known changes (Ok tt) old new

-- how it may be refused: what is not as it is known is the file, or a part of it
abbrev pub MboxErrors : KnownFolder → SyncError → Type 0
MboxErrors known (IsChanged (Name name)) = name.items ≡ known.path
MboxErrors known NotFolder = ⊥
MboxErrors known why = Unit {0}

-- Syncs of mailboxes in one file. What each stop leaves, and why one was refused, is told with what
-- was done.
abbrev pub mbox_syncs : SyncRow
mbox_syncs = record {
  Works = λ owner purge known mails changes result old new.
      TriesMailbox owner known changes result old new;
  Keeps = λ known mails changes old new. Unit {0};
  IsSynced = WritesMailbox;
  MayBe = λ known mails changes why. MboxErrors known why;
  Refused = λ known mails changes why. Untold;
  home = is_home;
  making = λ path other. None;
}
