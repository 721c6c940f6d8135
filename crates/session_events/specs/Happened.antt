-- What an event says of the disk.
use Rattle.std.specs.Prelude.{◌≡◌, ◌≤◌, ◌<◌, ◌⊎◌, ◌+◌, ℕ, Bool, true, false, List, [], ◌∷◌}
use Rattle.std.specs.Prelude.{Option, Some, None, Result, Ok, Err, IfErr, length, map, take}
use Rattle.std.specs.List.{All}
use Rattle.mail_base.specs.Faults.{Rose}
use Rattle.mail_base.specs.declared.kind.Kind.{Kind}
use Rattle.disk_model.specs.Journal.{Past, ReadAll}
use Rattle.disk_model.specs.Judge.{IsLonger, StepBy, read_of}
use Rattle.disk_model.specs.Seen.{Seen}
use Rattle.disk_model.specs.declared.answers.DiskError.{DiskError}
use Rattle.disk_model.specs.declared.answers.DiskError.TheVariants as disk
use Rattle.disk_model.specs.declared.answers.Stat.{Stat}
use Rattle.folder_changes.specs.Asked.{AreListed, AreOnce}
use Rattle.folder_changes.specs.Left.{listing_synced}
use Rattle.folder_changes.specs.declared.sync_error.SyncError.{SyncError}
use Rattle.folder_changes.specs.declared.sync_error.SyncError.TheVariants as sync
use Rattle.folder_core.specs.Kinds.{KindSeen}
use Rattle.folder_core.specs.Keeping.{IsDifference, lists_id}
use Rattle.folder_core.specs.Known.{KnownFolder, nothing_known}
use Rattle.folder_core.specs.Limits.{most_letters, most_messages}
use Rattle.folder_letters.specs.Letters.{Mail}
use Rattle.folder_core.specs.Right.{Right}
use Rattle.folder_letters.specs.Listings.{ids_from}
use Rattle.folder_core.specs.declared.error.ScanError.{ScanError}
use Rattle.folder_core.specs.declared.error.ScanError.TheVariants.{ArchiveFull, Fault, NoMemory}
use Rattle.folder_drivers.specs.Synced.{sync_row}
use Rattle.folder_letters.specs.declared.listing.Listed.{Listed}
use Rattle.index_items.specs.Changes.{Changed}
use Rattle.session_events.specs.Events.{Happening, FileRead, FileRefused, KeyPressed, FolderOpened}
use Rattle.session_events.specs.Events.{FolderRefused, FolderChecked, CheckRefused, FolderSynced}
use Rattle.session_events.specs.Events.{SyncRefused}
use Rattle.session_events.specs.Events.{PlainFound, held_found}
use Rattle.session_events.specs.Visits.{WasNotVisited, WasVisited}
use Rattle.session_events.specs.declared.event.Marks.{Marks}
use Rattle.session_events.specs.declared.event.OpenFault.{OpenFault}
use Rattle.session_events.specs.declared.event.OpenFault.TheVariants.{Taken, NoDriver, Folder}

-- the most bytes of a file of commands
abbrev pub most_commands : ℕ
most_commands = 1048576

-- between these two pasts a read of the whole file gave this
abbrev pub WasRead : Result (Stat × List ℕ) DiskError → List ℕ → Past → Past → Type 0
WasRead answer path old new =
    StepBy answer (ReadAll path most_commands) (λ tree. read_of tree path most_commands) old new

-- The path was looked at and was of this kind, and then the folder, of which nothing was known, was
-- visited: what came is listed, and its letters are the archive.
pub record WasOpened (empty : Kind) (owner : List ℕ) (archive : List Mail) (path : List ℕ)
    (kind : Kind) (came : List Listed) (old new : Past) : Type 0 where
  pub looked : Past
  pub kind_is : KindSeen (Ok kind) empty path old looked
  pub on : IsLonger old looked
  pub known : KnownFolder
  pub at : known.path ≡ path
  pub listed : known.listing ≡ came
  pub visited : WasVisited kind owner [] archive (nothing_known path kind false) known looked new

-- the folder was of a kind that has a driver, and then was not visited for this cause
pub record WasNotListed (Has : Kind → Type 0) (empty : Kind) (owner path : List ℕ)
    (why : ScanError) (old new : Past) : Type 0 where
  pub kind : Kind
  pub looked : Past
  pub kind_is : KindSeen (Ok kind) empty path old looked
  pub on : IsLonger old looked
  pub driver : Has kind
  pub refused : WasNotVisited kind owner [] (nothing_known path kind false) why looked new

-- why the folder was not opened, as the tree shows it
abbrev pub WasRefused : (Kind → Type 0) → Kind → List ℕ → List ℕ → OpenFault → Past → Past → Type 0
WasRefused Has empty owner path Taken old new = ⊥
WasRefused Has empty owner path (NoDriver kind) old new = KindSeen (Ok kind) empty path old new
WasRefused Has empty owner path (Folder Fault) old new = Unit {0}
WasRefused Has empty owner path (Folder NoMemory) old new = Unit {0}
WasRefused Has empty owner path (Folder why) old new =
    KindSeen (Err why) empty path old new ⊎ WasNotListed Has empty owner path why old new

-- What a run stands on before an event, as far as the event speaks of it: the kind of an empty
-- file; the word that our locks bear; the open folder with its listing; how many letters were met;
-- whether a part of what was known was forgotten, since memory ran out in a check; and whether the
-- files of discarded messages are removed from an MH folder.
pub record Standing : Type 0 where
  pub empty : Kind
  pub owner : List ℕ
  pub path : List ℕ
  pub kind : Kind
  pub listing : List Listed
  pub met : ℕ
  pub forgot : Bool
  pub purges : Bool

-- what is known to be listed is the listing, or where some was forgotten a part of it
abbrev pub IsKnownOf : Bool → List Listed → List Listed → Type 0
IsKnownOf false listing known = known ≡ listing
IsKnownOf true listing known = All (λ l. lists_id listing l.id.0 ≡ true) known

-- What was known of the open folder when an event began: its listing, and what had been read of it
-- once.
pub record IsKnown (at : Standing) (mails : List Mail) (known : KnownFolder) (old : Past)
    : Type 0 where
  pub path : known.path ≡ at.path
  pub listed : IsKnownOf at.forgot at.listing known.listing
  pub right : Right at.kind (take at.met mails) known (Some old)

-- The open folder was visited between two pasts from what was known of it; the letters of what came
-- are the next ones, and what was found is how its listing changed.
pub record WasChecked (at : Standing) (mails : List Mail) (found : PlainFound) (old new : Past)
    : Type 0 where
  pub known : KnownFolder
  pub new_known : KnownFolder
  pub is : IsKnown at mails known old
  pub visited : WasVisited at.kind at.owner (take at.met mails)
      (take (at.met + length found.came) mails) known new_known old new
  pub difference : IsDifference at.listing new_known.listing (held_found found)

-- A visit of the open folder from what was known of it was refused for this cause.
pub record CheckWasRefused (at : Standing) (mails : List Mail) (why : ScanError)
    (old new : Past) : Type 0 where
  pub known : KnownFolder
  pub is : IsKnown at mails known old
  pub refused : WasNotVisited at.kind at.owner (take at.met mails) known why old new

-- why the open folder was not checked, as the tree shows it
abbrev pub WasNotChecked : Standing → List Mail → ScanError → Past → Past → Type 0
WasNotChecked at mails Fault old new = Unit {0}
WasNotChecked at mails NoMemory old new = Unit {0}
WasNotChecked at mails why old new = CheckWasRefused at mails why old new

-- A sync of the open folder, of which all was known, was tried between two pasts with changes of
-- listed messages, each once, and was answered so: what it did, which messages each stop leaves,
-- and why it was refused.
pub record WasTried (at : Standing) (mails : List Mail) (changes : List Changed)
    (result : Result (Unit {0}) SyncError) (old new : Past) : Type 0 where
  pub known : KnownFolder
  pub is : IsKnown at mails known old
  pub all_known : at.forgot ≡ false
  pub listed : AreListed at.listing changes
  pub once : AreOnce changes
  pub works : (sync_row at.kind).Works at.owner at.purges known (take at.met mails) changes result
      (Some old) (Some new)
  pub keeps : (sync_row at.kind).Keeps known (take at.met mails) changes (Some old) (Some new)
  pub may_be : IfErr result ((sync_row at.kind).MayBe known (take at.met mails) changes)
  pub cause : IfErr result (λ why. (sync_row at.kind).Refused known (take at.met mails) changes why
      (length old.journal) (length new.journal) new)

-- A sync of the open folder did all that was wanted; what is known behind it lists what is left of
-- the listing, and was so once.
pub record WasSynced (at : Standing) (mails : List Mail) (changes : List Changed) (old new : Past)
    : Type 0 where
  pub tried : WasTried at mails changes (Ok tt) old new
  pub left : KnownFolder
  pub synced : (sync_row at.kind).IsSynced at.owner changes tried.known left (Some old)
      (Some new)
  pub listing : left.listing ≡ listing_synced at.kind changes at.listing
  pub right : Right at.kind (take at.met mails) left (Some new)

-- why the open folder was not synced: for want of memory nothing was tried, or the sync was refused
abbrev pub WasNotSynced : Standing → List Mail → List Changed → SyncError → Past → Past → Type 0
WasNotSynced at mails changes sync.NoMemory old new =
    (new ≡ old) ⊎ WasTried at mails changes (Err sync.NoMemory) old new
WasNotSynced at mails changes why old new = WasTried at mails changes (Err why) old new

-- what an event says of the pasts at its two marks, where a run stood so before it
abbrev pub Happened : (Kind → Type 0) → Standing → List Mail → Happening → Past → Past → Type 0
Happened Has at mails (FileRead path text marks) old new =
    (stat : Stat) × WasRead (Ok (stat, text)) path old new
Happened Has at mails (FileRefused path why marks) old new = WasRead (Err why) path old new
Happened Has at mails (KeyPressed key moment) old new = Unit {0}
Happened Has at mails (FolderOpened path kind moment came marks) old new =
    WasOpened at.empty at.owner (take (length came) mails) path kind came old new
Happened Has at mails (FolderRefused path why marks) old new =
    WasRefused Has at.empty at.owner path why old new
Happened Has at mails (FolderChecked moment found marks) old new =
    WasChecked at mails found old new
Happened Has at mails (CheckRefused moment why marks) old new = WasNotChecked at mails why old new
Happened Has at mails (FolderSynced changes marks) old new = WasSynced at mails changes old new
Happened Has at mails (SyncRefused changes why marks) old new =
    WasNotSynced at mails changes why old new

-- a fault was counted
abbrev pub IsReadCause : DiskError → Marks → Type 0
IsReadCause disk.Fault marks = Rose marks.faults_before marks.faults_after
IsReadCause _ marks = Unit {0}

-- a fault was counted, a driver that is said to be missing is, and a first archive is never full
abbrev pub IsCause : (Kind → Type 0) → OpenFault → ℕ → ℕ → Type 0
IsCause Has Taken before after = ⊥
IsCause Has (NoDriver kind) before after = Has kind → ⊥
IsCause Has (Folder Fault) before after = Rose before after
IsCause Has (Folder ArchiveFull) before after = ⊥
IsCause Has (Folder why) before after = Unit {0}

-- a fault was counted where a scan was refused for one
abbrev pub IsScanCause : ScanError → Marks → Type 0
IsScanCause Fault marks = Rose marks.faults_before marks.faults_after
IsScanCause _ marks = Unit {0}

-- a fault was counted where a sync was refused for one
abbrev pub IsSyncCause : SyncError → Marks → Type 0
IsSyncCause sync.Fault marks = Rose marks.faults_before marks.faults_after
IsSyncCause _ marks = Unit {0}

-- the cause of a refused event; an opened folder has a driver
abbrev pub HasCause : (Kind → Type 0) → Happening → Marks → Type 0
HasCause Has (FileRefused path why kept) marks = IsReadCause why marks
HasCause Has (FolderOpened path kind moment came kept) marks = Has kind
HasCause Has (FolderRefused path why kept) marks =
    IsCause Has why marks.faults_before marks.faults_after
HasCause Has (CheckRefused moment why kept) marks = IsScanCause why marks
HasCause Has (SyncRefused changes why kept) marks = IsSyncCause why marks
HasCause Has _ marks = Unit {0}

-- the marks of an event in which the device was used
abbrev pub marks_of : Happening → Option Marks
marks_of (FileRead path text marks) = Some marks
marks_of (FileRefused path why marks) = Some marks
marks_of (KeyPressed key moment) = None
marks_of (FolderOpened path kind moment came marks) = Some marks
marks_of (FolderRefused path why marks) = Some marks
marks_of (FolderChecked moment found marks) = Some marks
marks_of (CheckRefused moment why marks) = Some marks
marks_of (FolderSynced changes marks) = Some marks
marks_of (SyncRefused changes why marks) = Some marks

-- the past at a mark
abbrev pub past_at : Past → ℕ → Past
past_at past mark = record { first = past.first; journal = take mark past.journal }

-- the event is true of the pasts at its marks
abbrev pub IsTrueAt : (Kind → Type 0) → Standing → List Mail → Happening → Option Marks → Past
    → Type 0
IsTrueAt Has at mails event None past = Unit {0}
IsTrueAt Has at mails event (Some marks) past =
    Happened Has at mails event (past_at past marks.mark_before)
    (past_at past marks.mark_after)

-- Each event begins at the mark and with the faults with which the one before it ended, and neither
-- falls.
pub record Counts : Type 0 where
  pub mark : ℕ
  pub faults : ℕ

-- the mark and the faults behind an event
abbrev pub counts_after : Counts → Option Marks → Counts
counts_after counts None = counts
counts_after counts (Some marks) = record { mark = marks.mark_after; faults = marks.faults_after }

-- an event begins where the one before it ended
pub record Begins (Has : Kind → Type 0) (counts : Counts) (event : Happening)
    (marks : Marks) : Type 0 where
  pub mark : marks.mark_before ≡ counts.mark
  pub faults : marks.faults_before ≡ counts.faults
  pub on : marks.mark_before ≤ marks.mark_after
  pub faults_on : marks.faults_before ≤ marks.faults_after
  pub cause : HasCause Has event marks

-- an event in which the device was used begins so
abbrev pub IsCounted : (Kind → Type 0) → Counts → Happening → Option Marks → Type 0
IsCounted Has counts event None = Unit {0}
IsCounted Has counts event (Some marks) = Begins Has counts event marks

-- each event begins where the one before it ended
abbrev pub AllCounted : (Kind → Type 0) → Counts → List Happening → Type 0
AllCounted Has counts [] = Unit {0}
AllCounted Has counts (event ∷ events) =
    IsCounted Has counts event (marks_of event)
    × AllCounted Has (counts_after counts (marks_of event)) events

-- the mark and the faults behind events
abbrev pub counts_at : Counts → List Happening → Counts
counts_at counts [] = counts
counts_at counts (event ∷ events) = counts_at (counts_after counts (marks_of event)) events

-- the device's counts
abbrev pub counts_of : Seen → Counts
counts_of seen = record { mark = seen.marks; faults = seen.faults }

-- the listed messages have the first ids, and a letter each
abbrev pub IsFresh : List Mail → List Listed → Type 0
IsFresh archive came =
    (map (λ listed. listed.id) came ≡ ids_from 0 came) × (length archive ≡ length came)

-- what an opening makes of an empty archive, whatever the disk tells
abbrev pub IsListed : List Mail → Happening → Type 0
IsListed archive (FolderOpened path kind moment came marks) = IsFresh archive came
IsListed archive (FolderRefused path why marks) = archive ≡ []
IsListed archive _ = Unit {0}

-- Letters, whatever the disk tells.

-- how many letters were met behind an event
abbrev pub met_after : ℕ → Happening → ℕ
met_after met (FolderOpened path kind moment came marks) = met + length came
met_after met (FolderChecked moment found marks) = met + length found.came
met_after met _ = met

-- messages that came have the ids of the next letters, and an archive was full where that is said
abbrev pub AreNext : ℕ → Happening → Type 0
AreNext met (FolderOpened path kind moment came marks) =
    map (λ listed. listed.id) came ≡ ids_from met came
AreNext met (FolderChecked moment found marks) =
    map (λ listed. listed.id) found.came ≡ ids_from met found.came
AreNext met (CheckRefused moment ArchiveFull marks) = most_letters < met + most_messages
AreNext met _ = Unit {0}

-- the same of each event, behind which there are so many letters
abbrev pub AllMet : ℕ → ℕ → List Happening → Type 0
AllMet letters met [] = letters ≡ met
AllMet letters met (event ∷ events) =
    AreNext met event × AllMet letters (met_after met event) events
