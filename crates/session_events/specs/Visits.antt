-- Visits of a folder: what an earlier call left over there is finished or taken away, and then the
-- folder is scanned.
use Rattle.std.specs.Prelude.{◌≡◌, ◌≤◌, ◌<◌, ◌⊎◌, ◌+◌, ℕ, List, Option, Some, None, Result, Ok, Err}
use Rattle.std.specs.Prelude.{IfOk, IsErrOf, OnErr, length, map}
use Rattle.mail_base.specs.Faults.{Rose}
use Rattle.mail_base.specs.declared.kind.Kind.{Kind}
use Rattle.disk_model.specs.Journal.{Past}
use Rattle.disk_model.specs.Judge.{GoesOn, IsLonger}
use Rattle.disk_model.specs.Seen.{Seen}
use Rattle.folder_core.specs.Known.{KnownFolder}
use Rattle.folder_core.specs.Limits.{most_letters, most_messages}
use Rattle.folder_core.specs.Reads.{format_of}
use Rattle.folder_core.specs.Right.{Right}
use Rattle.folder_core.specs.Scanned.{IsFound, ListsFound}
use Rattle.folder_core.specs.declared.error.ScanError.{ScanError}
use Rattle.folder_core.specs.declared.error.ScanError.TheVariants.{ArchiveFull, Fault}
use Rattle.folder_drivers.specs.Recovered.{Recovers}
use Rattle.folder_drivers.specs.Synced.{sync_row}
use Rattle.folder_letters.specs.Letters.{Mail, plain_letter}
use Rattle.folder_letters.specs.declared.letter.Letter.{Letter}
use Rattle.folder_letters.specs.declared.listing.Found.{Found}
use Rattle.folder_stops.specs.Does.{Does}

-- our calls changed the folder of this kind at a path alone, and no message of it began with a file
-- that they made
abbrev pub TouchesAlone : Kind → List ℕ → Option Past → Option Past → Type 0
TouchesAlone kind path old new =
    Does ((sync_row kind).home path) ((sync_row kind).making path) None old new

-- Between two pasts what was left over in a folder was finished or taken away for an owner of its
-- lock, or not, as the driver of its kind says.
pub record WasRecovered (kind : Kind) (owner : List ℕ) (known new_known : KnownFolder)
    (result : Result (Unit {0}) ScanError) (old new : Past) : Type 0 where
  pub before : Seen
  pub behind : Seen
  pub from : before.told ≡ Some old
  pub to : behind.told ≡ Some new
  pub recovers : Recovers kind owner known new_known result before behind

-- A folder was visited between two pasts: it was recovered, and then a scan saw what is known now.
pub record WasVisited (kind : Kind) (owner : List ℕ) (archive new_archive : List Mail)
    (known new_known : KnownFolder) (old new : Past) : Type 0 where
  pub left : KnownFolder
  pub between : Past
  pub recovered : WasRecovered kind owner known left (Ok tt) old between
  pub on : IsLonger between new
  pub found : IsFound (format_of kind) archive new_archive left new_known (length between.journal)
      (length new.journal) new

-- A folder was recovered between two pasts, and then a scan of it was refused for this cause.
pub record WasNotScanned (kind : Kind) (owner : List ℕ) (archive : List Mail) (known : KnownFolder)
    (why : ScanError) (old new : Past) : Type 0 where
  pub left : KnownFolder
  pub between : Past
  pub recovered : WasRecovered kind owner known left (Ok tt) old between
  pub on : IsLonger between new
  pub refused : (format_of kind).Refused archive left why (length between.journal)
      (length new.journal) new

-- why a folder was not visited: it was not recovered, or it was not scanned
abbrev pub WasNotVisited : Kind → List ℕ → List Mail → KnownFolder → ScanError → Past → Past
    → Type 0
WasNotVisited kind owner archive known why old new =
    ((left : KnownFolder) × WasRecovered kind owner known left (Err why) old new)
    ⊎ WasNotScanned kind owner archive known why old new

-- what a visit has seen, by its answer
abbrev pub VisitSaw : Kind → List ℕ → List Mail → List Mail → KnownFolder → KnownFolder
    → Result Found ScanError → Past → Past → Type 0
VisitSaw kind owner archive new_archive known new_known (Ok found) old new =
    WasVisited kind owner archive new_archive known new_known old new
VisitSaw kind owner archive new_archive known new_known (Err why) old new =
    WasNotVisited kind owner archive known why old new

-- What a visit has seen, and what it leaves: our calls changed the folder alone, what is known
-- afterwards was read, and after a refusal archive and known folder are as before, but for whether
-- its lock is held.
pub record Visits (kind : Kind) (owner : List ℕ) (archive new_archive : List Letter)
    (known new_known : KnownFolder) (result : Result Found ScanError) (old new : Seen)
    : Type 0 where
  pub saw : GoesOn (VisitSaw kind owner (map plain_letter archive) (map plain_letter new_archive)
      known new_known result) old.told new.told
  pub lists : IfOk result (λ found. ListsFound found (map plain_letter archive)
      (map plain_letter new_archive) (record known { held = new_known.held }) new_known)
  pub here : TouchesAlone kind known.path old.told new.told
  pub err_archive : OnErr result (new_archive ≡ archive)
  pub err_known : OnErr result (new_known ≡ record known { held = new_known.held })
  pub right : Right kind (map plain_letter new_archive) new_known new.told
  pub full : IsErrOf result ArchiveFull → most_letters < length archive + most_messages
  pub marks : old.marks ≤ new.marks
  pub faults : old.faults ≤ new.faults
  pub cause : IsErrOf result Fault → Rose old.faults new.faults
