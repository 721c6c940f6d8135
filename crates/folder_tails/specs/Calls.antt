-- What the calls promise.
use Rattle.std.specs.Prelude.{◌≡◌, ℕ, Bool, false, true, List, Result, IfErr, IsErrOf, OnOk, Option}
use Rattle.std.specs.Prelude.{Some, Err, length}
use Rattle.disk_model.specs.Journal.{Past}
use Rattle.folder_core.specs.FirstLook.{first_look, found_by}
use Rattle.folder_stops.specs.Along.{Grown}
use Rattle.disk_model.specs.Looking.{LooksOnly}
use Rattle.disk_model.specs.Seen.{Seen}
use Rattle.folder_core.specs.declared.error.ScanError.{ScanError}
use Rattle.folder_core.specs.declared.error.ScanError.TheVariants.{Fault as ScanFault, Missing}
use Rattle.folder_core.specs.declared.error.ScanError.TheVariants.{NoMemory as ScanNoMemory}
use Rattle.folder_core.specs.declared.error.ScanError.TheVariants.{Unfinished as ScanUnfinished}
use Rattle.folder_tails.specs.Causes.{IsForeignTail, IsNotOurs, IsTailUnder, MayFinish}
use Rattle.folder_tails.specs.Causes.{WasStopped}
use Rattle.folder_tails.specs.Recovery.{Entered, Idle, PassesOwn, Right, SafeLeads}
use Rattle.folder_tails.specs.Rows.{IsSafe}
use Rattle.folder_tails.specs.Tails.{line_of}
use Rattle.folder_tails.specs.Taking.{Knows, Ready}
use Rattle.folder_tails.specs.Serving.{Serves}
use Rattle.folder_tails.specs.Traces.{LockAlone, MeetsTail}
use Rattle.folder_tails.specs.Stages.{AnyState, Ended, Job, JobLeads, JobStays, Staging}
use Rattle.folder_tails.specs.declared.error.TailError.{TailError}
use Rattle.folder_tails.specs.declared.error.TailError.TheVariants.{Fault, Gone, Locked, NoMemory}
use Rattle.folder_tails.specs.declared.error.TailError.TheVariants.{Unfinished}

-- this is the end that comes behind a front of that length
pub record IsEnd (at : ℕ) (tail : List ℕ) (job : Job) : Type 0 where
  pub behind : at ≡ length job.front
  pub bytes : tail ≡ job.end

-- a write under the lock is refused for what the disk answers, or for want of memory
abbrev pub IsWriteError : TailError → Type 0
IsWriteError Locked = ⊥
IsWriteError Unfinished = ⊥
IsWriteError Gone = Unit {0}
IsWriteError Fault = Unit {0}
IsWriteError NoMemory = Unit {0}

-- A mailbox got a new end under a lock that is ours, or not. Each stop at each mark of the call
-- leaves a mailbox that settles to what it may have settled to before, or to its new bytes; and
-- none of our calls changed it in front of them. Answered Ok, it has the new end in each image,
-- and neither a tail file nor a lock is there.
pub record WritesEnd (path : List ℕ) (at : ℕ) (tail : List ℕ) (new_held : Bool)
    (result : Result (Unit {0}) TailError) (old new : Seen) : Type 0 where
  pub stays : (job : Job) → IsEnd at tail job
      → JobStays path job old.told new.told (Staging path job AnyState)
  pub ends : OnOk result ((job : Job) → IsEnd at tail job
      → JobLeads path job old.told new.told (Staging path job AnyState) (Ended path job))
  pub serves : Serves Fault result old new
  pub refused : IfErr result IsWriteError
  pub given_back : OnOk result (new_held ≡ false)

-- a recovery is refused for what stands at the path, for a lock that is not ours, for what the disk
-- answers, or for want of memory
abbrev pub IsFinishError : ScanError → Type 0
IsFinishError Missing = Unit {0}
IsFinishError ScanUnfinished = Unit {0}
IsFinishError ScanFault = Unit {0}
IsFinishError ScanNoMemory = Unit {0}
IsFinishError why = ⊥

-- where the first look found nothing at the path, that is the refusal
abbrev pub TellsFirst : List ℕ → Result (Unit {0}) ScanError → Option Past → Option Past → Type 0
TellsFirst path result old new = Grown old new (λ state entries.
    found_by path (first_look state entries) ≡ Some false → result ≡ Err Missing)

-- What a stop left of a mailbox was finished or taken away, or not. Each stop at each mark of the
-- call leaves a mailbox that settles to what it may have settled to before, with what others put
-- behind it while no lock was there. Answered Ok, no tail file is there. Under a lock that is not
-- ours nothing is changed.
pub record Finishes (path : List ℕ) (owner : List ℕ) (held new_held : Bool)
    (result : Result (Unit {0}) ScanError) (old new : Seen) : Type 0 where
  pub stays : (ours : List ℕ → Bool) → PassesOwn owner ours
      → SafeLeads path ours old.told new.told (Entered path ours held) (IsSafe path ours)
  pub settles : OnOk result ((ours : List ℕ → Bool) → PassesOwn owner ours
      → SafeLeads path ours old.told new.told (Entered path ours held) (Idle path ours))
  pub serves : Serves ScanFault result old new
  pub refused : IfErr result IsFinishError
  pub unfinished : IsErrOf result ScanUnfinished → LooksOnly old.told new.told
      × ((new_held ≡ false) × MeetsTail path old.told new.told)
  pub missing : TellsFirst path result old.told new.told
  pub given_back : OnOk result (new_held ≡ false)
  pub missing_for : IsErrOf result Missing → WasStopped path old.told new.told
  pub unfinished_for : IsErrOf result ScanUnfinished
      → IsForeignTail path owner held old.told new.told
  pub done_for : OnOk result (MayFinish path owner held old.told new.told)

-- A lock was made, or taken over, or not. Each stop at each mark of the call leaves a mailbox that
-- settles to what it may have settled to before, with what others put behind it while no lock was
-- there. Answered Ok, the lock is there on the disk, and no tail file is. A lock that somebody else
-- has is left as it is.
pub record TakesLock (path : List ℕ) (owner : List ℕ) (held new_held : Bool)
    (result : Result (Unit {0}) TailError) (old new : Seen) : Type 0 where
  pub stays : (ours : List ℕ → Bool) → Knows owner ours
      → SafeLeads path ours old.told new.told (Entered path ours held) (IsSafe path ours)
  pub takes : OnOk result ((ours : List ℕ → Bool) → Knows owner ours
      → SafeLeads path ours old.told new.told (Entered path ours held)
      (Ready path ours (line_of owner)))
  pub serves : Serves Fault result old new
  pub locked : IsErrOf result Locked → LooksOnly old.told new.told × (new_held ≡ false)
  pub unfinished : IsErrOf result Unfinished
      → MeetsTail path old.told new.told × LockAlone path old.told new.told
  pub is_held : OnOk result (new_held ≡ true)
  pub locked_for : IsErrOf result Locked → IsNotOurs path owner held old.told new.told
  pub unfinished_for : IsErrOf result Unfinished → IsTailUnder path old.told new.told

-- For the code alone.

-- The same behind the look at the path.
pub record FinishesPart (path : List ℕ) (owner : List ℕ) (held new_held : Bool)
    (result : Result (Unit {0}) ScanError) (old new : Seen) : Type 0 where
  pub stays : (ours : List ℕ → Bool) → PassesOwn owner ours
      → SafeLeads path ours old.told new.told (Entered path ours held) (IsSafe path ours)
  pub settles : OnOk result ((ours : List ℕ → Bool) → PassesOwn owner ours
      → SafeLeads path ours old.told new.told (Entered path ours held) (Idle path ours))
  pub serves : Serves ScanFault result old new
  pub refused : IfErr result IsFinishError
  pub unfinished : IsErrOf result ScanUnfinished → LooksOnly old.told new.told
      × ((new_held ≡ false) × MeetsTail path old.told new.told)
  pub given_back : OnOk result (new_held ≡ false)

-- The same under a lock that is ours.
pub record FinishesOwn (path : List ℕ) (new_held : Bool) (result : Result (Unit {0}) ScanError)
    (old new : Seen) : Type 0 where
  pub stays : (ours : List ℕ → Bool)
      → SafeLeads path ours old.told new.told (Right path ours) (IsSafe path ours)
  pub settles : OnOk result ((ours : List ℕ → Bool)
      → SafeLeads path ours old.told new.told (Right path ours) (Idle path ours))
  pub serves : Serves ScanFault result old new
  pub refused : IfErr result IsFinishError
  pub unfinished : IsErrOf result ScanUnfinished → ⊥
  pub given_back : OnOk result (new_held ≡ false)
  pub missing_for : IsErrOf result Missing → WasStopped path old.told new.told
