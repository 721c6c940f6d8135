-- Why a call that makes a folder or adds to it was refused.
use Rattle.std.specs.Prelude.{◌≡◌, ◌≤◌, ℕ, IfErr, List, Result, IsErrOf}
use Rattle.mail_base.specs.Faults.{Rose}
use Rattle.disk_model.specs.Journal.{Call, MakeDir, Past}
use Rattle.disk_model.specs.Seen.{Seen}
use Rattle.folder_changes.specs.Refused.{StepRefused}
use Rattle.folder_changes.specs.declared.sync_error.SyncError.{SyncError}
use Rattle.folder_changes.specs.declared.sync_error.Spot.TheVariants.{Name}
use Rattle.folder_changes.specs.declared.sync_error.SyncError.TheVariants.{Changed, Fault}
use Rattle.folder_changes.specs.declared.sync_error.SyncError.TheVariants.{NoMemory, NotFolder}

-- how the adding of a message to a folder of files may be refused
abbrev pub AppendErrors : SyncError → Type 0
AppendErrors (Changed (Name name)) = Unit {0}
AppendErrors Fault = Unit {0}
AppendErrors NoMemory = Unit {0}
AppendErrors NotFolder = Unit {0}
AppendErrors why = ⊥

-- Neither marks nor faults fall, and faults rose where the disk is blamed; it is refused as the
-- adding of a message may be.
pub record BlamesDisk {A : Type 0} (result : Result A SyncError) (old new : Seen) : Type 0 where
  pub marks : old.marks ≤ new.marks
  pub faults : old.faults ≤ new.faults
  pub cause : IsErrOf result Fault → Rose old.faults new.faults
  pub errors : IfErr result AppendErrors

-- By which calls.

-- any call
abbrev pub IsAny : Call → Type 0
IsAny call = Unit {0}

-- the call that makes a directory
abbrev pub IsMake : List ℕ → Call → Type 0
IsMake dir call = call ≡ MakeDir dir

-- where the folder is none for it, one of these calls was refused for a state that is no doing of
-- ours
abbrev pub RefusedFor : (Call → Type 0) → SyncError → ℕ → ℕ → Past → Type 0
RefusedFor Needs NotFolder m n past = StepRefused Needs m n past
RefusedFor Needs Fault m n past = Unit {0}
RefusedFor Needs NoMemory m n past = Unit {0}
RefusedFor Needs why m n past = ⊥
