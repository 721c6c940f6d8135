-- What the real disk tells, and how it answers what the system refuses.
use Rattle.std.specs.Prelude.{◌≡◌, ℕ, None, Result}
use Rattle.std_io.specs.declared.io.kind.ErrorKind.{ErrorKind}
use Rattle.std_io.specs.declared.io.kind.ErrorKind.TheVariants.{NotFound, NotADirectory}
use Rattle.std_io.specs.declared.io.kind.ErrorKind.TheVariants.{OutOfMemory, AlreadyExists}
use Rattle.disk_model.specs.Seen.{Seen}
use Rattle.disk_model.specs.Counts.{faulted, marked}
use Rattle.disk_model.specs.declared.answers.DiskError.{DiskError}
use Rattle.disk_model.specs.declared.answers.DiskError.TheVariants.{Missing, Exists, Fault}
use Rattle.disk_model.specs.declared.answers.DiskError.TheVariants.{NoMemory}

-- the calls that were answered, and the faults among them
pub record Tally : Type 0 where
  pub marks : ℕ
  pub faults : ℕ

-- the counts alone are told
abbrev pub untold : Tally → Seen
untold tally = record { told = None; marks = tally.marks; faults = tally.faults; bytes_read = None }

-- What a call with this result adds to the counts.
pub record CountsCall {A : Type 0} (result : Result A DiskError) (old new : Tally) : Type 0 where
  pub marks : new.marks ≡ marked result old.marks
  pub faults : new.faults ≡ faulted result old.faults

-- a name that is not there, or that leads through a file, is missing; all else that the system
-- refuses is a fault
abbrev pub refusal_of : ErrorKind → DiskError
refusal_of NotFound = Missing
refusal_of NotADirectory = Missing
refusal_of OutOfMemory = NoMemory
refusal_of kind = Fault

-- the same where something is to be made
abbrev pub making_refusal_of : ErrorKind → DiskError
making_refusal_of AlreadyExists = Exists
making_refusal_of kind = refusal_of kind
