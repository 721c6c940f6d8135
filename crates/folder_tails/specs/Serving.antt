-- What every call keeps, and how a refusal of the disk is told.
use Rattle.std.specs.Prelude.{◌≤◌, Result, IsErrOf}
use Rattle.mail_base.specs.Faults.{Rose}
use Rattle.disk_model.specs.Judge.{Grows}
use Rattle.disk_model.specs.Seen.{Seen}
use Rattle.disk_model.specs.declared.answers.DiskError.{DiskError}
use Rattle.disk_model.specs.declared.answers.DiskError.TheVariants.{Exists, Fault as DiskFault}
use Rattle.disk_model.specs.declared.answers.DiskError.TheVariants.{Long, Missing as NotThere}
use Rattle.disk_model.specs.declared.answers.DiskError.TheVariants.{NoMemory as NoRoom, WrongNode}
use Rattle.folder_core.specs.declared.error.ScanError.{ScanError}
use Rattle.folder_core.specs.declared.error.ScanError.TheVariants.{Fault as ScanFault, Missing}
use Rattle.folder_core.specs.declared.error.ScanError.TheVariants.{NoMemory as ScanNoMemory}
use Rattle.folder_tails.specs.declared.error.TailError.{TailError}
use Rattle.folder_tails.specs.declared.error.TailError.TheVariants.{Fault, Gone, NoMemory}

-- What every call keeps: a told past only grows, neither marks nor faults fall, and this error
-- comes only where the faults of the device rose.
pub record Serves {A E : Type 0} (fault : E) (result : Result A E) (old new : Seen) : Type 0 where
  pub grows : Grows old.told new.told
  pub marks : old.marks ≤ new.marks
  pub faults : old.faults ≤ new.faults
  pub cause : IsErrOf result fault → Rose old.faults new.faults

-- a refusal of the disk as a write tells it
abbrev pub tail_error : DiskError → TailError
tail_error NotThere = Gone
tail_error WrongNode = Gone
tail_error Exists = Gone
tail_error (Long size) = Gone
tail_error DiskFault = Fault
tail_error NoRoom = NoMemory

-- the same as a recovery tells it
abbrev pub scan_error : DiskError → ScanError
scan_error NotThere = Missing
scan_error WrongNode = Missing
scan_error Exists = Missing
scan_error (Long size) = Missing
scan_error DiskFault = ScanFault
scan_error NoRoom = ScanNoMemory
