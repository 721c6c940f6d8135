-- How refusals of what happens under a lock are told.
use Rattle.std.specs.Prelude.{◌≡◌, List, ℕ}
use Rattle.disk_model.specs.declared.answers.DiskError.{DiskError}
use Rattle.disk_model.specs.declared.answers.DiskError.TheVariants.{Exists, Fault as DiskFault}
use Rattle.disk_model.specs.declared.answers.DiskError.TheVariants.{Long, Missing}
use Rattle.disk_model.specs.declared.answers.DiskError.TheVariants.{NoMemory as NoRoom, WrongNode}
use Rattle.folder_changes.specs.declared.sync_error.Spot.TheVariants.{At, Name}
use Rattle.folder_changes.specs.declared.sync_error.SyncError.{SyncError}
use Rattle.folder_changes.specs.declared.sync_error.SyncError.TheVariants.{Changed, Fault, Locked}
use Rattle.folder_changes.specs.declared.sync_error.SyncError.TheVariants.{NoMemory, TooLarge}
use Rattle.folder_changes.specs.declared.sync_error.SyncError.TheVariants.{TooMany, Unfinished}
use Rattle.folder_tails.specs.declared.error.TailError.{TailError}
use Rattle.folder_tails.specs.declared.error.TailError.TheVariants as tail
use Rattle.mbox_writes.specs.declared.front.FrontError.{FrontError}
use Rattle.mbox_writes.specs.declared.front.FrontError.TheVariants as front

-- the mailbox is not as it is known, or memory is wanting to say so
abbrev pub IsGone : List ℕ → SyncError → Type 0
IsGone path (Changed (Name name)) = name.items ≡ path
IsGone path NoMemory = Unit {0}
IsGone path why = ⊥

-- how a refusal of the lock, or of the new end, is told
abbrev pub TellsTail : List ℕ → TailError → SyncError → Type 0
TellsTail path tail.Locked told = told ≡ Locked
TellsTail path tail.Unfinished told = told ≡ Unfinished
TellsTail path tail.Gone told = IsGone path told
TellsTail path tail.Fault told = told ≡ Fault
TellsTail path tail.NoMemory told = told ≡ NoMemory

-- how a refusal of the disk to read the mailbox is told
abbrev pub TellsRead : List ℕ → DiskError → SyncError → Type 0
TellsRead path (Long size) told = told ≡ TooLarge size
TellsRead path DiskFault told = told ≡ Fault
TellsRead path NoRoom told = told ≡ NoMemory
TellsRead path Missing told = IsGone path told
TellsRead path WrongNode told = IsGone path told
TellsRead path Exists told = IsGone path told

-- how a refusal of a file is told that is not the one that is known
abbrev pub told_front : FrontError → SyncError
told_front (front.Differs place) = Changed (At place)
told_front (front.TooMany count) = TooMany count
told_front front.NoMemory = NoMemory
