-- What every disk answers, also one that tells no tree.
use Rattle.std.specs.Prelude.{◌≡◌, ◌<◌, ◌≤◌, ℕ, true, false, List, [], ◌∷◌, Result, Ok, Err, length}
use Rattle.std.specs.Prelude.{drop}
use Rattle.std.specs.Str.{IsUtf8}
use Rattle.mail_base.specs.Series.{Held}
use Rattle.disk_model.specs.Journal.{Call, ListDir, StatPath, ReadFront, ReadAll, Create, WriteAt}
use Rattle.disk_model.specs.Journal.{Cut, Sync, Rename, Remove, SyncDir, MakeDir}
use Rattle.disk_model.specs.declared.answers.Stat.{Stat}
use Rattle.disk_model.specs.declared.answers.FileRead.{FileRead}
use Rattle.disk_model.specs.declared.answers.DiskError.{DiskError}
use Rattle.disk_model.specs.declared.answers.DiskError.TheVariants.{Missing, WrongNode, Exists}
use Rattle.disk_model.specs.declared.answers.DiskError.TheVariants.{Long, Fault, NoMemory}

-- Which refusals a call has.

-- of a look at whatever stands at a path
abbrev pub IsLookError : DiskError → Type 0
IsLookError Missing = Unit {0}
IsLookError WrongNode = ⊥
IsLookError Exists = ⊥
IsLookError (Long size) = ⊥
IsLookError Fault = Unit {0}
IsLookError NoMemory = Unit {0}

-- of a call that wants a file, or a folder
abbrev pub IsNodeError : DiskError → Type 0
IsNodeError Missing = Unit {0}
IsNodeError WrongNode = Unit {0}
IsNodeError Exists = ⊥
IsNodeError (Long size) = ⊥
IsNodeError Fault = Unit {0}
IsNodeError NoMemory = Unit {0}

-- of a call that makes something
abbrev pub IsMakeError : DiskError → Type 0
IsMakeError Missing = Unit {0}
IsMakeError WrongNode = ⊥
IsMakeError Exists = Unit {0}
IsMakeError (Long size) = ⊥
IsMakeError Fault = Unit {0}
IsMakeError NoMemory = Unit {0}

-- of a whole read of at most so many bytes
abbrev pub IsReadError : ℕ → DiskError → Type 0
IsReadError limit Missing = Unit {0}
IsReadError limit WrongNode = Unit {0}
IsReadError limit Exists = ⊥
IsReadError limit (Long size) = limit < size
IsReadError limit Fault = Unit {0}
IsReadError limit NoMemory = Unit {0}

-- the refusals of a call
abbrev pub IsErrorOf : Call → DiskError → Type 0
IsErrorOf (ListDir dir) why = IsNodeError why
IsErrorOf (StatPath path) why = IsLookError why
IsErrorOf (ReadFront path size) why = IsNodeError why
IsErrorOf (ReadAll path limit) why = IsReadError limit why
IsErrorOf (Create path) why = IsMakeError why
IsErrorOf (WriteAt path at piece) why = IsNodeError why
IsErrorOf (Cut path size) why = IsNodeError why
IsErrorOf (Sync path) why = IsNodeError why
IsErrorOf (Rename from to) why = IsNodeError why
IsErrorOf (Remove path) why = IsNodeError why
IsErrorOf (SyncDir dir) why = IsNodeError why
IsErrorOf (MakeDir path) why = IsMakeError why

-- What a call gives.

-- a folder's length and stamp are 0
abbrev pub IsPlainStat : Stat → Type 0
IsPlainStat stat = stat.folder ≡ true → (stat.length ≡ 0) × (stat.stamp ≡ 0)

-- a whole file of at most so many bytes
pub record IsWhole (limit : ℕ) (read : FileRead) : Type 0 where
  pub file : read.stat.folder ≡ false
  pub length : read.stat.length ≡ length read.bytes.items
  pub within : read.stat.length ≤ limit

-- each of these names is text
abbrev pub AreText : List (Held ℕ) → Type 0
AreText [] = Unit {0}
AreText (name ∷ names) = IsUtf8 name.items × AreText names

-- what stands behind the first so many bytes is left as it was
pub record IsFront (count : ℕ) (old new : List ℕ) : Type 0 where
  pub within : count ≤ length old
  pub behind : drop count new ≡ drop count old

-- what `read_front` leaves in its slice
abbrev pub LeavesFront : Result ℕ DiskError → List ℕ → List ℕ → Type 0
LeavesFront (Ok count) old new = IsFront count old new
LeavesFront (Err why) old new = new ≡ old
