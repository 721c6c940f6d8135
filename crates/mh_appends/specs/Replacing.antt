-- What the calls have done that write a file and put it in place of another one, as far as the
-- first that was refused.
use Rattle.std.specs.Prelude.{◌≡◌, ◌≢◌, ◌⊎◌, [], ℕ, List, Option, Result, Ok, Err}
use Rattle.mail_base.specs.Series.{Held}
use Rattle.disk_model.specs.Journal.{Call, Create, Past, ReadAll, Rename, Sync, WriteAt}
use Rattle.disk_model.specs.Judge.{Called, done_by, read_of}
use Rattle.disk_model.specs.declared.answers.DiskError.{DiskError}
use Rattle.disk_model.specs.declared.answers.DiskError.TheVariants.{Missing}
use Rattle.disk_model.specs.declared.answers.Stat.{Stat}

-- a call that gives nothing was done
abbrev pub WasDone : Call → Option Past → Option Past → Type 0
WasDone call old new = Called {A = Unit {0}} (Ok tt) call (done_by call) old new

-- it was refused so
abbrev pub WasNotDone : DiskError → Call → Option Past → Option Past → Type 0
WasNotDone why call old new = Called {A = Unit {0}} (Err why) call (done_by call) old new

-- A file of these bytes was made and put on the disk.
pub record WroteFile (at bytes : List ℕ) (old new : Option Past) : Type 0 where
  pub made : Option Past
  pub wrote : Option Past
  pub creates : WasDone (Create at) old made
  pub writes : WasDone (WriteAt at 0 bytes) made wrote
  pub syncs : WasDone (Sync at) wrote new

-- It was made, but its bytes were not written.
pub record NotWritten (at bytes : List ℕ) (why : DiskError) (old new : Option Past) : Type 0 where
  pub made : Option Past
  pub creates : WasDone (Create at) old made
  pub fails : WasNotDone why (WriteAt at 0 bytes) made new

-- They were, but not put on the disk.
pub record NotSynced (at bytes : List ℕ) (why : DiskError) (old new : Option Past) : Type 0 where
  pub made : Option Past
  pub wrote : Option Past
  pub creates : WasDone (Create at) old made
  pub writes : WasDone (WriteAt at 0 bytes) made wrote
  pub fails : WasNotDone why (Sync at) wrote new

-- one of the calls was refused
abbrev pub FailsWriting : List ℕ → List ℕ → DiskError → Option Past → Option Past → Type 0
FailsWriting at bytes why old new = WasNotDone why (Create at) old new
    ⊎ (NotWritten at bytes why old new ⊎ NotSynced at bytes why old new)

-- a file was written, or not
abbrev pub WritesFile : List ℕ → List ℕ → Result (Unit {0}) DiskError → Option Past → Option Past
    → Type 0
WritesFile at bytes (Ok done) old new = WroteFile at bytes old new
WritesFile at bytes (Err why) old new = FailsWriting at bytes why old new

-- A file was written beside another one, and put in its place.
pub record Replaced (side at bytes : List ℕ) (old new : Option Past) : Type 0 where
  pub wrote : Option Past
  pub writes : WroteFile side bytes old wrote
  pub renames : WasDone (Rename side at) wrote new

-- It was written, but not put in place.
pub record NotRenamed (side at bytes : List ℕ) (why : DiskError) (old new : Option Past)
    : Type 0 where
  pub wrote : Option Past
  pub writes : WroteFile side bytes old wrote
  pub fails : WasNotDone why (Rename side at) wrote new

-- one of the calls was refused
abbrev pub FailsReplacing : List ℕ → List ℕ → List ℕ → DiskError → Option Past → Option Past
    → Type 0
FailsReplacing side at bytes why old new =
    FailsWriting side bytes why old new ⊎ NotRenamed side at bytes why old new

-- a file was put in place of another one, or not
abbrev pub ReplacesFile : List ℕ → List ℕ → List ℕ → Result (Unit {0}) DiskError → Option Past
    → Option Past → Type 0
ReplacesFile side at bytes (Ok done) old new = Replaced side at bytes old new
ReplacesFile side at bytes (Err why) old new = FailsReplacing side at bytes why old new

-- these are the bytes of a file that was read, or there are none and it was missing
abbrev pub AreBytes : Result (Stat × List ℕ) DiskError → List ℕ → Type 0
AreBytes (Ok read) bytes = bytes ≡ read.1
AreBytes (Err Missing) bytes = bytes ≡ []
AreBytes (Err why) bytes = ⊥

-- A file was read, and has these bytes.
pub record FoundFile (at bytes : List ℕ) (old new : Option Past) : Type 0 where
  pub limit : ℕ
  pub answered : Result (Stat × List ℕ) DiskError
  pub called : Called answered (ReadAll at limit) (λ tree. read_of tree at limit) old new
  pub found : AreBytes answered bytes

-- It was not.
pub record NotRead (at : List ℕ) (why : DiskError) (old new : Option Past) : Type 0 where
  pub limit : ℕ
  pub other : why ≢ Missing
  pub called : Called {A = Stat × List ℕ} (Err why) (ReadAll at limit)
      (λ tree. read_of tree at limit) old new

-- a file was read, or not
abbrev pub ReadsFile : List ℕ → Result (Held ℕ) DiskError → Option Past → Option Past → Type 0
ReadsFile at (Ok bytes) old new = FoundFile at bytes.items old new
ReadsFile at (Err why) old new = NotRead at why old new
