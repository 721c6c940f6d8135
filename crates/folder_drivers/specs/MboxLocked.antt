-- A mailbox in one file as it stands under its lock, and as it is read there.
use Rattle.std.specs.Prelude.{◌≡◌, Bool, true, List, ℕ, Option, Ok}
use Rattle.disk_model.specs.Journal.{Own, Past, ReadAll, Refused}
use Rattle.disk_model.specs.Judge.{Called, read_of}
use Rattle.disk_model.specs.State.{State}
use Rattle.disk_model.specs.declared.answers.DiskError.TheVariants.{Long}
use Rattle.disk_model.specs.declared.answers.Stat.{Stat}
use Rattle.folder_core.specs.Limits.{most_bytes}
use Rattle.folder_stops.specs.Along.{Grown}
use Rattle.folder_stops.specs.Rows.{IsDurable}
use Rattle.folder_stops.specs.Words.{Among}
use Rattle.folder_tails.specs.Recovery.{SafeLeads}
use Rattle.folder_tails.specs.Rows.{At, HasNoTail, IsLock, IsSafe}
use Rattle.folder_tails.specs.Sides.{lock_of}
use Rattle.folder_tails.specs.Taking.{Knows}
use Rattle.folder_tails.specs.Tails.{line_of}

-- the test passes the locks of this owner, the line that he writes into one, and no empty lock
pub record Passes (owner : List ℕ) (ours : List ℕ → Bool) : Type 0 where
  pub knows : Knows owner ours
  pub line : ours (line_of owner) ≡ true

-- The lock is there, on the disk, and ours; no tail file is.
pub record Locked (path : List ℕ) (ours : List ℕ → Bool) (may : List ℕ → Bool) (state : State)
    : Type 0 where
  pub safe : IsSafe path ours may state
  pub none : HasNoTail path state.names
  pub lock : At (lock_of path) (IsLock ours true) state.files state.names

-- The same, and the mailbox holds these bytes, all on the disk.
pub record Holds (path : List ℕ) (ours : List ℕ → Bool) (bytes : List ℕ) (may : List ℕ → Bool)
    (state : State) : Type 0 where
  pub locked : Locked path ours may state
  pub mail : At path (IsDurable bytes) state.files state.names

-- The same, and the mailbox may settle to these new bytes too.
pub record MayPut (path : List ℕ) (ours : List ℕ → Bool) (bytes new : List ℕ) (may : List ℕ → Bool)
    (state : State) : Type 0 where
  pub holds : Holds path ours bytes may state
  pub passes : may new ≡ true

-- the whole file was read, and held these bytes
pub record ReadsWhole (path bytes : List ℕ) (old new : Option Past) : Type 0 where
  pub stat : Stat
  pub called : Called (Ok (stat, bytes)) (ReadAll path most_bytes)
      (λ tree. read_of tree path most_bytes) old new

-- a look of ours at the file found that it is longer than may be read, and so long
abbrev pub MeetsLong : List ℕ → ℕ → Option Past → Option Past → Type 0
MeetsLong path size old new = Grown old new (λ state entries.
    Among (Own (ReadAll path most_bytes) (Refused (Long size) 0)) entries)
