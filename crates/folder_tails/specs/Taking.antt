-- The stages in which a lock is made or taken over.
use Rattle.std.specs.Prelude.{◌≡◌, ◌⊎◌, ℕ, Bool, false, true, [], List, ◌∷◌, Option, Some}
use Rattle.std.specs.Prelude.{Result, Ok, Err, IsErrOf, ◌≤◌}
use Rattle.disk_model.specs.Seen.{Seen}
use Rattle.folder_tails.specs.declared.error.TailError.{TailError}
use Rattle.folder_tails.specs.declared.error.TailError.TheVariants.{Locked, Unfinished}
use Rattle.disk_model.specs.Journal.{Past, ReadAll, StatPath}
use Rattle.disk_model.specs.Judge.{Called, read_of, stat_of}
use Rattle.disk_model.specs.State.{File, Name, State, file_at, name_at}
use Rattle.disk_model.specs.declared.answers.DiskError.{DiskError}
use Rattle.disk_model.specs.declared.answers.DiskError.TheVariants.{Missing}
use Rattle.disk_model.specs.declared.answers.Stat.{Stat}
use Rattle.folder_stops.specs.Rows.{IsDurable}
use Rattle.folder_stops.specs.Words.{Among}
use Rattle.folder_tails.specs.Sides.{lock_of, tail_of}
use Rattle.folder_tails.specs.Recovery.{PassesOwn}
use Rattle.folder_tails.specs.Rows.{At, HasNoTail, IsForeign, IsSafe}

-- The lock is there, and so only with the names that are there now; its file is so, and so are the
-- names beside it.
pub record Locking (path : List ℕ) (ours : List ℕ → Bool) (Is : File → Type 0)
    (Beside : State → Type 0) (may : List ℕ → Bool) (state : State) : Type 0 where
  pub safe : IsSafe path ours may state
  pub number : ℕ
  pub at : name_at state.names (lock_of path) ≡ Some (Some number)
  pub mine : (row : List Name) (x : Name) → Among row (state.names ∷ state.earlier) → Among x row
      → x.file ≡ Some number → (row ≡ state.names) × (x.path ≡ lock_of path)
  pub is : Is (file_at state.files number)
  pub beside : Beside state

-- no tail file is there
abbrev pub NoTail : List ℕ → State → Type 0
NoTail path state = HasNoTail path state.names

-- No tail file counts.
pub record Unclaimed (path : List ℕ) (ours : List ℕ → Bool) (may : List ℕ → Bool) (state : State)
    : Type 0 where
  pub safe : IsSafe path ours may state
  pub idle : HasNoTail path state.names ⊎ IsForeign path ours state.files state.names

-- No tail file is there, nor does a stop bring one back.
pub record Quiet (path : List ℕ) (ours : List ℕ → Bool) (may : List ℕ → Bool) (state : State)
    : Type 0 where
  pub safe : IsSafe path ours may state
  pub none : HasNoTail path state.names
  pub only : state.earlier ≡ []

-- The lock is there with this line, on the disk, and no tail file is.
pub record Taken (path : List ℕ) (ours : List ℕ → Bool) (line : List ℕ) (may : List ℕ → Bool)
    (state : State) : Type 0 where
  pub safe : IsSafe path ours may state
  pub none : HasNoTail path state.names
  pub lock : At (lock_of path) (IsDurable line) state.files state.names

-- The lock is there, on the disk, and ours or with this line; no tail file is.
pub record Ready (path : List ℕ) (ours : List ℕ → Bool) (line : List ℕ) (may : List ℕ → Bool)
    (state : State) : Type 0 where
  pub safe : IsSafe path ours may state
  pub none : HasNoTail path state.names
  pub lock : At (lock_of path) (λ file. (found : List ℕ) × IsDurable found file
      × ((found ≡ line) ⊎ (ours found ≡ true))) state.files state.names

-- the test passes each lock of this owner, and no empty one
pub record Knows (owner : List ℕ) (ours : List ℕ → Bool) : Type 0 where
  pub passes : PassesOwn owner ours
  pub empty : ours [] ≡ false

-- For the code alone.

-- the lock was looked into
abbrev pub ReadsLock : List ℕ → Option Past → Option Past → Type 0
ReadsLock path old new = (limit : ℕ) × (read : Result (Stat × List ℕ) DiskError)
    × Called read (ReadAll (lock_of path) limit) (λ tree. read_of tree (lock_of path) limit) old new

-- this line was read in the lock
abbrev pub ReadsLine : List ℕ → List ℕ → Option Past → Option Past → Type 0
ReadsLine path line old new = (limit : ℕ) × (stat : Stat)
    × Called (Ok (stat, line)) (ReadAll (lock_of path) limit)
    (λ tree. read_of tree (lock_of path) limit) old new

-- the tail file was looked for
abbrev pub SeesTail : List ℕ → Option Past → Option Past → Type 0
SeesTail path old new = (found : Result Stat DiskError)
    × Called found (StatPath (tail_of path)) (λ tree. stat_of tree (tail_of path)) old new

-- nothing was there
abbrev pub MissesTail : List ℕ → Option Past → Option Past → Type 0
MissesTail path old new = Called {A = Stat} (Err Missing) (StatPath (tail_of path))
    (λ tree. stat_of tree (tail_of path)) old new

-- it was not refused for a lock of somebody else
abbrev pub NotLocked : Result (Unit {0}) TailError → Type 0
NotLocked result = IsErrOf result Locked → ⊥

-- where it was refused for what somebody else began, both of these
abbrev pub IfUnfinished : Result (Unit {0}) TailError → Type 0 → Type 0 → Type 0
IfUnfinished result P Q = IsErrOf result Unfinished → P × Q

-- neither marks nor faults fall
pub record CountsOn (old new : Seen) : Type 0 where
  pub marks : old.marks ≤ new.marks
  pub faults : old.faults ≤ new.faults
