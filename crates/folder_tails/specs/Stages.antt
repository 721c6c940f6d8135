-- The stages in which a new end of a mailbox is put in its place.
use Rattle.std.specs.Prelude.{◌≡◌, ◌≤◌, ◌⊎◌, ◌++◌, ℕ, Bool, true, List, [], ◌∷◌, length, Option}
use Rattle.std.specs.Prelude.{None, Some, Result, Ok, Err}
use Rattle.disk_model.specs.Journal.{Call, ListDir, StatPath, ReadFront, ReadAll, Create, WriteAt}
use Rattle.disk_model.specs.Journal.{Cut, Sync, Rename, Remove, SyncDir, MakeDir, Past}
use Rattle.disk_model.specs.State.{File, Name, State, file_at, name_at}
use Rattle.disk_model.specs.Judge.{DoesStep}
use Rattle.disk_model.specs.Seen.{Seen}
use Rattle.disk_model.specs.declared.answers.DiskError.{DiskError}
use Rattle.disk_model.specs.declared.answers.DiskError.TheVariants.{Missing}
use Rattle.folder_stops.specs.Along.{Grown, Keeps}
use Rattle.folder_stops.specs.Does.{AllOwn}
use Rattle.folder_stops.specs.Rows.{IsDurable}
use Rattle.folder_stops.specs.Words.{Among}
use Rattle.folder_tails.specs.Sides.{IsSide, lock_of, tmp_of}
use Rattle.folder_tails.specs.Rows.{At, HasNoTail, IsLock, IsSafe, IsSound, IsTailed}
use Rattle.folder_tails.specs.Rows.{KeepsFront, MayRow}
use Rattle.folder_tails.specs.Others.{MayDo, met}

-- The end of a mailbox: a test of locks, what stays in front, and what comes behind it.
pub record Job : Type 0 where
  pub ours : List ℕ → Bool
  pub front : List ℕ
  pub end : List ℕ

-- the mailbox with its new end
abbrev pub whole : Job → List ℕ
whole job = job.front ++ job.end

-- a call that changes something changes it beside the mailbox, or from the end of its front on
abbrev pub IsAllowed : List ℕ → ℕ → Call → Type 0
IsAllowed path from (ListDir dir) = Unit {0}
IsAllowed path from (StatPath at) = Unit {0}
IsAllowed path from (ReadFront at size) = Unit {0}
IsAllowed path from (ReadAll at limit) = Unit {0}
IsAllowed path from (Create at) = IsSide path at
IsAllowed path from (WriteAt at place piece) = IsSide path at ⊎ ((at ≡ path) × (from ≤ place))
IsAllowed path from (Cut at size) = IsSide path at ⊎ ((at ≡ path) × (from ≤ size))
IsAllowed path from (Sync at) = IsSide path at ⊎ (at ≡ path)
IsAllowed path from (Rename at to) = IsSide path at × IsSide path to
IsAllowed path from (Remove at) = IsSide path at
IsAllowed path from (SyncDir dir) = Unit {0}
IsAllowed path from (MakeDir at) = ⊥

-- Each stop leaves what passes the test; a tail file stands under a lock that is ours; and where
-- the lock is gone, the mailbox has its new end.
pub record Stands (path : List ℕ) (job : Job) (may : List ℕ → Bool) (state : State) : Type 0 where
  pub safe : IsSafe path job.ours may state
  pub right : HasNoTail path state.names
      ⊎ At (lock_of path) (IsLock job.ours true) state.files state.names
  pub begun : name_at state.names (lock_of path) ≡ None
      → At path (λ file. (more : List ℕ) × (file.bytes ≡ whole job ++ more)) state.files state.names

-- From Pre on to Post, and P at each mark, where others do what they may; and our calls change
-- nothing but from there on.
pub record Leads (path : List ℕ) (from : ℕ) (P : (List ℕ → Bool) → State → Type 0)
    (old new : Option Past) (Pre Post : (List ℕ → Bool) → State → Type 0) : Type 0 where
  pub grown : Grown old new (λ state entries.
      AllOwn (λ call answer. IsAllowed path from call) entries
      × Keeps (met path) (MayDo path) P Pre Post state entries)

-- Nothing has been decided, and the lock is ours; beside the mailbox it is so.
pub record Staging (path : List ℕ) (job : Job) (Beside : State → Type 0) (may : List ℕ → Bool)
    (state : State) : Type 0 where
  pub sound : IsSound state
  pub rows : (names : List Name) → Among names (state.names ∷ state.earlier)
      → MayRow path job.ours may state.files names
  pub mail : At path (KeepsFront job.front) state.files state.names
  pub lock : At (lock_of path) (IsLock job.ours true) state.files state.names
  pub new : may (whole job) ≡ true
  pub beside : Beside state

-- The tail file has its name, and a stop may leave it or not.
pub record Decided (path : List ℕ) (job : Job) (may : List ℕ → Bool) (state : State) : Type 0 where
  pub sound : IsSound state
  pub rows : (names : List Name) → Among names (state.names ∷ state.earlier)
      → MayRow path job.ours may state.files names
  pub now : IsTailed path job.ours job.front job.end state.files state.names
  pub new : may (whole job) ≡ true

-- The tail file stands, and the mailbox is being written behind its front.
pub record Writing (path : List ℕ) (job : Job) (Is : File → Type 0) (may : List ℕ → Bool)
    (state : State) : Type 0 where
  pub sound : IsSound state
  pub only : state.earlier ≡ []
  pub now : IsTailed path job.ours job.front job.end state.files state.names
  pub mail : At path Is state.files state.names
  pub new : may (whole job) ≡ true

-- The mailbox has its new end, with what others put behind it, and no tail file stands, though a
-- stop may bring back what stood.
pub record Finished (path : List ℕ) (job : Job) (Now : State → Type 0) (may : List ℕ → Bool)
    (state : State) : Type 0 where
  pub sound : IsSound state
  pub rows : (names : List Name) → Among names (state.names ∷ state.earlier)
      → MayRow path job.ours may state.files names
  pub more : List ℕ
  pub passes : may (whole job ++ more) ≡ true
  pub mail : At path (IsDurable (whole job ++ more)) state.files state.names
  pub no_tail : HasNoTail path state.names
  pub now : Now state

-- the lock is there, and ours
abbrev pub HasLock : List ℕ → Job → State → Type 0
HasLock path job state = At (lock_of path) (IsLock job.ours true) state.files state.names

-- no lock is there
abbrev pub HasNoLock : List ℕ → State → Type 0
HasNoLock path state = name_at state.names (lock_of path) ≡ None

-- The mailbox has its new end, with what others put behind it, in each image; neither a lock nor a
-- tail file is there.
pub record Ended (path : List ℕ) (job : Job) (may : List ℕ → Bool) (state : State) : Type 0 where
  pub finished : Finished path job (HasNoLock path) may state
  pub only : state.earlier ≡ []

-- any file
abbrev pub AnyFile : File → Type 0
AnyFile file = Unit {0}

-- any state
abbrev pub AnyState : State → Type 0
AnyState state = Unit {0}

-- nothing is said
abbrev pub Anyhow : (List ℕ → Bool) → State → Type 0
Anyhow may state = Unit {0}

-- the file begins with the new end's mailbox
abbrev pub Begins : Job → File → Type 0
Begins job file = (more : List ℕ) × (file.bytes ≡ whole job ++ more)

-- the file beside the mailbox is so, and no names have it elsewhere
abbrev pub TmpIs : List ℕ → (File → Type 0) → State → Type 0
TmpIs path Is state = (number : ℕ) × (name_at state.names (tmp_of path) ≡ Some (Some number))
    × ((row : List Name) (x : Name) → Among row (state.names ∷ state.earlier) → Among x row
    → x.file ≡ Some number → x.path ≡ tmp_of path)
    × Is (file_at state.files number)

-- from one stage on to another, where the mailbox gets its new end
abbrev pub JobLeads : List ℕ → Job → Option Past → Option Past
    → ((List ℕ → Bool) → State → Type 0) → ((List ℕ → Bool) → State → Type 0) → Type 0
JobLeads path job old new Pre Post =
    Leads path (length job.front) (Stands path job) old new Pre Post

-- the same, and nothing more is said of the end
abbrev pub JobStays : List ℕ → Job → Option Past → Option Past
    → ((List ℕ → Bool) → State → Type 0) → Type 0
JobStays path job old new Pre = JobLeads path job old new Pre (Stands path job)

-- a file was taken away, or nothing stood there
abbrev pub IsCleared : List ℕ → Seen → Seen → Type 0
IsCleared at old new =
    DoesStep (Ok tt) (Remove at) old new ⊎ DoesStep (Err Missing) (Remove at) old new

-- the same of a call with this result
abbrev pub Clears : Result (Unit {0}) DiskError → List ℕ → Seen → Seen → Type 0
Clears (Ok value) at old new = IsCleared at old new
Clears (Err why) at old new = DoesStep (Err why) (Remove at) old new
