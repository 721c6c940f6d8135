-- The stages in which what a stop left of a mailbox is finished or taken away.
use Rattle.std.specs.Prelude.{◌≡◌, ◌⊎◌, ℕ, Bool, true, List, Option, Some, Result, Ok, Err, length}
use Rattle.disk_model.specs.Journal.{Past}
use Rattle.disk_model.specs.State.{State}
use Rattle.disk_model.specs.declared.answers.DiskError.{DiskError}
use Rattle.folder_tails.specs.Sides.{lock_of}
use Rattle.folder_tails.specs.Tails.{is_owners, read_tail}
use Rattle.folder_tails.specs.Rows.{At, HasNoTail, IsLock, IsSafe}
use Rattle.folder_tails.specs.Stages.{Decided, Finished, HasLock, Job, Leads}

-- the test passes each lock of this owner
abbrev pub PassesOwn : List ℕ → (List ℕ → Bool) → Type 0
PassesOwn owner ours = (line : List ℕ) → is_owners owner line ≡ true → ours line ≡ true

-- no tail file is there, or it stands under a lock that is ours, on the disk
abbrev pub IsRight : List ℕ → (List ℕ → Bool) → State → Type 0
IsRight path ours state = HasNoTail path state.names
    ⊎ At (lock_of path) (IsLock ours true) state.files state.names

-- Each stop leaves what passes the test, and where the lock is held, a tail file stands under it.
pub record Entered (path : List ℕ) (ours : List ℕ → Bool) (held : Bool) (may : List ℕ → Bool)
    (state : State) : Type 0 where
  pub safe : IsSafe path ours may state
  pub right : held ≡ true → IsRight path ours state

-- Each stop leaves what passes the test, and a tail file stands under a lock that is ours.
pub record Right (path : List ℕ) (ours : List ℕ → Bool) (may : List ℕ → Bool) (state : State)
    : Type 0 where
  pub safe : IsSafe path ours may state
  pub right : IsRight path ours state

-- Each stop leaves what passes the test, and no tail file is there.
pub record Idle (path : List ℕ) (ours : List ℕ → Bool) (may : List ℕ → Bool) (state : State)
    : Type 0 where
  pub safe : IsSafe path ours may state
  pub none : HasNoTail path state.names

-- from one stage on to another, and each stop leaves what passes the test
abbrev pub SafeLeads : List ℕ → (List ℕ → Bool) → Option Past → Option Past
    → ((List ℕ → Bool) → State → Type 0) → ((List ℕ → Bool) → State → Type 0) → Type 0
SafeLeads path ours old new Pre Post = Leads path 0 (IsSafe path ours) old new Pre Post

-- what a tail file says: a front of that length, and the end behind it
abbrev pub SaidEnd : List ℕ → Type 0
SaidEnd text = (front : List ℕ) × (end : List ℕ) × (read_tail text ≡ Some (length front, end))

-- the end that it says
abbrev pub job_of : (ours : List ℕ → Bool) (text : List ℕ) → SaidEnd text → Job
job_of ours text said = record { ours = ours; front = said.0; end = said.1 }

-- a tail file with this text has its name, under a lock that is ours
abbrev pub Found : List ℕ → (List ℕ → Bool) → List ℕ → (List ℕ → Bool) → State → Type 0
Found path ours text may state =
    (said : SaidEnd text) × Decided path (job_of ours text said) may state

-- the mailbox has the end that it says, under the lock
abbrev pub IsPut : List ℕ → (List ℕ → Bool) → List ℕ → (List ℕ → Bool) → State → Type 0
IsPut path ours text may state = (said : SaidEnd text)
    × Finished path (job_of ours text said) (HasLock path (job_of ours text said)) may state

-- whether the lock is ours, and so held from now on; where it is not told, it is held as it was
abbrev pub TellsHeld : Result Bool DiskError → Bool → Bool → Type 0
TellsHeld (Ok found) held new_held = new_held ≡ found
TellsHeld (Err why) held new_held = new_held ≡ held
