-- To what the names of a state settle, whatever a stop leaves of the files.
use Rattle.std.specs.Prelude.{◌≡◌, ◌<◌, ◌≤◌, ◌⊎◌, ◌++◌, ℕ, Bool, true, false, List, ◌∷◌, length}
use Rattle.std.specs.Prelude.{Some, slice_index}
use Rattle.disk_model.specs.Tree.{TreeNode}
use Rattle.disk_model.specs.State.{File, Name, State, file_at, is_file, name_at}
use Rattle.disk_model.specs.Images.{IsImage, is_touched}
use Rattle.folder_stops.specs.Rows.{IsDurable, Sound}
use Rattle.folder_stops.specs.Words.{Among}
use Rattle.folder_tails.specs.Sides.{lock_of, tail_of}
use Rattle.folder_tails.specs.Settled.{settled_bytes}
use Rattle.folder_tails.specs.Tails.{read_tail}

-- a file stands at a path, and is so
abbrev pub At : List ℕ → (File → Type 0) → List File → List Name → Type 0
At path Is files names =
    (number : ℕ) × (name_at names path ≡ Some (Some number)) × Is (file_at files number)

-- Its first bytes are these, and are on the disk.
pub record KeepsFront (front : List ℕ) (file : File) : Type 0 where
  pub holds : (place : ℕ) → place < length front
      → slice_index file.bytes place ≡ slice_index front place
  pub long : length front ≤ length file.bytes
  pub least : length front ≤ file.least
  pub untouched : (place : ℕ) → place < length front → is_touched file.touched place ≡ false

-- a tail file, on the disk: these bytes come behind a front of that length
abbrev pub IsTailFile : List ℕ → List ℕ → File → Type 0
IsTailFile front end file =
    (bytes : List ℕ) × IsDurable bytes file × (read_tail bytes ≡ Some (length front, end))

-- a lock, on the disk, of which the test says this
abbrev pub IsLock : (List ℕ → Bool) → Bool → File → Type 0
IsLock ours is file = (line : List ℕ) × IsDurable line file × (ours line ≡ is)

-- no tail file is there
abbrev pub HasNoTail : List ℕ → List Name → Type 0
HasNoTail path names = is_file (name_at names (tail_of path)) ≡ false

-- there is no lock, or one that is not ours
abbrev pub IsForeign : List ℕ → (List ℕ → Bool) → List File → List Name → Type 0
IsForeign path ours files names = (is_file (name_at names (lock_of path)) ≡ false)
    ⊎ At (lock_of path) (IsLock ours false) files names

-- The file has these bytes, on the disk, and no tail counts.
pub record IsPlain (path : List ℕ) (ours : List ℕ → Bool) (bytes : List ℕ) (files : List File)
    (names : List Name) : Type 0 where
  pub mail : At path (IsDurable bytes) files names
  pub idle : HasNoTail path names ⊎ IsForeign path ours files names

-- The front of the file is on the disk, and so are a tail file and a lock that is ours.
pub record IsTailed (path : List ℕ) (ours : List ℕ → Bool) (front end : List ℕ)
    (files : List File) (names : List Name) : Type 0 where
  pub mail : At path (KeepsFront front) files names
  pub tail : At (tail_of path) (IsTailFile front end) files names
  pub lock : At (lock_of path) (IsLock ours true) files names

-- with these names the mailbox settles to these bytes, whatever else a stop leaves
abbrev pub Row : List ℕ → (List ℕ → Bool) → List ℕ → List File → List Name → Type 0
Row path ours bytes files names = IsPlain path ours bytes files names
    ⊎ ((front : List ℕ) × (end : List ℕ) × (bytes ≡ front ++ end)
    × IsTailed path ours front end files names)

-- with these names it settles to bytes that pass a test
abbrev pub MayRow : List ℕ → (List ℕ → Bool) → (List ℕ → Bool) → List File → List Name → Type 0
MayRow path ours may files names =
    (bytes : List ℕ) × (may bytes ≡ true) × Row path ours bytes files names

-- the numbers of files are those of files, and no two names share one
abbrev pub IsSound : State → Type 0
IsSound state = Sound (λ path. false) state

-- Each stop leaves a mailbox that settles to bytes that pass a test.
pub record IsSafe (path : List ℕ) (ours : List ℕ → Bool) (may : List ℕ → Bool) (state : State)
    : Type 0 where
  pub sound : IsSound state
  pub rows : (names : List Name) → Among names (state.names ∷ state.earlier)
      → MayRow path ours may state.files names
  pub images : (tree : List TreeNode) → IsImage state tree
      → (bytes : List ℕ) × (may bytes ≡ true) × (settled_bytes ours path tree ≡ Some bytes)
