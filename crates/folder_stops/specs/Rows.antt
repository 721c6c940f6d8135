-- What a folder with one file a message holds, name by name, whatever a stop leaves of it.
use Rattle.std.specs.Prelude.{◌≡◌, ◌<◌, ◌⊎◌, ℕ, Bool, true, false, List, ◌∷◌, length, Some}
use Rattle.disk_model.specs.State.{File, Name, State, file_at}
use Rattle.disk_model.specs.Images.{is_touched}
use Rattle.folder_stops.specs.Words.{Among}
use Rattle.folder_stops.specs.Shape.{Shape}
use Rattle.folder_stops.specs.Messages.{StoredMessage, Must, IsSingle, IsInOrder}

-- A file of these bytes, all of which are on the disk.
pub record IsDurable (bytes : List ℕ) (file : File) : Type 0 where
  pub holds : file.bytes ≡ bytes
  pub least : file.least ≡ length bytes
  pub greatest : file.greatest ≡ length bytes
  pub untouched : (place : ℕ) → place < length bytes → is_touched file.touched place ≡ false

-- the name of a file, the one of that number, where a message of that key may stand
abbrev pub IsOfKey : Shape → Name → List ℕ → ℕ → Type 0
IsOfKey shape name key number = (shape.slot name.path ≡ Some key) × (name.file ≡ Some number)

-- no file has a name of this key
abbrev pub IsUnused : Shape → List ℕ → List Name → Type 0
IsUnused shape key names = (x : Name) (n : ℕ) → Among x names → IsOfKey shape x key n → ⊥

-- a file that is no message, whatever a stop leaves of it
abbrev pub IsBlank : Shape → List File → ℕ → Type 0
IsBlank shape files n =
    (bytes : List ℕ) × IsDurable bytes (file_at files n) × (shape.counts bytes ≡ false)

-- the file is no message, or is that of one of these
abbrev pub IsKnown : Shape → List StoredMessage → List File → List ℕ → ℕ → Type 0
IsKnown shape all files key n = IsBlank shape files n
    ⊎ ((m : StoredMessage) × Among m all × (m.key ≡ key) × IsDurable m.core (file_at files n))

-- the message has its file
abbrev pub IsPresent : Shape → List File → List Name → StoredMessage → Type 0
IsPresent shape files names m = (x : Name) × (n : ℕ) × Among x names × IsOfKey shape x m.key n
    × IsDurable m.core (file_at files n) × (shape.counts m.core ≡ true)

-- With these names: each file under a key is that of one of these messages, no two have one key,
-- nothing else stands at a path of one, and each message that must stay has its file.
pub record Row (shape : Shape) (all : List StoredMessage) (files : List File) (names : List Name)
    : Type 0 where
  pub known : (x : Name) (key : List ℕ) (n : ℕ) → Among x names → IsOfKey shape x key n
      → IsKnown shape all files key n
  pub once : (x y : Name) (key : List ℕ) (n k : ℕ) → Among x names → Among y names
      → IsOfKey shape x key n → IsOfKey shape y key k → x ≡ y
  pub alone : (x y : Name) (key : List ℕ) (n : ℕ) → Among x names → Among y names
      → IsOfKey shape x key n → y.path ≡ x.path → y ≡ x
  pub present : (m : StoredMessage) → Among m all → Must m → IsPresent shape files names m

-- The numbers of files: each that a stop may bring back is that of a file, none moves into the
-- folder or out of it, and no two names share one.
pub record Sound (home : List ℕ → Bool) (state : State) : Type 0 where
  pub below : (row : List Name) (x : Name) (n : ℕ) → Among row (state.names ∷ state.earlier)
      → Among x row → x.file ≡ Some n → n < length state.files
  pub alike : (row : List Name) (x y : Name) (n : ℕ) → Among row (state.names ∷ state.earlier)
      → Among x row → Among y state.names → x.file ≡ Some n → y.file ≡ Some n
      → home x.path ≡ home y.path
  pub shared : (x y : Name) (n : ℕ) → Among x state.names → Among y state.names
      → x.file ≡ Some n → y.file ≡ Some n → x.path ≡ y.path

-- Each stop leaves a folder that holds the messages, but for some that may go.
pub record Holds (shape : Shape) (all : List StoredMessage) (state : State) : Type 0 where
  pub sound : Sound shape.home state
  pub rows : (row : List Name) → Among row (state.names ∷ state.earlier)
      → Row shape all state.files row
  pub single : IsSingle all
  pub in_order : IsInOrder shape.before all
