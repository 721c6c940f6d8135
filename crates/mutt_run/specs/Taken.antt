-- The keys and the moments of a run.
use Rattle.std.specs.Prelude.{◌≡◌, ◌≤◌, ℕ, ℤ, pos, List, [], ◌∷◌, ◌++◌, length, Option, Some}
use Rattle.std.specs.Prelude.{None}
use Rattle.std.specs.Io.KnownBytes.{Consumes}
use Rattle.folder_letters.specs.Moments.{in_clock_range}
use Rattle.keymap.specs.Reader.{PlainReader, most_bytes}
use Rattle.keymap.specs.Stream.{keys_of}
use Rattle.keymap.specs.declared.key.Key.{Key}
use Rattle.session_events.specs.Events.{Happening, KeyPressed, FolderOpened}

-- the keys that were pressed
abbrev pub pressed_keys : List Happening → List Key
pressed_keys [] = []
pressed_keys (KeyPressed key moment ∷ events) = key ∷ pressed_keys events
pressed_keys (_ ∷ events) = pressed_keys events

-- their moments
abbrev pub pressed_moments : List Happening → List ℤ
pressed_moments [] = []
pressed_moments (KeyPressed key moment ∷ events) = moment ∷ pressed_moments events
pressed_moments (_ ∷ events) = pressed_moments events

-- Where a stream tells what it holds, its keys are those that were pressed and then those of the
-- bytes that wait and of what is left.
abbrev pub AreFirst : List Key → List ℕ → Option (List ℕ) → Option (List ℕ) → Type 0
AreFirst pressed pending None left = Unit {0}
AreFirst pressed pending (Some all) None = ⊥
AreFirst pressed pending (Some all) (Some left) =
    keys_of all ≡ pressed ++ keys_of (pending ++ left)

-- A reader of keys took bytes of a stream, and these keys of them were pressed; at most three bytes
-- wait.
pub record TakesKeys (pressed : List Key) (reader : PlainReader) (old new : Option (List ℕ))
    : Type 0 where
  pub bytes : List ℕ
  pub taken : Consumes old new bytes
  pub counted : reader.taken ≡ length bytes
  pub few : reader.taken ≤ most_bytes
  pub waiting : length reader.pending ≤ 3
  pub keys : AreFirst pressed reader.pending old new

-- the keys of a run were taken so by some reader
pub record TakesSome (events : List Happening) (old new : Option (List ℕ)) : Type 0 where
  pub reader : PlainReader
  pub takes : TakesKeys (pressed_keys events) reader old new

-- the moment that a clock gives next
abbrev pub next_moment : List ℤ → ℤ
next_moment [] = pos 0
next_moment (moment ∷ moments) = moment

-- what it has left then: the last moment is given for ever
abbrev pub later_moments : List ℤ → List ℤ
later_moments [] = []
later_moments (moment ∷ []) = moment ∷ []
later_moments (moment ∷ next ∷ moments) = next ∷ moments

-- a clock gave these moments, brought into range, and has that left
abbrev pub IsGiven : List ℤ → List ℤ → List ℤ → Type 0
IsGiven clock left [] = left ≡ clock
IsGiven clock left (moment ∷ moments) =
    (moment ≡ in_clock_range (next_moment clock)) × IsGiven (later_moments clock) left moments

-- the same, where the clock tells its moments
abbrev pub Gives : Option (List ℤ) → Option (List ℤ) → List ℤ → Type 0
Gives None after moments = Unit {0}
Gives (Some clock) None moments = ⊥
Gives (Some clock) (Some left) moments = IsGiven clock left moments

-- the folder was opened at this moment, where it was
abbrev pub IsStart : ℤ → List Happening → Type 0
IsStart start [] = Unit {0}
IsStart start (FolderOpened path kind moment came marks ∷ events) =
    (moment ≡ start) × IsStart start events
IsStart start (_ ∷ events) = IsStart start events
