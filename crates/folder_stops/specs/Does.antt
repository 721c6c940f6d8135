-- What a call of ours did itself: where it changed something, and which message it began.
use Rattle.std.specs.Prelude.{◌≡◌, ◌==◌, ◌⊎◌, ℕ, Bool, true, false, List, [], ◌∷◌, Option, Some}
use Rattle.std.specs.Prelude.{None}
use Rattle.disk_model.specs.Journal.{Call, ListDir, StatPath, ReadFront, ReadAll, Create, WriteAt}
use Rattle.disk_model.specs.Journal.{Cut, Sync, Rename, Remove, SyncDir, MakeDir, Answer, Done}
use Rattle.disk_model.specs.Journal.{Refused, Entry, Own, Others, Past}
use Rattle.folder_stops.specs.Along.{Grown}
use Rattle.folder_stops.specs.Shape.{Shape}

-- each call of our own with its answer is so
abbrev pub AllOwn : (Call → Answer → Type 0) → List Entry → Type 0
AllOwn Q [] = Unit {0}
AllOwn Q (Own call answer ∷ entries) = Q call answer × AllOwn Q entries
AllOwn Q (Others action ∷ entries) = AllOwn Q entries

-- a call that changes something changes it at paths of this kind
abbrev pub IsWithin : (List ℕ → Bool) → Call → Type 0
IsWithin home (ListDir dir) = Unit {0}
IsWithin home (StatPath path) = Unit {0}
IsWithin home (ReadFront path size) = Unit {0}
IsWithin home (ReadAll path limit) = Unit {0}
IsWithin home (Create path) = home path ≡ true
IsWithin home (WriteAt path at piece) = home path ≡ true
IsWithin home (Cut path size) = home path ≡ true
IsWithin home (Sync path) = home path ≡ true
IsWithin home (Rename from to) = (home from ≡ true) × (home to ≡ true)
IsWithin home (Remove path) = home path ≡ true
IsWithin home (SyncDir dir) = Unit {0}
IsWithin home (MakeDir path) = home path ≡ true

-- a file that is made is this one, where it is one with which a message begins
abbrev pub MakesAt : (List ℕ → Option (List ℕ)) → Option (List ℕ) → Answer → Call → Type 0
MakesAt making made (Refused why wrote) call = Unit {0}
MakesAt making made Done (Create path) = (making path ≡ None) ⊎ (made ≡ Some path)
MakesAt making made Done call = Unit {0}

-- it is so of a call that changed something: one that was done, or that wrote before it failed
abbrev pub IfChanged : Answer → Type 0 → Type 0
IfChanged Done P = P
IfChanged (Refused why wrote) P = (wrote == 0) ≡ false → P

-- both of one call
abbrev pub IsOurs : (List ℕ → Bool) → (List ℕ → Option (List ℕ)) → Option (List ℕ) → Call → Answer
    → Type 0
IsOurs home making made call answer =
    IfChanged answer (IsWithin home call) × MakesAt making made answer call

-- The calls of ours changed such paths alone, and no message begins with a file that they made but
-- this one.
pub record Does (home : List ℕ → Bool) (making : List ℕ → Option (List ℕ))
    (made : Option (List ℕ)) (old new : Option Past) : Type 0 where
  pub grown : Grown old new (λ state entries. AllOwn (IsOurs home making made) entries)

-- a call that changes something changes nothing in the folder
abbrev pub IsElsewhere : Shape → Call → Type 0
IsElsewhere shape (ListDir dir) = Unit {0}
IsElsewhere shape (StatPath path) = Unit {0}
IsElsewhere shape (ReadFront path size) = Unit {0}
IsElsewhere shape (ReadAll path limit) = Unit {0}
IsElsewhere shape (Create path) = shape.home path ≡ false
IsElsewhere shape (WriteAt path at piece) = shape.home path ≡ false
IsElsewhere shape (Cut path size) = shape.home path ≡ false
IsElsewhere shape (Sync path) = shape.home path ≡ false
IsElsewhere shape (Rename from to) = (shape.home from ≡ false) × (shape.home to ≡ false)
IsElsewhere shape (Remove path) = shape.home path ≡ false
IsElsewhere shape (SyncDir dir) = Unit {0}
IsElsewhere shape (MakeDir path) = shape.home path ≡ false

-- none of our calls changes something in the folder
abbrev pub AreElsewhere : Shape → List Entry → Type 0
AreElsewhere shape entries =
    AllOwn (λ call answer. IfChanged answer (IsElsewhere shape call)) entries
