-- By which calls of ours a past goes on.
use Rattle.std.specs.Prelude.{◌≡◌, ◌⊎◌, true, List, [], ◌∷◌, ◌++◌}
use Rattle.disk_model.specs.Journal.{Call, Entry, Own, Others, Past}
use Rattle.disk_model.specs.Looking.{looks}

-- each call of ours is one of these, or changed nothing
abbrev pub AreCalls : (Call → Type 0) → List Entry → Type 0
AreCalls Is [] = Unit {0}
AreCalls Is (Own call answer ∷ entries) =
    ((looks (Own call answer) ≡ true) ⊎ Is call) × AreCalls Is entries
AreCalls Is (Others action ∷ entries) = AreCalls Is entries

-- a past goes on by such calls, and by what others do
pub record GoesBy (Is : Call → Type 0) (old new : Past) : Type 0 where
  pub same_first : new.first ≡ old.first
  pub more : List Entry
  pub journal : new.journal ≡ old.journal ++ more
  pub calls : AreCalls Is more
