-- What is carried along a journal, and what holds at each of its marks.
use Rattle.std.specs.Prelude.{◌≡◌, List, [], ◌∷◌, ◌++◌, Option}
use Rattle.disk_model.specs.Journal.{Action, Entry, Own, Others, Past}
use Rattle.disk_model.specs.State.{State, after_entry, run_entries, state_after}
use Rattle.disk_model.specs.Judge.{GoesOn}

-- what is kept beside the state, behind these entries
abbrev pub carry : {A : Type 0} → (Entry → State → A → A) → List Entry → A → State → A
carry next [] kept state = kept
carry next (entry ∷ entries) kept state =
    carry next entries (next entry state kept) (after_entry state entry)

-- P at each mark
abbrev pub Along : {A : Type 0} → (Entry → State → A → A) → (A → State → Type 0) → List Entry → A
    → State → Type 0
Along next P [] kept state = P kept state
Along next P (entry ∷ entries) kept state =
    P kept state × Along next P entries (next entry state kept) (after_entry state entry)

-- each action of others is allowed at the state that it meets
abbrev pub Allows : (Action → State → Type 0) → List Entry → State → Type 0
Allows IsAllowed [] state = Unit {0}
Allows IsAllowed (Own call answer ∷ entries) state =
    Allows IsAllowed entries (after_entry state (Own call answer))
Allows IsAllowed (Others action ∷ entries) state =
    IsAllowed action state × Allows IsAllowed entries (after_entry state (Others action))

-- from Pre on P holds at each mark, and Post at the end, where others do what is allowed
abbrev pub Keeps : {A : Type 0} → (Entry → State → A → A) → (Action → State → Type 0)
    → (A → State → Type 0) → (A → State → Type 0) → (A → State → Type 0) → State → List Entry
    → Type 0
Keeps next IsAllowed P Pre Post state entries =
    (kept : _) → Allows IsAllowed entries state → Pre kept state
    → Along next P entries kept state
    × Post (carry next entries kept state) (run_entries entries state)

-- The journal grew by entries, of which P holds from the state on that they met.
pub record Onward (P : State → List Entry → Type 0) (old new : Past) : Type 0 where
  pub same_first : new.first ≡ old.first
  pub more : List Entry
  pub journal : new.journal ≡ old.journal ++ more
  pub along : P (state_after old) more

-- where the past is told, it stays told and grew so; where it is not told, it stays untold
abbrev pub Grown : Option Past → Option Past → (State → List Entry → Type 0) → Type 0
Grown old new P = GoesOn (Onward P) old new
