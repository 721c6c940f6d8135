-- How others act before a call.
use Rattle.std.specs.Prelude.{◌≡◌, ◌≤◌, ◌+◌, ◌++◌, ℕ, Bool, false, not, List, [], ◌∷◌, length, map}
use Rattle.std.specs.Prelude.{nat_lt}
use Rattle.disk_model.specs.Journal.{Action, Others}
use Rattle.disk_model.specs.State.{State, run_entries}
use Rattle.memory_disk.specs.Plan.{Planned, due, left}

-- the first action of a plan is due at a call
abbrev pub is_due : ℕ → List Planned → Bool
is_due call [] = false
is_due call (foreign ∷ plan) = not (nat_lt call foreign.before_call)

-- what is kept of a disk while others act
pub record Scene : Type 0 where
  pub state : State
  pub waiting : List Action
  pub plan : List Planned

-- Some of those have acted, in their order, who are due at a call.
pub record Acts (call : ℕ) (old new : Scene) : Type 0 where
  pub actions : List Action
  pub waiting : new.waiting ≡ old.waiting ++ actions
  pub state : new.state ≡ run_entries (map Others actions) old.state
  pub due : actions ++ due call new.plan ≡ due call old.plan
  pub left : left call new.plan ≡ left call old.plan
  pub count : length actions + length new.plan ≡ length old.plan
  pub clock : new.state.clock ≤ old.state.clock + length actions

-- Nothing of it has changed.
pub record IsUnchanged {A B : Type 0} (state : State) (waiting : List A) (journal : List B)
    (new_state : State) (new_waiting : List A) (new_journal : List B) : Type 0 where
  pub same_state : new_state ≡ state
  pub same_waiting : new_waiting ≡ waiting
  pub same_journal : new_journal ≡ journal
