-- What others have still to do, in the order in which they will.
use Rattle.std.specs.Prelude.{ℕ, ◌+◌, List, [], ◌∷◌, nat_lt, if◌then◌else◌}
use Rattle.std.specs.List.{insert}
use Rattle.disk_model.specs.Journal.{Action}

-- an action before the call of that number
pub record Planned : Type 0 where
  pub before_call : ℕ
  pub action : Action

-- the place behind the actions that stand before that call or an earlier one
abbrev pub place_before : ℕ → List Planned → ℕ
place_before call [] = 0
place_before call (other ∷ plan) =
    if nat_lt call other.before_call then 0 else place_before call plan + 1

-- a plan with one action more
abbrev pub planned : Planned → List Planned → List Planned
planned foreign plan = insert plan (place_before foreign.before_call plan) foreign

-- a plan with more actions, put into it one by one
abbrev pub planned_all : List Planned → List Planned → List Planned
planned_all plan [] = plan
planned_all plan (foreign ∷ script) = planned_all (planned foreign plan) script

-- the actions of a script in the order of the calls that they stand before
abbrev pub in_order : List Planned → List Planned
in_order script = planned_all [] script

-- the actions that are due at a call
abbrev pub due : ℕ → List Planned → List Action
due call [] = []
due call (foreign ∷ plan) =
    if nat_lt call foreign.before_call then [] else foreign.action ∷ due call plan

-- the others
abbrev pub left : ℕ → List Planned → List Planned
left call [] = []
left call (foreign ∷ plan) =
    if nat_lt call foreign.before_call then foreign ∷ plan else left call plan
