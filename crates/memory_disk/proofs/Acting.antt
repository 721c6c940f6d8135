-- Others act, one after another.
use Rattle.std.proofs.Common.{◌≡◌, ◌<◌, ◌++◌, ◌∷◌, ◌∙◌, [], ℕ, Bool, true, false, List, not, length}
use Rattle.std.proofs.Common.{map, drop, get_or, nat_lt, if◌then◌else◌, refl, sym, ap, arith}
use Rattle.std.proofs.Common.{append_assoc, length-append}
use Rattle.std.proofs.lemmas.List.{map-append}
use Rattle.disk_model.specs.Journal.{Action, Entry, Others}
use Rattle.disk_model.specs.State.{State, after_action, barrier}
use Rattle.disk_model.specs.State.{run_entries}
use Rattle.disk_model.proofs.Clocks.{clock-after_entry}
use Rattle.disk_model.proofs.Runs.{run_entries-append}
use Rattle.memory_disk.specs.Plan.{Planned, due, left}
use Rattle.memory_disk.specs.Entering.{Acts, Scene, is_due}

-- One action more.

due_front : (b : Bool) (action : Action) (rest : List Action) → not b ≡ true
    → (if b then [] else action ∷ rest) ≡ action ∷ rest
due_front true action rest h = absurd (cc)
due_front false action rest h = refl

left_front : (b : Bool) (all rest : List Planned) → not b ≡ true → (if b then all else rest) ≡ rest
left_front true all rest h = absurd (cc)
left_front false all rest h = refl

pub acts_more : (call : ℕ) (first old new : Scene) (foreign : Planned) → Acts call first old
    → old.plan ≡ foreign ∷ new.plan → is_due call old.plan ≡ true
    → new.state ≡ barrier (after_action foreign.action old.state)
    → new.waiting ≡ old.waiting ++ foreign.action ∷ []
    → Acts call first new
acts_more call first old new foreign h plan is state waiting =
    let front : not (nat_lt call foreign.before_call) ≡ true = sym (ap (is_due call) plan) ∙ is in
    record {
      actions = h.actions ++ foreign.action ∷ [];
      waiting =
          waiting ∙ ap (λ (l : List Action). l ++ foreign.action ∷ []) h.waiting
          ∙ append_assoc first.waiting h.actions (foreign.action ∷ []);
      state =
          state ∙ ap (λ (s : State). barrier (after_action foreign.action s)) h.state
          ∙ sym (run_entries-append (map Others h.actions) (Others foreign.action ∷ []) first.state)
          ∙ ap (λ (l : List Entry). run_entries l first.state)
          (sym (map-append Others h.actions (foreign.action ∷ [])));
      due =
          append_assoc h.actions (foreign.action ∷ []) (due call new.plan)
          ∙ ap (λ (l : List Action). h.actions ++ l)
          (sym (ap (due call) plan
          ∙ due_front (nat_lt call foreign.before_call) foreign.action (due call new.plan) front))
          ∙ h.due;
      left =
          sym (ap (left call) plan
          ∙ left_front (nat_lt call foreign.before_call) (foreign ∷ new.plan) (left call new.plan)
          front)
          ∙ h.left;
      count = omega (arith, h.count, ap length plan, length-append h.actions (foreign.action ∷ []));
      clock =
          omega (
            arith,
            h.clock,
            ap (λ (s : State). s.clock) state,
            clock-after_entry (Others foreign.action) old.state,
            length-append h.actions (foreign.action ∷ []),
          );
    }

-- the first of a list
pub first_item : {A : Type 0} (xs : List A) (x : A) → 0 < length xs → x ≡ get_or xs 0 x
    → xs ≡ x ∷ drop 1 xs
first_item [] x some is = absurd (omega arith)
first_item {A} (y ∷ xs) x some is = ap (λ (z : A). z ∷ xs) (sym is)

pub same_first : {A : Type 0} (x y : A) (xs : List A) → x ∷ xs ≡ y ∷ xs → x ≡ y
same_first x y xs is = cc
