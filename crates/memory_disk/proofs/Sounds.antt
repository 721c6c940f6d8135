-- What is kept of a disk stays sound.
use Rattle.std.proofs.Common.{◌≡◌, ◌≤◌, ◌^◌, ◌++◌, ◌∷◌, ◌∙◌, [], ℕ, Bool, true, false, List, Option}
use Rattle.std.proofs.Common.{Some, None, length, Result, Ok, Err, OnOk, map, nat_lt, if◌then◌else◌}
use Rattle.std.proofs.Common.{refl, sym, ap, subst, arith, append_assoc, length-append}
use Rattle.std.proofs.lemmas.List.{append-nil, length-map, map-append}
use Rattle.disk_model.specs.Tree.{TreeNode, is_first_tree}
use Rattle.disk_model.specs.Journal.{Action, Call}
use Rattle.disk_model.specs.Journal.{Entry, Own, Others}
use Rattle.disk_model.specs.State.{State, after_entry}
use Rattle.disk_model.specs.State.{first_clock, run_entries, state_of, tree_of}
use Rattle.disk_model.specs.Lawful.{AreLawful, IsAllowed, is_text}
use Rattle.disk_model.specs.Refusals.{refusal}
use Rattle.disk_model.specs.declared.answers.DiskError.{DiskError}
use Rattle.disk_model.specs.declared.answers.DiskError.TheVariants.{Missing, WrongNode, Exists}
use Rattle.disk_model.specs.declared.answers.DiskError.TheVariants.{Long, Fault, NoMemory}
use Rattle.disk_model.proofs.Clocks.{clock-after_entry}
use Rattle.disk_model.proofs.Runs.{run_entries-append}
use Rattle.disk_model.proofs.TextNames.{AllText, text_begins, text_run}
use Rattle.memory_disk.specs.Plan.{Planned, due, left}
use Rattle.memory_disk.specs.Entering.{Acts, Scene}
use Rattle.disk_state.specs.Plain.{answer_by_refusal}
use Rattle.memory_disk.specs.Remembered.{IsSound, Remembered, met}

-- Others have acted.

pub sound_acts : (first : List TreeNode) (clock : ℕ) (journal : List Entry) (call : ℕ)
    (old new : Scene)
    → IsSound first clock journal old.waiting old.state → Acts call old new
    → IsSound first clock journal new.waiting new.state
sound_acts first clock journal call old new h acts = record {
  tree = h.tree;
  begins = h.begins;
  now =
      acts.state
      ∙ ap (run_entries (map Others acts.actions)) h.now
      ∙ sym (run_entries-append (journal ++ map Others old.waiting) (map Others acts.actions)
      (state_of first))
      ∙ ap (λ (l : List Entry). run_entries l (state_of first))
      (append_assoc journal (map Others old.waiting) (map Others acts.actions)
      ∙ ap (λ (l : List Entry). journal ++ l) (sym (ap (map Others) acts.waiting
      ∙ map-append Others old.waiting acts.actions)));
  lawful = h.lawful;
  small = h.small;
  later = omega
      (arith, h.later, acts.clock, ap length acts.waiting, length-append old.waiting acts.actions);
}

-- where none is due, none is left out
pub left_all : (call : ℕ) (plan : List Planned) → due call plan ≡ [] → left call plan ≡ plan
left_all call [] none = refl
left_all call (foreign ∷ plan) none = by_test (nat_lt call foreign.before_call) none
  where
    by_test : (b : Bool) → (if b then [] else foreign.action ∷ due call plan) ≡ []
        → (if b then foreign ∷ plan else left call plan) ≡ foreign ∷ plan
    by_test true none = refl
    by_test false none = absurd (cc)

-- A disk begins.

pub sound_first : {first : List TreeNode} {clock : ℕ} {journal : List Entry} {waiting : List Action}
    {state : State}
    → is_first_tree first ≡ true → clock ≡ first_clock first
    → state ≡ record (state_of first) { clock = clock }
    → clock ≤ 2 ^ 64 → journal ≡ [] → waiting ≡ [] → IsSound first clock journal waiting state
sound_first {first} {clock} {journal} {waiting} {state} tree begins now small none nobody = record {
  tree = tree;
  begins = begins;
  now =
      now ∙ ap (λ (n : ℕ). record (state_of first) { clock = n }) begins
      ∙ sym (ap (λ (l : List Entry). run_entries (l ++ map Others waiting) (state_of first)) none
      ∙ ap (λ (l : List Action). run_entries (map Others l) (state_of first)) nobody);
  lawful = subst (λ (l : List Entry). AreLawful l (state_of first)) (sym none) tt;
  small = small;
  later = omega (arith, ap (λ (s : State). s.clock) now, small);
}

-- An entry is made.

AreLawful-append : (a b : List Entry) (state : State) → AreLawful a state
    → AreLawful b (run_entries a state)
    → AreLawful (a ++ b) state
AreLawful-append [] b state x y = y
AreLawful-append (entry ∷ a) b state x y =
    (x.0, AreLawful-append a b (after_entry state entry) x.1 y)

others_lawful : (actions : List Action) (state : State) → AreLawful (map Others actions) state
others_lawful [] state = tt
others_lawful (action ∷ actions) state =
    (tt, others_lawful actions (after_entry state (Others action)))

pub allowed_by : (call : Call) (tree : List TreeNode) (refused : Option DiskError)
    → refused ≡ refusal call tree
    → IsAllowed call (answer_by_refusal refused) tree
allowed_by call tree None is = sym is
allowed_by call tree (Some Missing) is = (refl, sym is)
allowed_by call tree (Some WrongNode) is = (refl, sym is)
allowed_by call tree (Some Exists) is = (refl, sym is)
allowed_by call tree (Some (Long size)) is = (refl, sym is)
allowed_by call tree (Some Fault) is = omega arith
allowed_by call tree (Some NoMemory) is = (refl, sym is)

pub sound_enters : {first : List TreeNode} {clock : ℕ} {journal journal' : List Entry}
    {waiting waiting' : List Action}
    {state state' : State} (call : Call) (refused : Option DiskError)
    → IsSound first clock journal waiting state → is_text call ≡ true
    → IsAllowed call (answer_by_refusal refused) (tree_of state)
    → state' ≡ after_entry state (Own call (answer_by_refusal refused))
    → journal' ≡ journal ++ (map Others waiting ++ Own call (answer_by_refusal refused) ∷ [])
    → waiting' ≡ []
    → IsSound first clock journal' waiting' state'
sound_enters {first} {clock} {journal} {journal'} {waiting} {waiting'} {state} {state'} call refused
    h text allowed now grown none =
    let own : List Entry = Own call (answer_by_refusal refused) ∷ [] in
    let acted : List Entry = journal ++ map Others waiting in
    let all : journal' ≡ acted ++ own =
    grown ∙ sym (append_assoc journal (map Others waiting) own) in
    record {
      tree = h.tree;
      begins = h.begins;
      now =
          now ∙ ap (λ (s : State). after_entry s (Own call (answer_by_refusal refused))) h.now
          ∙ sym (run_entries-append acted own (state_of first))
          ∙ ap (λ (l : List Entry). run_entries l (state_of first))
          (sym (ap (λ (l : List Action). journal' ++ map Others l) none ∙ append-nil journal'
          ∙ all));
      lawful =
          subst (λ (l : List Entry). AreLawful l (state_of first)) (sym all)
          (AreLawful-append acted own (state_of first)
          (AreLawful-append journal (map Others waiting) (state_of first) h.lawful
          (others_lawful waiting (run_entries journal (state_of first)))) (
            (
              text,
              subst (λ (s : State). IsAllowed call (answer_by_refusal refused) (tree_of s))
                  h.now allowed,
            ),
            tt,
          ));
      small = h.small;
      later =
          omega (
            arith,
            h.later,
            ap (λ (s : State). s.clock) now,
            clock-after_entry (Own call (answer_by_refusal refused)) state,
            ap length grown,
            length-append journal (map Others waiting ++ own),
            length-append (map Others waiting) own,
            length-map waiting Others,
          );
    }

-- the parts of a disk that others change
abbrev pub with_scene : Remembered → List Action → List Planned → Remembered
with_scene disk waiting plan = record disk { waiting = waiting; plan = plan }

met_by : (call : ℕ) (old new : Scene) (disk : Remembered) → Acts call old new
    → due call new.plan ≡ []
    → old.waiting ≡ disk.waiting → old.plan ≡ disk.plan
    → with_scene disk new.waiting new.plan ≡ met call disk
met_by call old new disk acts none waiting plan =
    ap (λ (w : List Action). with_scene disk w new.plan)
    (acts.waiting ∙ ap (λ (l : List Action). l ++ acts.actions) waiting
    ∙ ap (λ (l : List Action). disk.waiting ++ l)
    (sym (ap (λ (l : List Action). acts.actions ++ l) none ∙ append-nil acts.actions) ∙ acts.due
    ∙ ap (due call) plan))
    ∙ ap (λ (p : List Planned). with_scene disk (disk.waiting ++ due call disk.plan) p)
    (sym (left_all call new.plan none) ∙ acts.left ∙ ap (left call) plan)

-- all have met: the disk with these parts is the one that others met
pub all_met : {A E : Type 0} (result : Result A E) (call : ℕ) (old new : Scene)
    (inside disk : Remembered)
    → with_scene inside old.waiting old.plan ≡ disk → Acts call old new
    → OnOk result (due call new.plan ≡ [])
    → OnOk result (with_scene inside new.waiting new.plan ≡ met call disk)
all_met (Ok value) call old new inside disk is acts none =
    ap (λ (d : Remembered). with_scene d new.waiting new.plan) is
    ∙ met_by call old new disk acts none (ap (λ (d : Remembered). d.waiting) is)
    (ap (λ (d : Remembered). d.plan) is)
all_met (Err e) call old new inside disk is acts none = tt

-- its names are text
pub sound_text : {first : List TreeNode} {clock : ℕ} {journal : List Entry} {waiting : List Action}
    {state : State}
    → IsSound first clock journal waiting state → AllText state.names
sound_text {first} {clock} {journal} {waiting} {state} h =
    subst (λ (s : State). AllText s.names) (sym h.now)
    (text_run (journal ++ map Others waiting) (state_of first)
    (AreLawful-append journal (map Others waiting) (state_of first) h.lawful
    (others_lawful waiting (run_entries journal (state_of first))))
    (text_begins first h.tree))
