-- A call that had its turn: what was answered, and what it left.
use Rattle.std.proofs.Common.{◌≡◌, ◌≤◌, ◌⊎◌, ◌↔◌, ◌++◌, ◌∷◌, ◌∙◌, [], ℕ, Bool, true, false, List}
use Rattle.std.proofs.Common.{Option, Some, None, Result, Ok, Err, IsErrOf, IsTrue, map, length}
use Rattle.std.proofs.Common.{nat_lt, if◌then◌else◌, refl, sym, ap, subst, arith, inl, inr}
use Rattle.std.proofs.Common.{length-append, append_assoc}
use Rattle.std.proofs.lemmas.List.{append-nil}
use Rattle.mail_base.specs.Faults.{Rose}
use Rattle.disk_model.specs.Tree.{TreeNode}
use Rattle.disk_model.specs.Journal.{Call, ListDir, StatPath, ReadFront, ReadAll, Create, WriteAt}
use Rattle.disk_model.specs.Journal.{Cut, Sync, Rename, Remove, SyncDir, MakeDir, Done, Entry, Own}
use Rattle.disk_model.specs.Journal.{Others, Action}
use Rattle.disk_model.specs.State.{State, after_done, run_entries, state_of, tree_of}
use Rattle.disk_model.specs.Reading.{given}
use Rattle.disk_model.specs.Answers.{IsErrorOf}
use Rattle.disk_model.specs.Looking.{is_look}
use Rattle.disk_model.specs.Judge.{IsJudged, MakesStep, answer_by}
use Rattle.disk_model.specs.Refusals.{refusal}
use Rattle.disk_model.specs.declared.answers.DiskError.{DiskError}
use Rattle.disk_model.specs.declared.answers.DiskError.TheVariants.{Missing, WrongNode, Exists}
use Rattle.disk_model.specs.declared.answers.DiskError.TheVariants.{Long, Fault, NoMemory}
use Rattle.disk_model.proofs.Runs.{run_entries-append}
use Rattle.disk_model.proofs.Refusing.{IsCause, MayRefuse, may_refuse}
use Rattle.memory_disk.specs.Plan.{Planned, due, left}
use Rattle.memory_disk.specs.Remembered.{Faces, IsFaulty, IsMeeting, Leaves, Plays, Remembered}
use Rattle.memory_disk.specs.Remembered.{Settles, begun}
use Rattle.disk_state.specs.Plain.{answer_by_refusal}
use Rattle.memory_disk.specs.Remembered.{entered, met, seen_of, state_now, tree_now}
use Rattle.memory_disk.proofs.Steps.{IsGiven, makes_step, memory_step, no_memory}

-- The disk that a call meets.
abbrev pub met_by : Remembered → Remembered
met_by old = met old.calls (begun old)

-- The call was asked for, had its turn, and was refused so, or not.
pub record Turns (asked : Call) (refused : Option DiskError) (old new : Remembered) : Type 0 where
  pub is_faulty : Bool
  pub faulty : IsTrue is_faulty ↔ IsFaulty old
  pub is : refused ≡ (if is_faulty then Some Fault else refusal asked (tree_now (met_by old)))
  pub entered : new ≡ entered refused asked (met_by old)
  pub faults : old.faults ≤ new.faults
  pub cause : refused ≡ Some Fault → Rose old.faults new.faults

pub turns : {asked call : Call} {is_faulty : Bool} {refused : Option DiskError}
    {old mid new : Remembered}
    → Faces asked call is_faulty old mid → Settles refused is_faulty call mid new
    → Turns asked refused old new
turns {asked} {call} {is_faulty} {refused} {old} {mid} {new} faces settles =
    let same : Settles refused is_faulty asked (met_by old) new =
    subst (λ (c : Call). Settles refused is_faulty c (met_by old) new) faces.same_call
    (subst (λ (m : Remembered). Settles refused is_faulty call m new) faces.met settles) in
    record {
      is_faulty = is_faulty;
      faulty = faces.faulty;
      is = same.is;
      entered = same.entered;
      faults = same.faults;
      cause = same.cause;
    }

-- Why it was refused.

-- it is to fail, or the tree refuses it
abbrev Why : Call → DiskError → Remembered → Type 0
Why asked why old = ((why ≡ Fault) × IsFaulty old)
    ⊎ ((refusal asked (tree_now (met_by old)) ≡ Some why) × (IsFaulty old → ⊥))

some_same : (why other : DiskError) → Some why ≡ Some other → why ≡ other
some_same why other e = cc

false_true : IsTrue false → ⊥
false_true e = cc

none_some : (why : DiskError) → ◌≡◌ {A = Option DiskError} None (Some why) → ⊥
none_some why e = cc

-- a call that is not refused is none that is to fail
none_faulty : (b : Bool) (asked : Call) (old : Remembered) → IsTrue b ↔ IsFaulty old
    → None ≡ (if b then Some Fault else refusal asked (tree_now (met_by old))) → IsFaulty old → ⊥
none_faulty true asked old faulty is f = none_some Fault is
none_faulty false asked old faulty is f = false_true (faulty.1 f)

why_by : (b : Bool) (asked : Call) (why : DiskError) (old : Remembered) → IsTrue b ↔ IsFaulty old
    → Some why ≡ (if b then Some Fault else refusal asked (tree_now (met_by old)))
    → Why asked why old
why_by true asked why old faulty is = inl (some_same why Fault is, faulty.0 refl)
why_by false asked why old faulty is = inr (sym is, λ f. absurd (false_true (faulty.1 f)))

refused_why : (asked : Call) (refused : Option DiskError) (why : DiskError) (old new : Remembered)
    → Turns asked refused old new → refused ≡ Some why → Why asked why old
refused_why asked refused why old new t is =
    why_by t.is_faulty asked why old t.faulty (sym is ∙ t.is)

-- what every call may answer
system_error : (call : Call) → IsErrorOf call Fault × IsErrorOf call NoMemory
system_error (ListDir dir) = (tt, tt)
system_error (StatPath path) = (tt, tt)
system_error (ReadFront path size) = (tt, tt)
system_error (ReadAll path limit) = (tt, tt)
system_error (Create path) = (tt, tt)
system_error (WriteAt path at piece) = (tt, tt)
system_error (Cut path size) = (tt, tt)
system_error (Sync path) = (tt, tt)
system_error (Rename from to) = (tt, tt)
system_error (Remove path) = (tt, tt)
system_error (SyncDir dir) = (tt, tt)
system_error (MakeDir path) = (tt, tt)

why_error : (asked : Call) (why : DiskError) (old : Remembered) → Why asked why old
    → IsErrorOf asked why
why_error asked why old w = elim w [
  | inl h ↦ subst (λ (e : DiskError). IsErrorOf asked e) (sym h.0) (system_error asked).0
  | inr h ↦
      (subst (λ (r : Option DiskError). MayRefuse asked r) h.0
      (may_refuse asked (tree_now (met_by old)))).0
]

-- it is a fault, or a cause that the tree has
why_cause : (asked : Call) (why : DiskError) (old : Remembered) → Why asked why old
    → (why ≡ Fault) ⊎ (IsCause why × (refusal asked (tree_now (met_by old)) ≡ Some why))
why_cause asked why old w = elim w [
  | inl h ↦ inl h.0
  | inr h ↦
      inr (
        (subst (λ (r : Option DiskError). MayRefuse asked r) h.0
            (may_refuse asked (tree_now (met_by old)))).1,
        h.0,
      )
]

-- an answer that is this error
abbrev pub error : (A : Type 0) → DiskError → Result A DiskError
error A why = Err why

cause_no_fault : (asked : Call) (why : DiskError) (old : Remembered) → why ≡ Fault
    → refusal asked (tree_now (met_by old)) ≡ Some why → ⊥
cause_no_fault asked why old fault is =
    (subst (λ (r : Option DiskError). MayRefuse asked r) (is ∙ ap (λ (e : DiskError). Some e) fault)
    (may_refuse asked (tree_now (met_by old)))).1

-- What it left.

leaves_by : (A : Type 0) (why : DiskError) (asked : Call) (old new : Remembered)
    → (why ≡ Fault) ⊎ (IsCause why × (refusal asked (tree_now (met_by old)) ≡ Some why))
    → new ≡ entered (Some why) asked (met_by old)
    → Leaves (error A why) asked old new
leaves_by A Missing asked old new w is = is
leaves_by A WrongNode asked old new w is = is
leaves_by A Exists asked old new w is = is
leaves_by A (Long size) asked old new w is = is
leaves_by A Fault asked old new w is = is
leaves_by A NoMemory asked old new w is = absurd (elim w [ inl h ↦ memory_fault h | inr h ↦ h.0 ])
  where
    memory_fault : ◌≡◌ {A = DiskError} NoMemory Fault → ⊥
    memory_fault e = cc

refused_leaves : (A : Type 0) (asked : Call) (refused : Option DiskError) (why : DiskError)
    (old new : Remembered)
    → Turns asked refused old new → refused ≡ Some why → Leaves (error A why) asked old new
refused_leaves A asked refused why old new t is =
    leaves_by A why asked old new
    (why_cause asked why old (refused_why asked refused why old new t is))
    (t.entered ∙ ap (λ (r : Option DiskError). entered r asked (met_by old)) is)

done_leaves : {A : Type 0} (asked : Call) (refused : Option DiskError) (value : A)
    (old new : Remembered)
    → Turns asked refused old new → refused ≡ None → Leaves (Ok value) asked old new
done_leaves asked refused value old new t is =
    t.entered ∙ ap (λ (r : Option DiskError). entered r asked (met_by old)) is

-- The counts.

longer : (asked : Call) (refused : Option DiskError) (old new : Remembered)
    → Turns asked refused old new
    → length old.past.journal ≤ length new.past.journal
longer asked refused old new t = omega (
  arith,
  ap (λ (d : Remembered). length d.past.journal) t.entered,
  length-append
      old.past.journal
      (map Others (met_by old).waiting ++ Own asked (answer_by_refusal refused) ∷ []),
)

err_fault : {A : Type 0} (why : DiskError) → IsErrOf (error A why) Fault → why ≡ Fault
err_fault why e = cc

ok_no_fault : {A : Type 0} (value : A) → ◌≡◌ {A = Result A DiskError} (Ok value) (Err Fault) → ⊥
ok_no_fault value e = cc

-- What is asked for.

-- where the tree refuses the call, so does what is wanted
abbrev pub Refuses : {A : Type 0} → Call → (List TreeNode → Result A DiskError) → Type 0
Refuses asked wanted = (tree : List TreeNode) (why : DiskError) → refusal asked tree ≡ Some why
    → wanted tree ≡ Err why

judged_same : {A : Type 0} (why : DiskError) (wanted : Result A DiskError) → wanted ≡ Err why
    → IsJudged (error A why) wanted
judged_same Fault wanted is = tt
judged_same Missing wanted is = sym is
judged_same WrongNode wanted is = sym is
judged_same Exists wanted is = sym is
judged_same (Long size) wanted is = sym is
judged_same NoMemory wanted is = sym is

judged_by : {A : Type 0} (why : DiskError) (asked : Call)
    (wanted : List TreeNode → Result A DiskError)
    (old : Remembered)
    → (why ≡ Fault) ⊎ (IsCause why × (refusal asked (tree_now (met_by old)) ≡ Some why))
    → Refuses asked wanted → IsJudged (error A why) (wanted (tree_now (met_by old)))
judged_by {A} why asked wanted old w refuses = elim w [
  | inl h ↦
      subst (λ (e : DiskError). IsJudged (error A e) (wanted (tree_now (met_by old)))) (sym h) tt
  | inr h ↦ judged_same why (wanted (tree_now (met_by old)))
      (refuses (tree_now (met_by old)) why h.1)
]

-- The steps.

given_by_error : (A : Type 0) (why : DiskError) (asked : Call) (tree : List TreeNode)
    → IsGiven (error A why) asked tree 0
given_by_error A why asked tree = refl

pub refused_step : {A : Type 0} (asked : Call) (refused : Option DiskError) (why : DiskError)
    (wanted : List TreeNode → Result A DiskError) (old new : Remembered)
    → Turns asked refused old new
    → refused ≡ Some why → Refuses asked wanted
    → MakesStep (error A why) asked wanted 0 (seen_of old) (seen_of new)
refused_step {A} asked refused why wanted old new t is refuses =
    let w = refused_why asked refused why old new t is in
    makes_step (error A why) asked wanted 0 old new
    (refused_leaves A asked refused why old new t is)
    (judged_by why asked wanted old (why_cause asked why old w) refuses)
    (record {
      marks = longer asked refused old new t;
      faults = t.faults;
      cause = λ fault. t.cause (is ∙ ap (λ (e : DiskError). Some e) (err_fault why fault));
    })
    (why_error asked why old w) (given_by_error A why asked (tree_now (met_by old)))

pub refused_plays : {A : Type 0} {asked : Call} {refused : Option DiskError} {why : DiskError}
    {old new : Remembered}
    → Turns asked refused old new → refused ≡ Some why → Plays (error A why) asked old new
refused_plays {A} {asked} {refused} {why} {old} {new} t is =
    let w = refused_why asked refused why old new t is in
    record {
      leaves = refused_leaves A asked refused why old new t is;
      due = λ faulty. inl
          (elim w [ inl h ↦ ap (λ (e : DiskError). error A e) h.0 | inr h ↦ absurd (h.1 faulty) ]);
      only = λ fault. elim w
          [ inl h ↦ h.1 | inr h ↦ absurd (cause_no_fault asked why old (err_fault why fault) h.0) ];
    }

pub done_step : {A : Type 0} (asked : Call) (refused : Option DiskError) (value : A)
    (wanted : List TreeNode → Result A DiskError) (bytes : ℕ) (old new : Remembered)
    → Turns asked refused old new
    → refused ≡ None → Ok value ≡ wanted (tree_now (met_by old))
    → bytes ≡ given (Own asked Done) (tree_now (met_by old))
    → MakesStep (Ok value) asked wanted bytes (seen_of old) (seen_of new)
done_step asked refused value wanted bytes old new t is judged gives =
    makes_step (Ok value) asked wanted bytes old new (done_leaves asked refused value old new t is)
    judged
    (record {
      marks = longer asked refused old new t;
      faults = t.faults;
      cause = λ fault. absurd (ok_no_fault value fault);
    })
    tt gives

pub done_plays : {A : Type 0} (asked : Call) (refused : Option DiskError) (value : A)
    (old new : Remembered)
    → Turns asked refused old new → refused ≡ None → Plays (Ok value) asked old new
done_plays asked refused value old new t is = record {
  leaves = done_leaves asked refused value old new t is;
  due = λ faulty. absurd (none_faulty t.is_faulty asked old t.faulty (sym is ∙ t.is) faulty);
  only = λ fault. absurd (ok_no_fault value fault);
}

-- For want of memory those who acted wait.

due_if : (call : ℕ) (foreign : Planned) (plan : List Planned) (b : Bool)
    → nat_lt call foreign.before_call ≡ b
    → due call (left call plan) ≡ [] → due call (if b then foreign ∷ plan else left call plan) ≡ []
due_if call foreign plan true is none =
    ap (λ (t : Bool). if t then [] else foreign.action ∷ due call plan) is
due_if call foreign plan false is none = none

none_due : (call : ℕ) (plan : List Planned) → due call (left call plan) ≡ []
none_due call [] = refl
none_due call (foreign ∷ plan) =
    due_if call foreign plan (nat_lt call foreign.before_call) refl (none_due call plan)

left_if : (call : ℕ) (foreign : Planned) (plan : List Planned) (b : Bool)
    → nat_lt call foreign.before_call ≡ b
    → left call (left call plan) ≡ left call plan
    → left call (if b then foreign ∷ plan else left call plan)
    ≡ (if b then foreign ∷ plan else left call plan)
left_if call foreign plan true is twice =
    ap (λ (t : Bool). if t then foreign ∷ plan else left call plan) is
left_if call foreign plan false is twice = twice

left_twice : (call : ℕ) (plan : List Planned) → left call (left call plan) ≡ left call plan
left_twice call [] = refl
left_twice call (foreign ∷ plan) =
    left_if call foreign plan (nat_lt call foreign.before_call) refl (left_twice call plan)

memory_no_fault : {A : Type 0} → IsErrOf (no_memory A) Fault → ⊥
memory_no_fault e = cc

pub begins_step : (A : Type 0) (asked : Call) (wanted : List TreeNode → Result A DiskError)
    (old new : Remembered)
    → IsMeeting old.calls (begun old) new
    → MakesStep (no_memory A) asked wanted 0 (seen_of old) (seen_of new)
begins_step A asked wanted old new h =
    memory_step asked wanted old new h (system_error asked).1

pub begins_plays : (A : Type 0) (asked : Call) (old new : Remembered)
    → IsMeeting old.calls (begun old) new
    → Plays (no_memory A) asked old new
begins_plays A asked old new h = record {
  leaves = h;
  due = λ faulty. inr refl;
  only = λ fault. absurd (memory_no_fault fault);
}

-- where others have acted who were due, some have
meeting : (asked call : Call) (is_faulty : Bool) (old mid new : Remembered)
    → Faces asked call is_faulty old mid
    → new ≡ mid → IsMeeting old.calls (begun old) new
meeting asked call is_faulty old mid new faces same =
    subst (λ (n : Remembered). IsMeeting old.calls (begun old) n) (sym (same ∙ faces.met)) (record {
      same = refl;
      due = ap (λ (l : List Action). (met_by old).waiting ++ l) (none_due old.calls old.plan)
          ∙ append-nil (met_by old).waiting;
      left = left_twice old.calls old.plan;
    })

pub waits_plays : {A : Type 0} {asked call : Call} {is_faulty : Bool} {old mid new : Remembered}
    → Faces asked call is_faulty old mid → new ≡ mid → Plays (no_memory A) asked old new
waits_plays {A} {asked} {call} {is_faulty} {old} {mid} {new} faces same =
    begins_plays A asked old new (meeting asked call is_faulty old mid new faces same)

-- By why a call is refused and what else it gives.

pub record Answers {A : Type 0} (asked : Call) (wanted : List TreeNode → Result A DiskError)
    (value : List TreeNode → A) : Type 0 where
  pub is : (tree : List TreeNode) → wanted tree ≡ answer_by (refusal asked tree) (value tree)

refuses_by : {A : Type 0} (asked : Call) (wanted : List TreeNode → Result A DiskError)
    (value : List TreeNode → A)
    → Answers asked wanted value → Refuses asked wanted
refuses_by asked wanted value h tree why is =
    h.is tree ∙ ap (λ (r : Option DiskError). answer_by r (value tree)) is

-- the call is refused
pub err_step : {A : Type 0} {asked : Call} {refused : Option DiskError} {why : DiskError}
    {old new : Remembered}
    (wanted : List TreeNode → Result A DiskError) (value : List TreeNode → A)
    → Turns asked refused old new → refused ≡ Some why → Answers asked wanted value
    → MakesStep (error A why) asked wanted 0 (seen_of old) (seen_of new)
err_step {A} {asked} {refused} {why} {old} {new} wanted value t is h =
    refused_step asked refused why wanted old new t is (refuses_by asked wanted value h)

none_refusal : (b : Bool) (asked : Call) (old : Remembered)
    → None ≡ (if b then Some Fault else refusal asked (tree_now (met_by old)))
    → refusal asked (tree_now (met_by old)) ≡ None
none_refusal true asked old is = absurd (none_some Fault is)
none_refusal false asked old is = sym is

-- it is not, and then gives the value
pub granted : {A : Type 0} {asked : Call} {refused : Option DiskError} {old new : Remembered}
    (wanted : List TreeNode → Result A DiskError) (value : List TreeNode → A)
    → Turns asked refused old new → refused ≡ None → Answers asked wanted value
    → wanted (tree_now (met_by old)) ≡ Ok (value (tree_now (met_by old)))
granted {A} {asked} {refused} {old} {new} wanted value t is h =
    h.is (tree_now (met_by old))
    ∙ ap (λ (r : Option DiskError). answer_by r (value (tree_now (met_by old))))
    (none_refusal t.is_faulty asked old (sym is ∙ t.is))

pub value_step : {A : Type 0} {asked : Call} {refused : Option DiskError} {old new : Remembered}
    (result : Result A DiskError) (wanted : List TreeNode → Result A DiskError)
    (value : List TreeNode → A) (bytes : ℕ)
    → Turns asked refused old new → refused ≡ None → Answers asked wanted value
    → result ≡ Ok (value (tree_now (met_by old)))
    → bytes ≡ given (Own asked Done) (tree_now (met_by old))
    → MakesStep result asked wanted bytes (seen_of old) (seen_of new)
value_step {A} {asked} {refused} {old} {new} result wanted value bytes t is h same gives =
    subst (λ (r : Result A DiskError). MakesStep r asked wanted bytes (seen_of old) (seen_of new))
    (sym same)
    (done_step asked refused (value (tree_now (met_by old))) wanted bytes old new t is
    (sym (granted wanted value t is h)) gives)

-- The tree that a call meets.

-- by the parts of the disk
pub tree_met : (state : State) (inside mid old : Remembered) → state ≡ state_now inside
    → inside ≡ mid → mid ≡ met_by old
    → tree_of state ≡ tree_now (met_by old)
tree_met state inside mid old now view met =
    ap tree_of now ∙ ap (λ (d : Remembered). tree_now d) view
    ∙ ap (λ (d : Remembered). tree_now d) met

-- an entry that changes nothing leaves it
pub tree_now-entered : (call : Call) (disk : Remembered)
    → ((state : State) → after_done call state ≡ state)
    → tree_now (entered None call disk) ≡ tree_now disk
tree_now-entered call disk keeps =
    let own : List Entry = Own call Done ∷ [] in
    ap (λ (l : List Entry). tree_of (run_entries l (state_of disk.past.first)))
    (append-nil (disk.past.journal ++ (map Others disk.waiting ++ own))
    ∙ sym (append_assoc disk.past.journal (map Others disk.waiting) own))
    ∙ ap tree_of
    (run_entries-append (disk.past.journal ++ map Others disk.waiting) own
    (state_of disk.past.first)
    ∙ keeps (state_now disk))

-- behind a look
pub tree_left : (state : State) (inside : Remembered) (asked : Call) (refused : Option DiskError)
    (old new : Remembered)
    → state ≡ state_now inside → inside ≡ new → Turns asked refused old new → refused ≡ None
    → ((s : State) → after_done asked s ≡ s) → tree_of state ≡ tree_now (met_by old)
tree_left state inside asked refused old new now view t is keeps =
    ap tree_of now
    ∙ ap (λ (d : Remembered). tree_now d)
    (view ∙ t.entered ∙ ap (λ (r : Option DiskError). entered r asked (met_by old)) is)
    ∙ tree_now-entered asked (met_by old) keeps

-- a change gives no bytes
pub no_bytes : (call : Call) (tree : List TreeNode) → is_look call ≡ false
    → 0 ≡ given (Own call Done) tree
no_bytes (ListDir dir) tree change = refl
no_bytes (StatPath path) tree change = refl
no_bytes (ReadFront path size) tree change = absurd (cc)
no_bytes (ReadAll path limit) tree change = absurd (cc)
no_bytes (Create path) tree change = refl
no_bytes (WriteAt path at piece) tree change = refl
no_bytes (Cut path size) tree change = refl
no_bytes (Sync path) tree change = refl
no_bytes (Rename from to) tree change = refl
no_bytes (Remove path) tree change = refl
no_bytes (SyncDir dir) tree change = refl
no_bytes (MakeDir path) tree change = refl
