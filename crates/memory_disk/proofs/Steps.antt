-- The steps of a disk in memory.
use Rattle.std.proofs.Common.{◌≡◌, ◌+◌, ◌++◌, ◌∷◌, ◌∙◌, [], ℕ, List, Option, Some}
use Rattle.std.proofs.Common.{Result, Ok, Err, IfErr, IsErrOf, map, refl, sym, ap, subst}
use Rattle.std.proofs.Common.{arith, append_assoc, zero-add}
use Rattle.disk_model.specs.Tree.{TreeNode}
use Rattle.disk_model.specs.Journal.{Action, Answer, Call, Done, Entry, Own, Others, Past}
use Rattle.disk_model.specs.State.{State, after_entry, run_entries, state_of}
use Rattle.disk_model.specs.Reading.{bytes_given, given}
use Rattle.disk_model.specs.Seen.{Seen}
use Rattle.disk_model.specs.Answers.{IsErrorOf}
use Rattle.disk_model.specs.Judge.{Called, Counted, GoesOn, IsAnswer, IsJudged, MakesStep, OneStep}
use Rattle.disk_model.specs.Judge.{Raises, StepBy}
use Rattle.disk_model.specs.declared.answers.DiskError.{DiskError}
use Rattle.disk_model.specs.declared.answers.DiskError.TheVariants.{Missing, WrongNode, Exists}
use Rattle.disk_model.specs.declared.answers.DiskError.TheVariants.{Long, Fault, NoMemory}
use Rattle.disk_model.proofs.Looking.{grows_same}
use Rattle.disk_model.proofs.Runs.{bytes_given-append}
use Rattle.memory_disk.specs.Remembered.{IsMeeting, Leaves, Remembered, answer_of, answered, begun}
use Rattle.memory_disk.specs.Remembered.{met, seen_of, tree_now}

-- others give no bytes
others_give : (actions : List Action) (state : State) → bytes_given (map Others actions) state ≡ 0
others_give [] state = refl
others_give (action ∷ actions) state =
    zero-add (bytes_given (map Others actions) (after_entry state (Others action)))
    ∙ others_give actions (after_entry state (Others action))

-- the bytes of a call are those of its own entry
own_gives : (disk : Remembered) (call : Call) (answer : Answer)
    → bytes_given (disk.past.journal ++ (map Others disk.waiting ++ Own call answer ∷ []))
    (state_of disk.past.first)
    ≡ bytes_given disk.past.journal (state_of disk.past.first) + given (Own call answer)
    (tree_now disk)
own_gives disk call answer =
    let own : List Entry = Own call answer ∷ [] in
    let acted : List Entry = disk.past.journal ++ map Others disk.waiting in
    let first : State = state_of disk.past.first in
    ap (λ (l : List Entry). bytes_given l first)
    (sym (append_assoc disk.past.journal (map Others disk.waiting) own))
    ∙ (omega (
      arith,
      bytes_given-append acted own first,
      bytes_given-append disk.past.journal (map Others disk.waiting) first,
      others_give disk.waiting (run_entries disk.past.journal first),
    ))

-- the call is answered by the state that it met
one_step : {A : Type 0} (result : Result A DiskError) (call : Call)
    (wanted : List TreeNode → Result A DiskError)
    (disk : Remembered) → IsAnswer call result (answer_of result)
    → IsJudged result (wanted (tree_now disk))
    → OneStep result call wanted disk.past (answered result call disk).past
one_step result call wanted disk is judged = record {
  same_first = refl;
  actions = disk.waiting;
  answer = answer_of result;
  journal = refl;
  answered = is;
  judged = judged;
}

-- an answer for want of memory
abbrev pub no_memory : (A : Type 0) → Result A DiskError
no_memory A = Err NoMemory

memory_no_fault : {A : Type 0} → IsErrOf (no_memory A) Fault → ⊥
memory_no_fault e = cc

-- What a call gives that was answered so.
abbrev pub IsGiven : {A : Type 0} → Result A DiskError → Call → List TreeNode → ℕ → Type 0
IsGiven (Err why) call tree bytes = bytes ≡ 0
IsGiven (Ok value) call tree bytes = bytes ≡ given (Own call Done) tree

-- an answer other than want of memory
made_step : {A : Type 0} (result : Result A DiskError) (call : Call)
    (wanted : List TreeNode → Result A DiskError)
    (bytes : ℕ) (disk new : Remembered) → new ≡ answered result call disk
    → OneStep result call wanted disk.past (answered result call disk).past
    → Called result call wanted (Some disk.past) (Some (answered result call disk).past)
    → Counted result (seen_of disk) (seen_of new) → IfErr result (IsErrorOf call)
    → bytes ≡ given (Own call (answer_of result)) (tree_now disk)
    → MakesStep result call wanted bytes (seen_of disk) (seen_of new)
made_step result call wanted bytes disk new is step called counts errors gives =
    subst (λ (n : Remembered). Counted result (seen_of disk) (seen_of n)
    → MakesStep result call wanted bytes (seen_of disk) (seen_of n)) (sym is)
    (λ (counted : Counted result (seen_of disk) (seen_of (answered result call disk))). record {
      called = called;
      grows = record {
        same_first = refl;
        more = map Others disk.waiting ++ Own call (answer_of result) ∷ [];
        journal = refl;
      };
      counts = counted;
      reads = own_gives disk call (answer_of result)
          ∙ ap (λ (n : ℕ). bytes_given disk.past.journal (state_of disk.past.first) + n)
          (sym gives);
      errors = errors;
    }) counts

-- want of memory: nothing is seen of those who acted
unseen : (old new : Remembered) → IsMeeting old.calls (begun old) new → seen_of new ≡ seen_of old
unseen old new h = ap seen_of h.same

no_step : {A : Type 0} (call : Call) (wanted : List TreeNode → Result A DiskError) (old : Seen)
    (past : Past)
    (read : ℕ) → old.told ≡ Some past → old.bytes_read ≡ Some read
    → IfErr (no_memory A) (IsErrorOf call)
    → MakesStep (no_memory A) call wanted 0 old old
no_step call wanted old past read told reads errors = record {
  called = record {
    goes = subst (λ (t : Option Past). GoesOn (StepBy (no_memory _) call wanted) t t) (sym told)
        refl;
  };
  grows = grows_same old.told;
  counts = record
      { marks = omega arith; faults = omega arith; cause = λ no. absurd (memory_no_fault no) };
  reads = subst (λ (t : Option ℕ). Raises t t 0) (sym reads) (omega arith);
  errors = errors;
}

pub memory_step : {A : Type 0} (call : Call) (wanted : List TreeNode → Result A DiskError)
    (old new : Remembered)
    → IsMeeting old.calls (begun old) new → IfErr (no_memory A) (IsErrorOf call)
    → MakesStep (no_memory A) call wanted 0 (seen_of old) (seen_of new)
memory_step {A} call wanted old new h errors =
    subst (λ (s : Seen). MakesStep (no_memory A) call wanted 0 (seen_of old) s)
    (sym (unseen old new h))
    (no_step call wanted (seen_of old) old.past _ refl refl errors)

pub makes_step : {A : Type 0} (result : Result A DiskError) (call : Call)
    (wanted : List TreeNode → Result A DiskError)
    (bytes : ℕ) (old new : Remembered) → Leaves result call old new
    → IsJudged result (wanted (tree_now (met old.calls (begun old))))
    → Counted result (seen_of old) (seen_of new) → IfErr result (IsErrorOf call)
    → IsGiven result call (tree_now (met old.calls (begun old))) bytes
    → MakesStep result call wanted bytes (seen_of old) (seen_of new)
makes_step (Ok value) call wanted bytes old new h judged counts errors gives =
    let step = one_step (Ok value) call wanted (met old.calls (begun old)) refl judged in
    made_step (Ok value) call wanted bytes (met old.calls (begun old)) new h step
    (record { goes = step }) counts errors
    gives
makes_step (Err Missing) call wanted bytes old new h judged counts errors gives =
    let step = one_step (Err Missing) call wanted (met old.calls (begun old)) refl judged in
    made_step (Err Missing) call wanted bytes (met old.calls (begun old)) new h step
    (record { goes = step }) counts
    errors gives
makes_step (Err WrongNode) call wanted bytes old new h judged counts errors gives =
    let step = one_step (Err WrongNode) call wanted (met old.calls (begun old)) refl judged in
    made_step (Err WrongNode) call wanted bytes (met old.calls (begun old)) new h step
    (record { goes = step }) counts
    errors gives
makes_step (Err Exists) call wanted bytes old new h judged counts errors gives =
    let step = one_step (Err Exists) call wanted (met old.calls (begun old)) refl judged in
    made_step (Err Exists) call wanted bytes (met old.calls (begun old)) new h step
    (record { goes = step }) counts
    errors gives
makes_step (Err (Long size)) call wanted bytes old new h judged counts errors gives =
    let step = one_step (Err (Long size)) call wanted (met old.calls (begun old)) refl judged in
    made_step (Err (Long size)) call wanted bytes (met old.calls (begun old)) new h step
    (record { goes = step }) counts
    errors gives
makes_step (Err Fault) call wanted bytes old new h judged counts errors gives =
    let step =
    one_step (Err Fault) call wanted (met old.calls (begun old)) (0, refl, omega arith) tt in
    made_step (Err Fault) call wanted bytes (met old.calls (begun old)) new h step
    (record { goes = step }) counts errors
    gives
makes_step {A} (Err NoMemory) call wanted bytes old new h judged counts errors gives =
    subst (λ (n : ℕ). MakesStep (no_memory A) call wanted n (seen_of old) (seen_of new)) (sym gives)
    (memory_step call wanted old new h errors)
