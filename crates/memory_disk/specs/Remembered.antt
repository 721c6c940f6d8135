-- What contracts see of a disk in memory.
use Rattle.std.specs.Prelude.{◌≡◌, ◌≤◌, ◌+◌, ◌^◌, ◌⊎◌, ◌++◌, ◌∷◌, [], ℕ, List, Option, Some, None}
use Rattle.std.specs.Prelude.{Result, Ok, Err, Bool, true, map, length, Contains, IsErrOf, IsTrue}
use Rattle.std.specs.Prelude.{◌↔◌, if◌then◌else◌}
use Rattle.mail_base.specs.Faults.{Rose}
use Rattle.disk_model.specs.Tree.{TreeNode, is_first_tree, stamped}
use Rattle.disk_model.specs.Journal.{Action, Answer, Call, Done, Entry, Others, Own, Past, Refused}
use Rattle.disk_model.specs.State.{State, first_clock, run_entries, state_of, tree_of}
use Rattle.disk_model.specs.Reading.{bytes_given}
use Rattle.disk_model.specs.Lawful.{AreLawful, is_text}
use Rattle.disk_model.specs.Refusals.{refusal}
use Rattle.disk_model.specs.Seen.{Seen}
use Rattle.disk_model.specs.Counts.{counted_up, faulted}
use Rattle.disk_model.specs.declared.answers.DiskError.{DiskError}
use Rattle.disk_model.specs.declared.answers.DiskError.TheVariants.{Fault, NoMemory}
use Rattle.disk_state.specs.Plain.{answer_by_refusal}
use Rattle.memory_disk.specs.Plan.{Planned, due, in_order, left}

-- A disk in memory: its past, what others have done since, what they have still to do, which calls
-- fail, the call from which on all fail, and the calls and the faults so far.
pub record Remembered : Type 0 where
  pub past : Past
  pub waiting : List Action
  pub plan : List Planned
  pub fails : List ℕ
  pub stop : Option ℕ
  pub calls : ℕ
  pub faults : ℕ

-- what it tells as a disk
abbrev pub seen_of : Remembered → Seen
seen_of disk =
    record {
      told = Some disk.past;
      marks = length disk.past.journal;
      faults = disk.faults;
      bytes_read = Some (bytes_given disk.past.journal (state_of disk.past.first));
    }

-- the state that the next call meets, when no others act before it
abbrev pub state_now : Remembered → State
state_now disk =
    run_entries (disk.past.journal ++ map Others disk.waiting) (state_of disk.past.first)

-- its tree
abbrev pub tree_now : Remembered → List TreeNode
tree_now disk = tree_of (state_now disk)

-- What is kept is sound: a first tree with its clock, its state now, and a lawful journal.
pub record IsSound (first : List TreeNode) (clock : ℕ) (journal : List Entry)
    (waiting : List Action) (state : State)
    : Type 0 where
  pub tree : is_first_tree first ≡ true
  pub begins : clock ≡ first_clock first
  pub now : state ≡ run_entries (journal ++ map Others waiting) (state_of first)
  pub lawful : AreLawful journal (state_of first)
  pub small : clock ≤ 2 ^ 64
  pub later : state.clock ≤ 2 ^ 64 + (length journal + length waiting)

-- Calls that fail.

-- the calls from this one on
abbrev pub IsStopped : Option ℕ → ℕ → Type 0
IsStopped None call = ⊥
IsStopped (Some stop) call = stop ≤ call

-- this call is to fail
abbrev pub IsFaulty : Remembered → Type 0
IsFaulty disk = Contains disk.fails disk.calls ⊎ IsStopped disk.stop disk.calls

-- Steps.

-- a call has begun
abbrev pub begun : Remembered → Remembered
begun disk = record disk { calls = counted_up disk.calls }

-- all others have acted who are due at a call
abbrev pub met : ℕ → Remembered → Remembered
met call disk =
    record disk { waiting = disk.waiting ++ due call disk.plan; plan = left call disk.plan }

-- some of them have acted
pub record IsMeeting (call : ℕ) (old new : Remembered) : Type 0 where
  pub same : new ≡ record old { waiting = new.waiting; plan = new.plan }
  pub due : new.waiting ++ due call new.plan ≡ old.waiting ++ due call old.plan
  pub left : left call new.plan ≡ left call old.plan

-- The call is at its turn, and all others have acted who were due.
pub record Faces (asked call : Call) (is_faulty : Bool) (old new : Remembered) : Type 0 where
  pub same_call : call ≡ asked
  pub text : is_text call ≡ true
  pub faulty : IsTrue is_faulty ↔ IsFaulty old
  pub met : new ≡ met old.calls (begun old)

-- the answer in the journal of a call with this result
abbrev pub answer_of : {A : Type 0} → Result A DiskError → Answer
answer_of (Ok value) = Done
answer_of (Err why) = Refused why 0

-- a call was answered so, by the state that it met
abbrev pub answered : {A : Type 0} → Result A DiskError → Call → Remembered → Remembered
answered result call disk =
    record disk {
      past = record disk.past {
        journal =
            disk.past.journal ++ (map Others disk.waiting ++ Own call (answer_of result) ∷ []);
      };
      waiting = [];
      faults = faulted result disk.faults;
    }

-- the faults after a call that was refused so, or not
abbrev pub faults_by : Option DiskError → ℕ → ℕ
faults_by None count = count
faults_by (Some why) count = faulted {A = Unit {0}} (Err why) count

-- the entries are made of those who acted and of a call that was refused so, or not
abbrev pub entered : Option DiskError → Call → Remembered → Remembered
entered refused call disk =
    record disk {
      past = record disk.past {
        journal =
            disk.past.journal
            ++ (map Others disk.waiting ++ Own call (answer_by_refusal refused) ∷ []);
      };
      waiting = [];
      faults = faults_by refused disk.faults;
    }

-- The call was answered: by a fault where it is to fail, and else as the tree asks for.
pub record Settles (refused : Option DiskError) (is_faulty : Bool) (call : Call)
    (old new : Remembered) : Type 0 where
  pub is : refused ≡ (if is_faulty then Some Fault else refusal call (tree_now old))
  pub entered : new ≡ entered refused call old
  pub faults : old.faults ≤ new.faults
  pub cause : refused ≡ Some Fault → Rose old.faults new.faults

-- what a call with this result leaves: for want of memory no more than that others may have acted
-- already
abbrev pub Leaves : {A : Type 0} → Result A DiskError → Call → Remembered → Remembered → Type 0
Leaves (Err NoMemory) call old new = IsMeeting old.calls (begun old) new
Leaves result call old new = new ≡ answered result call (met old.calls (begun old))

-- What every call of a disk in memory does: it fails exactly where it is to fail.
pub record Plays {A : Type 0} (result : Result A DiskError) (call : Call)
    (old new : Remembered) : Type 0 where
  pub leaves : Leaves result call old new
  pub due : IsFaulty old → IsErrOf result Fault ⊎ IsErrOf result NoMemory
  pub only : IsErrOf result Fault → IsFaulty old

-- a disk of this tree
abbrev pub new_disk : List TreeNode → List Planned → List ℕ → Option ℕ → Remembered
new_disk tree script fails stop =
    record {
      past = record { first = stamped 1 tree; journal = [] };
      waiting = [];
      plan = in_order script;
      fails = fails;
      stop = stop;
      calls = 0;
      faults = 0;
    }
