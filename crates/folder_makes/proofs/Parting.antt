-- Parts of the making of a folder, one behind the other.
use Rattle.std.proofs.Common.{◌≡◌, ℕ, List, Result, Ok, Err, ap, arith, refl, subst, sym}
use Rattle.std.specs.Prelude.{IfErr}
use Rattle.disk_model.specs.Journal.{Call, Create, Cut, ListDir, MakeDir, ReadAll, ReadFront}
use Rattle.disk_model.specs.Journal.{Remove}
use Rattle.disk_model.specs.Journal.{Rename, StatPath, Sync, SyncDir, WriteAt}
use Rattle.disk_model.specs.Judge.{MakesStep}
use Rattle.disk_model.specs.Seen.{Seen}
use Rattle.disk_model.specs.Tree.{TreeNode}
use Rattle.disk_model.specs.declared.answers.DiskError.{DiskError}
use Rattle.disk_model.specs.declared.answers.DiskError.TheVariants as disk
use Rattle.folder_core.proofs.SeenLemmas.{rose_later}
use Rattle.folder_changes.specs.Refused.{IsBetween, refused_by}
use Rattle.folder_changes.specs.declared.sync_error.SyncError.{SyncError}
use Rattle.folder_changes.specs.declared.sync_error.SyncError.TheVariants.{Fault, NoMemory}
use Rattle.folder_changes.proofs.TraceLemmas.{asked_by}
use Rattle.folder_drivers.specs.Making.{MakeErrors}
use Rattle.folder_drivers.proofs.Refusing.{blamed_now}
use Rattle.folder_makes.specs.Parts.{IsAt, IsKeep, IsMaking, IsPart, NeedsKept, Nowhere}
use Rattle.folder_makes.proofs.Calling.{IsFresh, IsQuiet, by_as, by_call, by_grows, by_none}
use Rattle.folder_makes.proofs.Calling.{by_then, goes_by}
use Rattle.folder_makes.proofs.Calling.{unmade}
use Rattle.folder_drivers.specs.Refusing.{IsAny, IsMake, RefusedFor}
use Rattle.folder_drivers.proofs.Causing.{call_for, for_others, for_result, memory_for}

may_refuse : (why : DiskError) → MakeErrors (refused_by why)
may_refuse disk.Missing = tt
may_refuse disk.WrongNode = tt
may_refuse disk.Exists = tt
may_refuse (disk.Long size) = tt
may_refuse disk.Fault = tt
may_refuse disk.NoMemory = tt

ok_no_fault : {A : Type 0} (v : A) (e : SyncError)
    → ◌≡◌ {A = Result A SyncError} (Ok v) (Err e) → ⊥
ok_no_fault v e is = cc

err_same : {A : Type 0} (d e : SyncError) → ◌≡◌ {A = Result A SyncError} (Err d) (Err e) → d ≡ e
err_same d e is = cc

memory_no_fault : ◌≡◌ {A = SyncError} NoMemory Fault → ⊥
memory_no_fault is = cc

module _ (D F : List ℕ → Type 0) (Needs : Call → Type 0) where
  -- a call was done, or what it was refused for is no matter
  pub part_met : {A T : Type 0} (given : A) (result : Result T DiskError) {call : Call}
      {wanted : List TreeNode → Result T DiskError} {bytes : ℕ} {old new : Seen}
      → IsMaking D F call → MakesStep result call wanted bytes old new
      → IsPart D F Needs {A = A} (Ok given) old new
  part_met given result is step = record {
    calls = by_call D F result is step.called;
    marks = step.counts.marks;
    faults = step.counts.faults;
    cause = λ fault. absurd (ok_no_fault given Fault fault);
    errors = tt;
    refused = tt;
  }

  -- a call was refused
  pub part_refused : {A T : Type 0} (value : List TreeNode → T) (why : DiskError) (e : SyncError)
      {call : Call} {bytes : ℕ} {old new : Seen} → IsMaking D F call → Needs call
      → e ≡ refused_by why → MakesStep (Err why) call (asked_by call value) bytes old new
      → IsPart D F Needs {A = A} (Err e) old new
  part_refused {A} {T} value why e {call} {bytes} {old} {new} is needs same step = record {
    calls = by_call D F {T = T} (Err why) is step.called;
    marks = step.counts.marks;
    faults = step.counts.faults;
    cause = (blamed_now {A = A} why e same step.counts).cause;
    errors = subst MakeErrors (sym same) (may_refuse why);
    refused = call_for Needs value why call e old.told new.told needs same step.called.goes;
  }

  -- memory ran out
  pub part_memory : {A : Type 0} (seen : Seen) → IsPart D F Needs {A = A} (Err NoMemory) seen seen
  part_memory {A} seen = record {
    calls = by_none D F seen.told;
    marks = omega arith;
    faults = omega arith;
    cause = λ fault. absurd (memory_no_fault (err_same {A = A} NoMemory Fault fault));
    errors = tt;
    refused = memory_for Needs NoMemory seen.told seen.told refl;
  }

-- what a part is, said of more calls
pub part_as : (D F E G : List ℕ → Type 0) (Needs Others : Call → Type 0) {A : Type 0}
    (result : Result A SyncError) {old new : Seen} → ((p : List ℕ) → D p → E p)
    → ((p : List ℕ) → F p → G p) → ((call : Call) → Needs call → Others call)
    → IsPart D F Needs result old new → IsPart E G Others result old new
part_as D F E G Needs Others result {old} {new} dirs files turns part = record {
  calls = by_as D F E G dirs files part.calls;
  marks = part.marks;
  faults = part.faults;
  cause = part.cause;
  errors = part.errors;
  refused = by result part.refused;
}
  where
    by : {A : Type 0} (result : Result A SyncError)
        → IfErr result (λ why. IsBetween (RefusedFor Needs why) old.told new.told)
        → IfErr result (λ why. IsBetween (RefusedFor Others why) old.told new.told)
    by (Ok given) cause = tt
    by (Err e) cause = for_others Needs Others e old.told new.told turns cause

-- the same refusal of a part that gives something else
pub part_err : (D F : List ℕ → Type 0) (Needs : Call → Type 0) {A B : Type 0} (e : SyncError)
    {old new : Seen} → IsPart D F Needs {A = A} (Err e) old new
    → IsPart D F Needs {A = B} (Err e) old new
part_err D F Needs {A} {B} e part = record {
  calls = part.calls;
  marks = part.marks;
  faults = part.faults;
  cause = λ fault. part.cause (again (err_same {A = B} e Fault fault));
  errors = part.errors;
  refused = part.refused;
}
  where
    again : e ≡ Fault → ◌≡◌ {A = Result A SyncError} (Err e) (Err Fault)
    again is = ap Err is

-- a part that was done, and the one behind it, whose refusal the first does not bring about
pub part_then : (D F D2 F2 E G : List ℕ → Type 0) (Needs Needs2 Others : Call → Type 0)
    {A B : Type 0} (given : A) (result : Result B SyncError) {old mid new : Seen}
    → ((p : List ℕ) → D p → E p) → ((p : List ℕ) → F p → G p)
    → ((p : List ℕ) → D2 p → E p) → ((p : List ℕ) → F2 p → G p)
    → ((call : Call) → Needs2 call → IsQuiet D F call)
    → ((call : Call) → Needs2 call → Others call)
    → IsPart D F Needs (Ok given) old mid → IsPart D2 F2 Needs2 result mid new
    → IsPart E G Others result old new
part_then D F D2 F2 E G Needs Needs2 Others given result {old} {mid} {new} dirs files dirs2 files2
    quiet turns part next = record {
      calls = by_then E G (by_as D F E G dirs files part.calls)
          (by_as D2 F2 E G dirs2 files2 next.calls);
      marks = let low = next.marks in omega (arith, part.marks, low);
      faults = let low = next.faults in omega (arith, part.faults, low);
      cause = λ is. rose_later old.faults mid.faults new.faults part.faults (next.cause is);
      errors = next.errors;
      refused = for_result result (IsMaking D F) Needs2 Others old.told mid.told new.told
          (λ call needs. unmade D F call (quiet call needs)) turns
          (goes_by D F old.told mid.told part.calls) (by_grows D2 F2 mid.told new.told next.calls)
          next.refused;
    }

-- Where directories are put on the disk.

pub kept_quiet : (D : List ℕ → Type 0) (call : Call) → NeedsKept call → IsQuiet D Nowhere call
kept_quiet D (SyncDir dir) needs = λ f is. absurd is
kept_quiet D (ListDir dir) needs = absurd needs
kept_quiet D (StatPath path) needs = absurd needs
kept_quiet D (ReadFront path size) needs = absurd needs
kept_quiet D (ReadAll path limit) needs = absurd needs
kept_quiet D (Create path) needs = absurd needs
kept_quiet D (WriteAt path at piece) needs = absurd needs
kept_quiet D (Cut path size) needs = absurd needs
kept_quiet D (Sync path) needs = absurd needs
kept_quiet D (Rename from to) needs = absurd needs
kept_quiet D (Remove path) needs = absurd needs
kept_quiet D (MakeDir path) needs = absurd needs

pub keep_then : {A B : Type 0} (given : A) (result : Result B SyncError) {old mid new : Seen}
    → IsPart Nowhere Nowhere NeedsKept (Ok given) old mid
    → IsPart Nowhere Nowhere NeedsKept result mid new
    → IsPart Nowhere Nowhere NeedsKept result old new
keep_then given result part next =
    part_then Nowhere Nowhere Nowhere Nowhere Nowhere Nowhere NeedsKept NeedsKept NeedsKept given
    result (λ p is. is) (λ p is. is) (λ p is. is) (λ p is. is) (kept_quiet Nowhere)
    (λ call is. is) part next

-- Where a directory is made behind a look.

fresh_first : (path : List ℕ) → IsFresh Nowhere Nowhere path
fresh_first path = record {
  dirs = λ d is. absurd is;
  files = λ f is. absurd is;
  around = λ f is. absurd is;
}

pub look_then : {A B : Type 0} {given : A} (path : List ℕ) (result : Result B SyncError)
    {old mid new : Seen} → IsPart Nowhere Nowhere IsAny (Ok given) old mid
    → IsPart (IsAt path) Nowhere (IsMake path) result mid new
    → IsPart (IsAt path) Nowhere IsAny result old new
look_then {given = given} path result part next =
    part_then Nowhere Nowhere (IsAt path) Nowhere (IsAt path) Nowhere IsAny (IsMake path) IsAny
    given result (λ p is. absurd is) (λ p is. is) (λ p is. is) (λ p is. is)
    (λ call is. subst (IsQuiet Nowhere Nowhere) (sym is) (fresh_first path)) (λ call is. tt) part
    next

-- one directory is one of them
pub keep_part : {A : Type 0} (dir : List ℕ) (result : Result A SyncError) {old new : Seen}
    → IsPart Nowhere Nowhere (IsKeep dir) result old new
    → IsPart Nowhere Nowhere NeedsKept result old new
keep_part dir result part =
    part_as Nowhere Nowhere Nowhere Nowhere (IsKeep dir) NeedsKept result (λ p is. is) (λ p is. is)
    (λ call is. subst NeedsKept (sym is) tt) part
