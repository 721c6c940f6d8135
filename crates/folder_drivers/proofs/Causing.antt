-- Why a call that makes a folder or adds to it was refused.
use Rattle.std.proofs.Common.{◌≡◌, ◌∙◌, ℕ, Bool, true, false, List}
use Rattle.std.proofs.Common.{Option, Some, None, Result, Ok, Err, ap, codes, inl, inr}
use Rattle.std.proofs.Common.{length, refl, subst, sym}
use Rattle.std.proofs.lemmas.Slice.Eq.{bytes_eq-Decides}
use Rattle.std.specs.Prelude.{IfErr}
use Rattle.std.specs.Result.{IsErrAnd}
use Rattle.std.specs.Str.{bytes_eq}
use Rattle.disk_model.specs.Journal.{Call, MakeDir, Past}
use Rattle.disk_model.specs.Judge.{GoesOn, IsLonger, StepBy}
use Rattle.disk_model.specs.Tree.{TreeNode, folder_of}
use Rattle.disk_model.specs.declared.answers.DiskError.{DiskError}
use Rattle.disk_model.specs.declared.answers.DiskError.TheVariants as disk
use Rattle.folder_core.specs.Directory.{path_in}
use Rattle.folder_core.specs.Maildir.{directory}
use Rattle.folder_core.proofs.NamesIn.{path_is_in}
use Rattle.folder_changes.specs.Calls.{GoesBy}
use Rattle.folder_changes.specs.Refused.{IsBetween, StepRefused, refused_by, refuses}
use Rattle.folder_changes.specs.declared.sync_error.SyncError.{SyncError}
use Rattle.folder_changes.specs.declared.sync_error.SyncError.TheVariants.{Changed, Fault, Locked}
use Rattle.folder_changes.specs.declared.sync_error.SyncError.TheVariants.{NoMemory, NotFolder}
use Rattle.folder_changes.specs.declared.sync_error.SyncError.TheVariants.{TooLarge, TooMany}
use Rattle.folder_changes.specs.declared.sync_error.SyncError.TheVariants.{Unfinished}
use Rattle.folder_changes.proofs.TraceLemmas.{IsUnmade, asked_by, between_as, between_call}
use Rattle.folder_changes.proofs.TraceLemmas.{between_earlier, met_asked, met_step}
use Rattle.folder_changes.proofs.TraceLemmas.{refused_as, refused_earlier}
use Rattle.folder_drivers.specs.MaildirAppend.{MaildirAppendRefused}
use Rattle.folder_drivers.specs.Refusing.{RefusedFor}
use Rattle.folder_drivers.proofs.NodeLemmas.{Unmakes, folder_unmade, made_keeps, made_leaves}
use Rattle.folder_drivers.proofs.NodeLemmas.{make_unmade}
use Rattle.disk_model.specs.Names.{name_of}
use Rattle.disk_model.specs.State.{after_entry, tree_of}
use Rattle.disk_model.specs.Journal.{Own}

-- One call that was refused.

module _ (Needs : Call → Type 0) where
  -- a refusal whose cause is told is told of a longer past
  pub for_as : (Other : Call → Type 0) (e : SyncError) (m n k l : ℕ) (past last : Past)
      → (StepRefused Needs m n past → StepRefused Other k l last)
      → RefusedFor Needs e m n past → RefusedFor Other e k l last
  for_as Other NotFolder m n k l past last turns cause = turns cause
  for_as Other Fault m n k l past last turns cause = tt
  for_as Other NoMemory m n k l past last turns cause = tt
  for_as Other (Changed spot) m n k l past last turns cause = cause
  for_as Other Locked m n k l past last turns cause = cause
  for_as Other Unfinished m n k l past last turns cause = cause
  for_as Other (TooMany count) m n k l past last turns cause = cause
  for_as Other (TooLarge bytes) m n k l past last turns cause = cause

  -- what a refused call makes of the folder
  step_for : {A : Type 0} (value : List TreeNode → A) (why : DiskError) (call : Call) (p q : Past)
      → Needs call → StepBy {A = A} (Err why) call (asked_by call value) p q
      → RefusedFor Needs (refused_by why) (length p.journal) (length q.journal) q
  step_for value disk.Missing call p q needs step = met_step Needs disk.Missing call p q needs
      (met_asked value disk.Missing call p q tt step)
  step_for value disk.WrongNode call p q needs step = met_step Needs disk.WrongNode call p q needs
      (met_asked value disk.WrongNode call p q tt step)
  step_for value disk.Exists call p q needs step = met_step Needs disk.Exists call p q needs
      (met_asked value disk.Exists call p q tt step)
  step_for value (disk.Long size) call p q needs step =
      met_step Needs (disk.Long size) call p q needs
      (met_asked value (disk.Long size) call p q tt step)
  step_for value disk.Fault call p q needs step = tt
  step_for value disk.NoMemory call p q needs step = tt

  pub call_for : {A : Type 0} (value : List TreeNode → A) (why : DiskError) (call : Call)
      (e : SyncError) (old new : Option Past) → Needs call → e ≡ refused_by why
      → GoesOn (StepBy {A = A} (Err why) call (asked_by call value)) old new
      → IsBetween (RefusedFor Needs e) old new
  call_for {A} value why call e old new needs is step =
      subst (λ (w : SyncError). IsBetween (RefusedFor Needs w) old new) (sym is)
      (between_call (StepBy {A = A} (Err why) call (asked_by call value))
      (RefusedFor Needs (refused_by why)) old new
      (λ p q s. step_for value why call p q needs s) step)

  -- the same of a refusal that is handed on
  pub call_if : {A T : Type 0} (value : List TreeNode → A) (why : DiskError) (call : Call)
      (result : Result T SyncError) (old new : Option Past) → Needs call
      → IsErrAnd result (λ e. e ≡ refused_by why)
      → GoesOn (StepBy {A = A} (Err why) call (asked_by call value)) old new
      → IfErr result (λ e. IsBetween (RefusedFor Needs e) old new)
  call_if value why call (Ok given) old new needs is step = tt
  call_if value why call (Err e) old new needs is step =
      call_for value why call e old new needs is step

  told_none : (old new : Option Past) → IsBetween (RefusedFor Needs NoMemory) old new
  told_none None new = tt
  told_none (Some old) None = tt
  told_none (Some old) (Some new) = tt

  -- memory ran out
  pub memory_for : (e : SyncError) (old new : Option Past) → e ≡ NoMemory
      → IsBetween (RefusedFor Needs e) old new
  memory_for e old new is =
      subst (λ (w : SyncError). IsBetween (RefusedFor Needs w) old new) (sym is)
      (told_none old new)

  pub memory_if : {T : Type 0} (result : Result T SyncError) (old new : Option Past)
      → IsErrAnd result (λ e. e ≡ NoMemory)
      → IfErr result (λ e. IsBetween (RefusedFor Needs e) old new)
  memory_if (Ok given) old new is = tt
  memory_if (Err e) old new is = memory_for e old new is

-- a cause that is told behind an earlier part, whose calls do not bring it about
pub for_earlier : (Is Needs Other : Call → Type 0) (e : SyncError) (old mid new : Option Past)
    → ((call : Call) → Needs call → IsUnmade Is (refuses call))
    → ((call : Call) → Needs call → Other call)
    → GoesOn (GoesBy Is) old mid → GoesOn IsLonger mid new
    → IsBetween (RefusedFor Needs e) mid new → IsBetween (RefusedFor Other e) old new
for_earlier Is Needs Other e old mid new unmade turns calls on cause =
    between_earlier (GoesBy Is) (RefusedFor Needs e) (RefusedFor Other e) old mid new
    (λ p q r goes more c. for_as Needs Other e (length q.journal) (length r.journal)
    (length p.journal) (length r.journal) r r
    (λ refused. refused_as Needs Other (length p.journal) (length r.journal) r turns
    (refused_earlier Is Needs p q r (length r.journal) unmade goes more refused)) c) calls on cause

-- the same of what a part answers
pub for_result : {T : Type 0} (result : Result T SyncError) (Is Needs Other : Call → Type 0)
    (old mid new : Option Past)
    → ((call : Call) → Needs call → IsUnmade Is (refuses call))
    → ((call : Call) → Needs call → Other call)
    → GoesOn (GoesBy Is) old mid → GoesOn IsLonger mid new
    → IfErr result (λ e. IsBetween (RefusedFor Needs e) mid new)
    → IfErr result (λ e. IsBetween (RefusedFor Other e) old new)
for_result (Ok given) Is Needs Other old mid new unmade turns calls on cause = tt
for_result (Err e) Is Needs Other old mid new unmade turns calls on cause =
    for_earlier Is Needs Other e old mid new unmade turns calls on cause

-- one kind of calls for another
pub for_others : (Needs Other : Call → Type 0) (e : SyncError) (old new : Option Past)
    → ((call : Call) → Needs call → Other call) → IsBetween (RefusedFor Needs e) old new
    → IsBetween (RefusedFor Other e) old new
for_others Needs Other e old new turns cause =
    between_as (RefusedFor Needs e) (RefusedFor Other e) old new
    (λ m n past c. for_as Needs Other e m n m n past past
    (λ refused. refused_as Needs Other m n past turns refused) c) cause

-- no calls bring nothing about
pub none_unmade : (is_so : List TreeNode → Bool) → IsUnmade (λ call. ⊥) is_so
none_unmade is_so call answer state is not = absurd is

-- one call does not bring about what it leaves
pub one_unmade : (call : Call) (is_so : List TreeNode → Bool) → Unmakes call is_so
    → IsUnmade (λ other. other ≡ call) is_so
one_unmade call is_so unmakes other answer state is not =
    ap (λ (c : Call). is_so (tree_of (after_entry state (Own c answer)))) is
    ∙ unmakes answer state not
