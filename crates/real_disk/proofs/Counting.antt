-- What a counted call is to a disk that tells no tree.
use Rattle.std.proofs.Common.{◌≡◌, ℕ, List, Result, Ok, Err, IfErr, refl}
use Rattle.mail_base.specs.Series.{Held}
use Rattle.disk_model.specs.Seen.{Seen}
use Rattle.disk_model.specs.Tree.{TreeNode}
use Rattle.disk_model.specs.Journal.{Call}
use Rattle.disk_model.specs.Answers.{IsErrorOf}
use Rattle.disk_model.specs.Judge.{Counted, MakesStep, plain_front, plain_list, plain_read}
use Rattle.disk_model.specs.declared.answers.DiskError.{DiskError}
use Rattle.disk_model.specs.declared.answers.Stat.{Stat}
use Rattle.disk_model.specs.declared.answers.DiskError.TheVariants.{Fault}
use Rattle.disk_model.specs.declared.answers.FileRead.{FileRead}
use Rattle.real_disk.specs.Real.{Tally, untold}

pub makes_step : {A : Type 0} {result : Result A DiskError} {call : Call}
    {wanted : List TreeNode → Result A DiskError}
    {bytes : ℕ} {old new : Tally} → Counted result (untold old) (untold new)
    → IfErr result (IsErrorOf call)
    → MakesStep result call wanted bytes (untold old) (untold new)
makes_step {result} {call} {wanted} {bytes} {old} {new} counts errors =
    record {
      called = record { goes = refl };
      grows = refl;
      counts = counts;
      reads = refl;
      errors = errors;
    }

-- The same of answers that are told as plain values.

no_fault : {A : Type 0} (value : A) → ◌≡◌ {A = Result A DiskError} (Ok value) (Err Fault) → ⊥
no_fault value e = cc

counts_ok : {A B : Type 0} (given : A) (plain : B) (old new : Seen) → Counted (Ok given) old new
    → Counted (Ok plain) old new
counts_ok given plain old new counts =
    record {
      marks = counts.marks;
      faults = counts.faults;
      cause = λ no. absurd (no_fault plain no);
    }

fault_of : {B : Type 0} (why : DiskError) → ◌≡◌ {A = Result B DiskError} (Err why) (Err Fault)
    → why ≡ Fault
fault_of why e = cc

err_of : {A : Type 0} (why : DiskError) → why ≡ Fault
    → ◌≡◌ {A = Result A DiskError} (Err why) (Err Fault)
err_of why e = cc

counts_err : {A B : Type 0} (why : DiskError) (old new : Seen) → Counted {A = A} (Err why) old new
    → Counted {A = B} (Err why) old new
counts_err why old new counts = record {
  marks = counts.marks;
  faults = counts.faults;
  cause = λ no. counts.cause (err_of why (fault_of why no));
}

pub lists_step : {result : Result (Held (Held ℕ)) DiskError} {call : Call}
    {wanted : List TreeNode → Result (List (List ℕ)) DiskError} {old new : Tally}
    → Counted result (untold old) (untold new) → IfErr result (IsErrorOf call)
    → MakesStep (plain_list result) call wanted 0 (untold old) (untold new)
lists_step {result = Ok names} counts errors = makes_step (counts_ok _ _ _ _ counts) tt
lists_step {result = Err why} counts errors = makes_step (counts_err why _ _ counts) errors

pub fronts_step : {result : Result ℕ DiskError} (into : List ℕ) {call : Call}
    {wanted : List TreeNode → Result (List ℕ) DiskError} {bytes : ℕ} {old new : Tally}
    → Counted result (untold old) (untold new) → IfErr result (IsErrorOf call)
    → MakesStep (plain_front result into) call wanted bytes (untold old) (untold new)
fronts_step {result = Ok count} into counts errors = makes_step (counts_ok _ _ _ _ counts) tt
fronts_step {result = Err why} into counts errors = makes_step (counts_err why _ _ counts) errors

pub reads_step : {result : Result FileRead DiskError} {call : Call}
    {wanted : List TreeNode → Result (Stat × List ℕ) DiskError} {bytes : ℕ} {old new : Tally}
    → Counted result (untold old) (untold new) → IfErr result (IsErrorOf call)
    → MakesStep (plain_read result) call wanted bytes (untold old) (untold new)
reads_step {result = Ok read} counts errors = makes_step (counts_ok _ _ _ _ counts) tt
reads_step {result = Err why} counts errors = makes_step (counts_err why _ _ counts) errors
