-- Parts of a call that writes, one behind another.
use Rattle.std.proofs.Common.{◌≡◌, Option, Some, None, Result, Ok, Err, ap, arith}
use Rattle.std.specs.Prelude.{IsErrOf}
use Rattle.mail_base.specs.Faults.{Rose}
use Rattle.disk_model.specs.Journal.{Past}
use Rattle.disk_model.specs.Looking.{OnlyLooks}
use Rattle.disk_model.specs.Seen.{Seen}
use Rattle.disk_model.proofs.Looking.{grows_then, looks_grows, looks_same}
use Rattle.folder_core.proofs.SeenLemmas.{goes_as, rose_later}
use Rattle.folder_core.specs.declared.error.ScanError.{ScanError}
use Rattle.folder_core.specs.declared.error.ScanError.TheVariants.{Fault as ScanFault}
use Rattle.folder_changes.specs.Refused.{IsBetween, Untold}
use Rattle.folder_changes.specs.Serving.{Serves}
use Rattle.folder_changes.specs.declared.sync_error.SyncError.{SyncError}
use Rattle.folder_changes.specs.declared.sync_error.SyncError.TheVariants.{Fault}

ok_err : ◌≡◌ {A = Result (Unit {0}) SyncError} (Ok tt) (Err Fault) → ⊥
ok_err e = cc

-- of a cause of which nothing is told there is nothing to show
pub untold : (old new : Option Past) → IsBetween Untold old new
untold None new = tt
untold (Some old) None = tt
untold (Some old) (Some new) = tt

-- nothing was called
pub serves_first : (seen : Seen) → Serves {A = Unit {0}} (Ok tt) seen seen
serves_first seen = record {
  grows = goes_as seen.told seen.told (λ p q looked. record {
    same_first = looked.same_first;
    more = looked.more;
    journal = looked.journal;
  }) (looks_same seen.told);
  marks = omega arith;
  faults = omega arith;
  cause = λ is. absurd (ok_err is);
}

-- what a part keeps, and the one behind it, both keep
pub serves_then : {A B : Type 0} (done : A) (result : Result B SyncError) (old mid new : Seen)
    → Serves (Ok done) old mid → Serves result mid new → Serves result old new
serves_then done result old mid new first next = record {
  grows = grows_then old.told mid.told new.told first.grows next.grows;
  marks = omega (arith, first.marks, next.marks);
  faults = omega (arith, first.faults, next.faults);
  cause = λ is. rose_later old.faults mid.faults new.faults first.faults (next.cause is);
}

-- A step does what is wanted of one message.

-- a part that only looked
pub serves_looked : {A : Type 0} (result : Result A SyncError) (old new : Seen) → OnlyLooks old new
    → (IsErrOf result Fault → Rose old.faults new.faults) → Serves result old new
serves_looked result old new only cause = record {
  grows = looks_grows old.told new.told only.looks;
  marks = only.marks;
  faults = only.faults;
  cause = cause;
}

err_same : {A : Type 0} (a b : SyncError) → ◌≡◌ {A = Result A SyncError} (Err a) (Err b) → a ≡ b
err_same a b e = cc

-- looks that were refused
pub serves_unlisted : {A : Type 0} (why : ScanError) (told : SyncError)
    (old new : Seen) → OnlyLooks old new
    → (told ≡ Fault → why ≡ ScanFault)
    → (IsErrOf {T = A} {E = ScanError} (Err why) ScanFault → Rose old.faults new.faults)
    → Serves {A = A} (Err told) old new
serves_unlisted {A} why told old new only fault cause =
    serves_looked {A = A} (Err told) old new only
    (λ is. cause (ap Err (fault (err_same {A = A} told Fault is))))
