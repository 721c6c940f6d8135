-- What every call keeps.
use Rattle.std.proofs.Common.{Bool, Err, List, None, Ok, Option, Result, Some, refl, ℕ, ◌≡◌, arith}
use Rattle.std.specs.Prelude.{IsErrOf}
use Rattle.mail_base.specs.Faults.{Rose}
use Rattle.disk_model.specs.Journal.{Entry, Past}
use Rattle.disk_model.specs.State.{State}
use Rattle.disk_model.specs.Judge.{Counted, Grows}
use Rattle.disk_model.specs.Seen.{Seen}
use Rattle.disk_model.specs.declared.answers.DiskError.{DiskError}
use Rattle.disk_model.specs.declared.answers.DiskError.TheVariants.{Exists, Fault as DiskFault}
use Rattle.disk_model.specs.declared.answers.DiskError.TheVariants.{Long, Missing as NotThere}
use Rattle.disk_model.specs.declared.answers.DiskError.TheVariants.{NoMemory as NoRoom, WrongNode}
use Rattle.disk_model.proofs.Looking.{grows_same}
use Rattle.folder_stops.specs.Along.{Grown}
use Rattle.folder_core.specs.declared.error.ScanError.TheVariants.{Fault as ScanFault}
use Rattle.folder_tails.specs.Serving.{Serves, scan_error, tail_error}
use Rattle.folder_tails.specs.Stages.{Leads}
use Rattle.folder_tails.specs.declared.error.TailError.TheVariants.{Fault}

pub grown_grows : (a b : Option Past) (P : State → List Entry → Type 0) → Grown a b P → Grows a b
grown_grows None b P is = is
grown_grows (Some past) None P is = absurd is
grown_grows (Some past) (Some new) P is =
    record { same_first = is.same_first; more = is.more; journal = is.journal }

pub leads_grows : {path : List ℕ} {from : ℕ} {P X Y : (List ℕ → Bool) → State → Type 0}
    {a b : Option Past} → Leads path from P a b X Y → Grows a b
leads_grows {a = a} {b = b} so_far = grown_grows a b _ so_far.grown

-- nothing was called
pub serves_none : {A E : Type 0} (fault : E) (result : Result A E) (s : Seen)
    → (IsErrOf result fault → ⊥) → Serves fault result s s
serves_none fault result s never = record {
  grows = grows_same s.told;
  marks = omega arith;
  faults = omega arith;
  cause = λ is. absurd (never is);
}

tail_cause : {B : Type 0} (why : DiskError) (old new : Seen) → Counted {A = B} (Err why) old new
    → tail_error why ≡ Fault → Rose old.faults new.faults
tail_cause NotThere old new counted is = absurd (cc)
tail_cause WrongNode old new counted is = absurd (cc)
tail_cause Exists old new counted is = absurd (cc)
tail_cause (Long size) old new counted is = absurd (cc)
tail_cause DiskFault old new counted is = counted.cause refl
tail_cause NoRoom old new counted is = absurd (cc)

pub serves_tail : {B : Type 0} (why : DiskError) (old new : Seen) → Grows old.told new.told
    → Counted {A = B} (Err why) old new
    → Serves {A = Unit {0}} Fault (Err (tail_error why)) old new
serves_tail why old new grows counted = record {
  grows = grows;
  marks = counted.marks;
  faults = counted.faults;
  cause = λ is. tail_cause why old new counted (let e : tail_error why ≡ Fault = cc in e);
}

scan_cause : {B : Type 0} (why : DiskError) (old new : Seen) → Counted {A = B} (Err why) old new
    → scan_error why ≡ ScanFault → Rose old.faults new.faults
scan_cause NotThere old new counted is = absurd (cc)
scan_cause WrongNode old new counted is = absurd (cc)
scan_cause Exists old new counted is = absurd (cc)
scan_cause (Long size) old new counted is = absurd (cc)
scan_cause DiskFault old new counted is = counted.cause refl
scan_cause NoRoom old new counted is = absurd (cc)

pub serves_scan : {B : Type 0} (why : DiskError) (old new : Seen) → Grows old.told new.told
    → Counted {A = B} (Err why) old new
    → Serves {A = Unit {0}} ScanFault (Err (scan_error why)) old new
serves_scan why old new grows counted = record {
  grows = grows;
  marks = counted.marks;
  faults = counted.faults;
  cause = λ is. scan_cause why old new counted (let e : scan_error why ≡ ScanFault = cc in e);
}

pub serves_ok : {E : Type 0} (fault : E) (old new : Seen) → Grows old.told new.told
    → Counted {A = Unit {0}} (Ok tt) old new
    → Serves {A = Unit {0}} fault (Ok tt) old new
serves_ok fault old new grows counted = record {
  grows = grows;
  marks = counted.marks;
  faults = counted.faults;
  cause = λ is. absurd (cc);
}
