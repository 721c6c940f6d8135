-- Why an append was refused: the disk is blamed where it failed.
use Rattle.std.proofs.Common.{List, Ok, Option, ℕ}
use Rattle.disk_model.specs.Judge.{Grows}
use Rattle.disk_model.specs.Journal.{Past}
use Rattle.folder_core.proofs.SeenLemmas.{goes_as}
use Rattle.folder_changes.specs.Serving.{IsErrorAt, Serves}
use Rattle.folder_changes.specs.declared.sync_error.Spot.TheVariants.{At, Name}
use Rattle.folder_changes.specs.declared.sync_error.SyncError.TheVariants.{Changed, Locked}
use Rattle.folder_changes.specs.declared.sync_error.SyncError.TheVariants.{NotFolder}
use Rattle.folder_changes.specs.declared.sync_error.SyncError.TheVariants.{TooLarge, TooMany}
use Rattle.folder_changes.specs.declared.sync_error.SyncError.TheVariants.{Unfinished}
use Rattle.folder_stops.specs.Appends.{AddsSome}
use Rattle.folder_stops.specs.Folder.{FileFolder}
use Rattle.std.proofs.Common.{Err, Result, subst, ap, arith, ◌≡◌, ◌∙◌, refl, sym}
use Rattle.disk_model.specs.Judge.{Counted}
use Rattle.disk_model.specs.Seen.{Seen}
use Rattle.disk_model.specs.declared.answers.DiskError.{DiskError}
use Rattle.disk_model.specs.declared.answers.DiskError.TheVariants as disk
use Rattle.folder_core.proofs.SeenLemmas.{rose_later}
use Rattle.folder_changes.specs.Refused.{refused_by}
use Rattle.folder_drivers.specs.Refusing.{BlamesDisk}
use Rattle.folder_changes.specs.declared.sync_error.SyncError.{SyncError}
use Rattle.folder_changes.specs.declared.sync_error.SyncError.TheVariants.{Fault, NoMemory}
use Rattle.folder_drivers.specs.Refusing.{AppendErrors}

fault_of : (why : DiskError) → refused_by why ≡ Fault → why ≡ disk.Fault
fault_of disk.Missing e = absurd (cc)
fault_of disk.WrongNode e = absurd (cc)
fault_of disk.Exists e = absurd (cc)
fault_of (disk.Long size) e = absurd (cc)
fault_of disk.Fault e = refl
fault_of disk.NoMemory e = absurd (cc)

-- what a refused call makes of it is such a refusal
may_refuse : (why : DiskError) → AppendErrors (refused_by why)
may_refuse disk.Missing = tt
may_refuse disk.WrongNode = tt
may_refuse disk.Exists = tt
may_refuse (disk.Long size) = tt
may_refuse disk.Fault = tt
may_refuse disk.NoMemory = tt

-- a refusal for want of memory is one
pub no_memory : (e : SyncError) → e ≡ NoMemory → AppendErrors e
no_memory e is = subst AppendErrors (sym is) tt

pub blamed : {A B T : Type 0} (first : Result B SyncError) (why : DiskError) (e : SyncError)
    {old mid new : Seen} → e ≡ refused_by why → BlamesDisk first old mid
    → Counted {A = T} (Err why) mid new → BlamesDisk {A = A} (Err e) old new
blamed first why e {old} {mid} {new} is before counted = record {
  marks = let after = counted.marks in omega (arith, before.marks, after);
  faults = let after = counted.faults in omega (arith, before.faults, after);
  cause = λ fault. let at : e ≡ Fault = cc in
      rose_later old.faults mid.faults new.faults before.faults
      (counted.cause (ap Err (fault_of why (sym is ∙ at))));
  errors = subst AppendErrors (sym is) (may_refuse why);
}

-- the same where nothing was done before
pub blamed_now : {A T : Type 0} (why : DiskError) (e : SyncError) {old new : Seen}
    → e ≡ refused_by why → Counted {A = T} (Err why) old new
    → BlamesDisk {A = A} (Err e) old new
blamed_now why e {old} {new} is counted = record {
  marks = counted.marks;
  faults = counted.faults;
  cause = λ fault. let at : e ≡ Fault = cc in counted.cause (ap Err (fault_of why (sym is ∙ at)));
  errors = subst AppendErrors (sym is) (may_refuse why);
}

-- the past only grew
pub adds_grows : (folder : FileFolder) (core : List ℕ) {old new : Option Past}
    → AddsSome folder core old new → Grows old new
adds_grows folder core {old = old} {new = new} adds = goes_as old new (λ p q grown. record {
  same_first = grown.same_first;
  more = grown.more;
  journal = grown.journal;
}) adds.grown

-- what was kept and what the disk is blamed for
pub serves_adding : {A : Type 0} (folder : FileFolder) (core : List ℕ)
    (result : Result A SyncError) {old new : Seen} → AddsSome folder core old.told new.told
    → BlamesDisk result old new → Serves result old new
serves_adding folder core result adds blames = record {
  grows = adds_grows folder core adds;
  marks = blames.marks;
  faults = blames.faults;
  cause = blames.cause;
}

-- a path was named, or memory ran out for that
named_may : (path : List ℕ) (why : SyncError) → IsErrorAt path why → AppendErrors why
named_may path (Changed (Name name)) is = tt
named_may path (Changed (At place)) is = is
named_may path Locked is = is
named_may path Unfinished is = is
named_may path (TooMany count) is = is
named_may path (TooLarge bytes) is = is
named_may path Fault is = tt
named_may path NoMemory is = tt
named_may path NotFolder is = tt

pub err_same : (a b : SyncError) → ◌≡◌ {A = Result (Unit {0}) SyncError} (Err a) (Err b) → a ≡ b
err_same a b e = cc

-- a file was in the way, which is named
pub blames_named : {A B : Type 0} (first : Result A SyncError) (path : List ℕ) (why : SyncError)
    {old mid new : Seen} {e : DiskError} → BlamesDisk first old mid → e ≡ disk.Exists
    → Counted {A = B} (Err e) mid new → IsErrorAt path why → (why ≡ Fault → ⊥)
    → BlamesDisk {A = Unit {0}} (Err why) old new
blames_named first path why before exists counted at no_fault = record {
  marks = let after = counted.marks in omega (arith, before.marks, after);
  faults = let after = counted.faults in omega (arith, before.faults, after);
  cause = λ is. absurd (no_fault (err_same why Fault is));
  errors = named_may path why at;
}

-- all was done
pub blames_none : {A B : Type 0} (first : Result A SyncError) {old mid new : Seen} {v : B}
    → BlamesDisk first old mid → Counted (Ok v) mid new
    → BlamesDisk {A = Unit {0}} (Ok tt) old new
blames_none first before counted = record {
  marks = let after = counted.marks in omega (arith, before.marks, after);
  faults = let after = counted.faults in omega (arith, before.faults, after);
  cause = λ is. absurd (none is);
  errors = tt;
}
  where
    none : ◌≡◌ {A = Result (Unit {0}) SyncError} (Ok tt) (Err Fault) → ⊥
    none e = cc

-- a part that was done, and the one behind it
pub blames_then : {A B : Type 0} (given : A) (result : Result B SyncError) {old mid new : Seen}
    → BlamesDisk (Ok given) old mid → BlamesDisk result mid new → BlamesDisk result old new
blames_then given result {old} {mid} {new} before blames = record {
  marks = let after = blames.marks in omega (arith, before.marks, after);
  faults = let after = blames.faults in omega (arith, before.faults, after);
  cause = λ is. rose_later old.faults mid.faults new.faults before.faults (blames.cause is);
  errors = blames.errors;
}

-- a call of the disk was done
pub blames_done : {A B : Type 0} {v : B} (given : A) {old new : Seen} → Counted (Ok v) old new
    → BlamesDisk (Ok given) old new
blames_done {A} given counted = record {
  marks = counted.marks;
  faults = counted.faults;
  cause = λ is. absurd (none is);
  errors = tt;
}
  where
    none : ◌≡◌ {A = Result A SyncError} (Ok given) (Err Fault) → ⊥
    none e = cc

-- the same refusal of a call that gives something else
pub blames_as : {A B : Type 0} (why : SyncError) {old new : Seen}
    → BlamesDisk {A = A} (Err why) old new → BlamesDisk {A = B} (Err why) old new
blames_as {A} {B} why blames = record {
  marks = blames.marks;
  faults = blames.faults;
  cause = λ is. blames.cause (again (same is));
  errors = blames.errors;
}
  where
    same : ◌≡◌ {A = Result B SyncError} (Err why) (Err Fault) → why ≡ Fault
    same e = cc

    again : why ≡ Fault → ◌≡◌ {A = Result A SyncError} (Err why) (Err Fault)
    again is = ap Err is
