-- Why a recovery answered so, by what its parts tell.
use Rattle.std.proofs.Common.{◌≡◌, Bool, ℕ, List, Option, Result, Err, Ok, inl, inr, subst, sym}
use Rattle.std.specs.Prelude.{OnOk}
use Rattle.disk_model.specs.Journal.{Past}
use Rattle.disk_model.specs.Judge.{Grows}
use Rattle.disk_model.specs.Seen.{Seen}
use Rattle.disk_model.specs.declared.answers.DiskError.{DiskError}
use Rattle.folder_core.specs.declared.error.ScanError.{ScanError}
use Rattle.folder_tails.specs.Calls.{FinishesOwn}
use Rattle.folder_tails.specs.Causes.{FinishesFor, IsNotOurs, IsOfTree, IsOurs, LeavesForeign}
use Rattle.folder_tails.specs.Causes.{MayFinish, MetForeign, WasAround, WasLast, WasStopped}
use Rattle.folder_tails.specs.Serving.{scan_error}
use Rattle.folder_tails.proofs.Causes.{goes_later, last_later, seen_before, seen_later}
use Rattle.folder_tails.proofs.Finishes.{missing_for, not_so}
use Rattle.folder_tails.proofs.Foreign.{met_foreign, met_later}
use Rattle.folder_tails.proofs.Leads.{on_ok}

-- what was told of one part is told of more

pub stopped_later : {a b c : Option Past} (path : List ℕ) → Grows a b → WasStopped path b c
    → WasStopped path a c
stopped_later path grows (inl around) = inl (last_later grows around)
stopped_later path grows (inr unfit) = inr (last_later grows unfit)

may_later : {a b c : Option Past} (path owner : List ℕ) (held : Bool) → Grows a b
    → MayFinish path owner held b c → MayFinish path owner held a c
may_later path owner held grows (inl is) = inl is
may_later path owner held grows (inr (inl owned)) = inr (inl (seen_later grows owned))
may_later path owner held grows (inr (inr none)) = inr (inr (seen_later grows none))

-- a look comes before
pub then_for : {a b c : Option Past} (path owner : List ℕ) (held : Bool)
    (result : Result (Unit {0}) ScanError) → Grows a b → FinishesFor path owner held result b c
    → FinishesFor path owner held result a c
then_for {a} {b} {c} path owner held result grows next = record {
  missing = λ is. stopped_later path grows (next.missing is);
  unfinished = λ is. let foreign = next.unfinished is in (
    foreign.0,
    goes_later (MetForeign path owner) a b c (met_later path owner) grows foreign.1,
  );
  done = on_ok result next.done (may_later path owner held grows);
}

-- a look was refused
pub refused_for : {a b : Option Past} (path owner : List ℕ) (held : Bool) (why : DiskError)
    (told : ScanError) → told ≡ scan_error why → (IsOfTree why → WasLast (WasAround path) a b)
    → FinishesFor path owner held (Err told) a b
refused_for {a} {b} path owner held why told is around =
    subst (λ (e : ScanError). FinishesFor path owner held (Err e) a b) (sym is) (record {
      missing = missing_for why (λ of_tree. inl (around of_tree));
      unfinished = λ is. absurd (not_so why is);
      done = tt;
    })

all_ok : {P : Type 0} (result : Result (Unit {0}) ScanError) → P → OnOk result P
all_ok (Ok value) is = is
all_ok (Err why) is = tt

may_ours : {a b c : Option Past} (path owner : List ℕ) (held : Bool) → IsOurs path owner held a b
    → Grows b c → MayFinish path owner held a c
may_ours path owner held (inl is) grows = inl is
may_ours path owner held (inr owned) grows = inr (inl (seen_before owned grows))

-- the lock was ours
pub own_for : {a : Option Past} (path owner : List ℕ) (held new_held : Bool)
    (result : Result (Unit {0}) ScanError) (mid new : Seen) → Grows a mid.told
    → IsOurs path owner held a mid.told → FinishesOwn path new_held result mid new
    → FinishesFor path owner held result a new.told
own_for path owner held new_held result mid new grows ours next = record {
  missing = λ is. stopped_later path grows (next.missing_for is);
  unfinished = λ is. absurd (next.unfinished is);
  done = all_ok result (may_ours path owner held ours next.serves.grows);
}

-- the lock was not ours
pub foreign_for : {a b c : Option Past} (path owner : List ℕ) (held : Bool)
    (result : Result (Unit {0}) ScanError) → Grows a b → Grows b c
    → IsNotOurs path owner held a b → LeavesForeign path result b c
    → FinishesFor path owner held result a c
foreign_for {a} {b} {c} path owner held result first next free left = record {
  missing = λ is. inl (last_later first (left.missing is));
  unfinished = λ is.
      (free.0, met_foreign path owner a b c first next free.1 (left.unfinished is));
  done = on_ok result left.done (λ none. inr (inr (seen_later first none)));
}

-- a look at the tail file was refused
pub left_refused : {a b : Option Past} (path : List ℕ) (why : DiskError) (told : ScanError)
    → told ≡ scan_error why → (IsOfTree why → WasLast (WasAround path) a b)
    → LeavesForeign path (Err told) a b
left_refused {a} {b} path why told is around =
    subst (λ (e : ScanError). LeavesForeign path (Err e) a b) (sym is) (record {
      missing = missing_for why around;
      unfinished = λ is. absurd (not_so why is);
      done = tt;
    })
