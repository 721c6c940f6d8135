-- What a recovery promises, by what its parts do.
use Rattle.std.proofs.Common.{Bool, Err, List, Ok, Option, Result, false, inl, inr, subst, sym, ℕ}
use Rattle.std.proofs.Common.{◌≡◌, ◌≤◌, arith}
use Rattle.std.specs.Prelude.{IsErrOf}
use Rattle.mail_base.specs.Faults.{Rose}
use Rattle.disk_model.specs.Journal.{Past}
use Rattle.disk_model.specs.Looking.{LooksOnly}
use Rattle.disk_model.specs.Judge.{Counted, Grows}
use Rattle.disk_model.specs.Seen.{Seen}
use Rattle.disk_model.specs.declared.answers.DiskError.{DiskError}
use Rattle.disk_model.specs.declared.answers.DiskError.TheVariants.{Exists, Fault as DiskFault}
use Rattle.disk_model.specs.declared.answers.DiskError.TheVariants.{Long, Missing as NotThere}
use Rattle.disk_model.specs.declared.answers.DiskError.TheVariants.{NoMemory as NoRoom, WrongNode}
use Rattle.disk_model.proofs.Looking.{grows_then, looks_grows, looks_then}
use Rattle.folder_core.specs.declared.error.ScanError.{ScanError}
use Rattle.folder_core.specs.declared.error.ScanError.TheVariants.{Fault as ScanFault, Missing}
use Rattle.folder_core.specs.declared.error.ScanError.TheVariants.{NoMemory}
use Rattle.folder_core.specs.declared.error.ScanError.TheVariants.{Unfinished as ScanUnfinished}
use Rattle.folder_tails.specs.Calls.{Finishes, FinishesOwn, FinishesPart, IsFinishError, TellsFirst}
use Rattle.folder_tails.specs.Causes.{FinishesFor, IsOfTree, WasStopped}
use Rattle.folder_tails.specs.Recovery.{Entered, Idle, PassesOwn, Right, SafeLeads}
use Rattle.folder_tails.specs.Rows.{IsSafe}
use Rattle.folder_tails.specs.Serving.{Serves, scan_error}
use Rattle.folder_tails.proofs.Leading.{weaken}
use Rattle.folder_tails.specs.Traces.{MeetsTail}
use Rattle.folder_tails.proofs.Traces.{meets_later}
use Rattle.folder_tails.proofs.Firsts.{found_none}
use Rattle.folder_tails.proofs.Leads as L
use Rattle.folder_tails.proofs.Serving.{leads_grows, serves_none, serves_ok, serves_scan}

pub finish_error : (why : DiskError) → IsFinishError (scan_error why)
finish_error NotThere = tt
finish_error WrongNode = tt
finish_error Exists = tt
finish_error (Long size) = tt
finish_error DiskFault = tt
finish_error NoRoom = tt

never_unfinished : (why : DiskError) → scan_error why ≡ ScanUnfinished → ⊥
never_unfinished NotThere is = cc
never_unfinished WrongNode is = cc
never_unfinished Exists is = cc
never_unfinished (Long size) is = cc
never_unfinished DiskFault is = cc
never_unfinished NoRoom is = cc

pub not_so : (why : DiskError) → IsErrOf {T = Unit {0}} (Err (scan_error why)) ScanUnfinished → ⊥
not_so why is = never_unfinished why (let e : scan_error why ≡ ScanUnfinished = cc in e)

missing_as : {P : Type 0} (why : DiskError) → (IsOfTree why → P) → scan_error why ≡ Missing → P
missing_as NotThere told is = told tt
missing_as WrongNode told is = told tt
missing_as Exists told is = told tt
missing_as (Long size) told is = told tt
missing_as DiskFault told is = absurd (cc)
missing_as NoRoom told is = absurd (cc)

-- what is so where a call was refused for the tree is so where it is told as Missing
pub missing_for : {P : Type 0} (why : DiskError) → (IsOfTree why → P)
    → IsErrOf {T = Unit {0}} (Err (scan_error why)) Missing → P
missing_for why told is = missing_as why told (let e : scan_error why ≡ Missing = cc in e)

-- what is not held is entered
pub unheld : (path : List ℕ) (ours : List ℕ → Bool) (held other : Bool) (a b : Option Past)
    → other ≡ false
    → SafeLeads path ours a b (Entered path ours held) (Entered path ours held)
    → SafeLeads path ours a b (Entered path ours held) (Entered path ours other)
unheld path ours held other a b none so_far =
    weaken path 0 (IsSafe path ours) so_far (λ may s x. x)
    (λ may s x. record { safe = x.safe; right = λ e. absurd (cc (none, e)) })

-- a look was refused
pub look_refused : {B : Type 0} (path owner : List ℕ) (held new_held : Bool) (why : DiskError)
    (told : ScanError)
    (old new : Seen) → told ≡ scan_error why
    → ((ours : List ℕ → Bool)
    → SafeLeads path ours old.told new.told (Entered path ours held) (Entered path ours held))
    → LooksOnly old.told new.told → Counted {A = B} (Err why) old new
    → FinishesPart path owner held new_held (Err told) old new
look_refused path owner held new_held why told old new e stays looks counted =
    subst (λ (t : ScanError). FinishesPart path owner held new_held (Err t) old new) (sym e)
    (record {
      stays = λ ours passes. L.only path ours (stays ours) (L.entered path ours held);
      settles = tt;
      serves = serves_scan why old new (looks_grows old.told new.told looks) counted;
      refused = finish_error why;
      unfinished = λ is. absurd (not_so why is);
      given_back = tt;
    })

-- a tail file is there that is not ours to finish
pub left_foreign : (path owner : List ℕ) (held found : Bool) (old new : Seen) → held ≡ false
    → ((ours : List ℕ → Bool) (held : Bool)
    → SafeLeads path ours old.told new.told (Entered path ours held) (Entered path ours held))
    → LooksOnly old.told new.told → MeetsTail path old.told new.told → Counted {A = Bool}
    (Ok found) old new
    → FinishesPart path owner held held (Err ScanUnfinished) old new
left_foreign path owner held found old new none stays looks met counted = record {
  stays = λ ours passes. L.only path ours (stays ours held) (L.entered path ours held);
  settles = tt;
  serves = record {
    grows = looks_grows old.told new.told looks;
    marks = counted.marks;
    faults = counted.faults;
    cause = λ is. absurd (cc);
  };
  refused = tt;
  unfinished = λ is. (looks, (none, met));
  given_back = tt;
}

-- there is nothing to finish
pub left_idle : (path owner : List ℕ) (held found : Bool) (old new : Seen) → held ≡ false
    → ((ours : List ℕ → Bool) (held : Bool)
    → SafeLeads path ours old.told new.told (Entered path ours held) (Idle path ours))
    → LooksOnly old.told new.told → Counted {A = Bool} (Ok found) old new
    → FinishesPart path owner held held (Ok tt) old new
left_idle path owner held found old new none idle looks counted = record {
  stays = λ ours passes. L.only path ours (idle ours held) (L.idle path ours);
  settles = λ ours passes. idle ours held;
  serves = record {
    grows = looks_grows old.told new.told looks;
    marks = counted.marks;
    faults = counted.faults;
    cause = λ is. absurd (cc);
  };
  refused = tt;
  unfinished = λ is. absurd (cc);
  given_back = none;
}

-- under a lock that is ours

pub own_ok : (path : List ℕ) (new_held : Bool) (old new : Seen)
    → ((ours : List ℕ → Bool)
    → SafeLeads path ours old.told new.told (Right path ours) (Idle path ours))
    → Counted {A = Unit {0}} (Ok tt) old new → new_held ≡ false
    → FinishesOwn path new_held (Ok tt) old new
own_ok path new_held old new idle counted is = record {
  stays = λ ours. L.only path ours (idle ours) (L.idle path ours);
  settles = idle;
  serves = serves_ok ScanFault old new (leads_grows (idle (λ line. false))) counted;
  refused = tt;
  unfinished = λ is. absurd (cc);
  given_back = is;
  missing_for = λ is. absurd (cc);
}

pub own_refused : (path : List ℕ) (new_held : Bool) (why : DiskError) (told : ScanError)
    (old new : Seen) → told ≡ scan_error why
    → ((ours : List ℕ → Bool)
    → SafeLeads path ours old.told new.told (Right path ours) (IsSafe path ours))
    → Counted {A = Unit {0}} (Err why) old new
    → (IsOfTree why → WasStopped path old.told new.told)
    → FinishesOwn path new_held (Err told) old new
own_refused path new_held why told old new e stays counted stopped =
    subst (λ (t : ScanError). FinishesOwn path new_held (Err t) old new) (sym e)
    (record {
      stays = stays;
      settles = tt;
      serves = serves_scan why old new (leads_grows (stays (λ line. false))) counted;
      refused = finish_error why;
      unfinished = not_so why;
      given_back = tt;
      missing_for = missing_for why stopped;
    })

-- one part behind another

rose_later : (a b c : ℕ) → a ≤ b → Rose b c → Rose a c
rose_later a b c le (inl lt) = inl (omega (arith, le, lt))
rose_later a b c le (inr last) = inr last

pub serves_then : {A E : Type 0} (fault : E) (result : Result A E) (old mid new : Seen)
    → Grows old.told mid.told → old.marks ≤ mid.marks → old.faults ≤ mid.faults
    → Serves fault result mid new → Serves fault result old new
serves_then fault result old mid new grows marks faults next = record {
  grows = grows_then old.told mid.told new.told grows next.grows;
  marks = omega (arith, marks, next.marks);
  faults = omega (arith, faults, next.faults);
  cause = λ is. rose_later old.faults mid.faults new.faults faults (next.cause is);
}

-- the lock is ours
pub then_own : (path owner : List ℕ) (held new_held : Bool) (result : Result (Unit {0}) ScanError)
    (old mid new : Seen)
    → ((ours : List ℕ → Bool) → PassesOwn owner ours
    → SafeLeads path ours old.told mid.told (Entered path ours held) (Right path ours))
    → LooksOnly old.told mid.told → old.marks ≤ mid.marks → old.faults ≤ mid.faults
    → FinishesOwn path new_held result mid new
    → FinishesPart path owner held new_held result old new
then_own path owner held new_held result old mid new own looks marks faults next = record {
  stays = λ ours passes. L.on path ours (own ours passes) (next.stays ours);
  settles = L.on_ok result next.settles (λ each ours passes. L.on path ours (own ours passes)
      (each ours));
  serves = serves_then ScanFault result old mid new (looks_grows old.told mid.told looks) marks
      faults
      next.serves;
  refused = next.refused;
  unfinished = λ is. absurd (next.unfinished is);
  given_back = next.given_back;
}

-- looks come before
pub then_finishes : (path owner : List ℕ) (held mid_held new_held : Bool)
    (result : Result (Unit {0}) ScanError) (old mid new : Seen)
    → ((ours : List ℕ → Bool)
    → SafeLeads path ours old.told mid.told (Entered path ours held) (Entered path ours mid_held))
    → LooksOnly old.told mid.told → old.marks ≤ mid.marks → old.faults ≤ mid.faults
    → FinishesPart path owner mid_held new_held result mid new
    → FinishesPart path owner held new_held result old new
then_finishes path owner held mid_held new_held result old mid new first looks marks faults next =
    record {
      stays = λ ours passes. L.on path ours (first ours) (next.stays ours passes);
      settles = L.on_ok result next.settles
          (λ each ours passes. L.on path ours (first ours) (each ours passes));
      serves = serves_then ScanFault result old mid new (looks_grows old.told mid.told looks) marks
          faults next.serves;
      refused = next.refused;
      unfinished = λ is. let left = next.unfinished is in (
        looks_then old.told mid.told new.told looks left.0,
        (
          left.1.0,
          meets_later path old.told mid.told new.told
              (looks_grows old.told mid.told looks) left.1.1,
        ),
      );
      given_back = next.given_back;
    }

-- memory ran out before the first call
pub unfinished_for_want : (path owner : List ℕ) (held : Bool) (s : Seen)
    → Finishes path owner held held (Err NoMemory) s s
unfinished_for_want path owner held s = record {
  stays = λ ours passes. L.only path ours (L.nothing path ours s.told (L.entered path ours held))
      (L.entered path ours held);
  settles = tt;
  serves = serves_none ScanFault (Err NoMemory) s (λ is. absurd (cc));
  refused = tt;
  missing = found_none path (Err NoMemory) s.told;
  unfinished = λ is. absurd (cc);
  given_back = tt;
  missing_for = λ is. absurd (cc);
  unfinished_for = λ is. absurd (cc);
  done_for = tt;
}

pub there : (path home owner : List ℕ) (held new_held : Bool) (result : Result (Unit {0}) ScanError)
    (old new : Seen) → home ≡ path → Finishes home owner held new_held result old new
    → Finishes path owner held new_held result old new
there path home owner held new_held result old new e is =
    subst (λ (p : List ℕ). Finishes p owner held new_held result old new) e is

-- behind the look at the path
pub finishes : (path owner : List ℕ) (held new_held : Bool) (result : Result (Unit {0}) ScanError)
    (old new : Seen) → FinishesPart path owner held new_held result old new
    → TellsFirst path result old.told new.told
    → FinishesFor path owner held result old.told new.told
    → Finishes path owner held new_held result old new
finishes path owner held new_held result old new part missing why = record {
  stays = part.stays;
  settles = part.settles;
  serves = part.serves;
  refused = part.refused;
  unfinished = part.unfinished;
  missing = missing;
  given_back = part.given_back;
  missing_for = why.missing;
  unfinished_for = why.unfinished;
  done_for = why.done;
}
