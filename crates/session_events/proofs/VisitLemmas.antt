-- What a visit of a folder tells and leaves.
use Rattle.std.proofs.Common.{◌≡◌, ◌∙◌, inl, inr, List, Option, Some, None, Result, Ok, Err, ap}
use Rattle.std.proofs.Common.{arith, map, refl, subst, sym, Bool, ℕ}
use Rattle.std.specs.Prelude.{IfOk, OnErr}
use Rattle.mail_base.specs.declared.kind.Kind.{Kind}
use Rattle.disk_model.specs.Journal.{Past}
use Rattle.disk_model.specs.Judge.{GoesOn, Grows, IsLonger}
use Rattle.disk_model.specs.Looking.{LooksOnly}
use Rattle.disk_model.specs.Seen.{Seen}
use Rattle.disk_model.proofs.Looking.{looked_longer, looks_silent}
use Rattle.folder_core.specs.Known.{KnownFolder}
use Rattle.folder_core.specs.Right.{Right}
use Rattle.folder_core.specs.Scanned.{ListsFound, Saw, Scans}
use Rattle.folder_core.specs.declared.error.ScanError.{ScanError}
use Rattle.folder_core.specs.declared.error.ScanError.TheVariants.{ArchiveFull, Fault}
use Rattle.folder_core.proofs.SeenLemmas.{rose_later}
use Rattle.folder_drivers.proofs.Recovering.{recovery_does, recovery_full, recovery_serves}
use Rattle.folder_drivers.specs.Recovered.{RecoversAs, Recovers}
use Rattle.folder_drivers.specs.Synced.{sync_row}
use Rattle.folder_letters.specs.Letters.{Mail, plain_letter}
use Rattle.folder_letters.specs.declared.letter.Letter.{Letter}
use Rattle.folder_letters.specs.declared.listing.Found.{Found}
use Rattle.folder_stops.proofs.Does.{does_looked, does_then}
use Rattle.folder_tails.specs.Serving.{Serves}
use Rattle.session_events.specs.Visits.{TouchesAlone, VisitSaw, Visits, WasRecovered}

-- the letters of an archive
abbrev letters_of : List Letter → List Mail
letters_of archive = map plain_letter archive

-- what is known of the folder, with whether its lock is held
abbrev with_held : KnownFolder → Bool → KnownFolder
with_held known held = record known { held = held }

-- A recovery.
module _ (kind : Kind) (owner : List ℕ) (known left : KnownFolder)
    (result : Result (Unit {0}) ScanError) (old mid : Seen)
    (recovers : Recovers kind owner known left result old mid) where
  serves : Serves Fault result old mid
  serves = recovery_serves kind known.path owner known.held left.held result old mid recovers.does

  here : TouchesAlone kind known.path old.told mid.told
  here = recovery_does kind known.path owner known.held left.held result old mid recovers.does

  recovered_at : (p q : Past) → old.told ≡ Some p → mid.told ≡ Some q
      → WasRecovered kind owner known left result p q
  recovered_at p q from to = record {
    before = old;
    behind = mid;
    from = from;
    to = to;
    recovers = recovers;
  }

-- A recovery that was refused.
module _ (kind : Kind) (owner : List ℕ) (archive archive' : List Letter) (known left : KnownFolder)
    (why : ScanError) (old mid : Seen)
    (recovers : Recovers kind owner known left (Err why) old mid) where
  unrecovered_told : (a b : Option Past) → old.told ≡ a → mid.told ≡ b → Grows a b
      → GoesOn (VisitSaw kind owner (letters_of archive) (letters_of archive') known left
      (Err why)) a b
  unrecovered_told None b from to grows = grows
  unrecovered_told (Some p) None from to grows = absurd grows
  unrecovered_told (Some p) (Some q) from to grows =
      inl (left, recovered_at kind owner known left (Err why) old mid recovers p q from to)

  never_full : ◌≡◌ {A = Result Found ScanError} (Err why) (Err ArchiveFull) → ⊥
  never_full is =
      let full : why ≡ ArchiveFull = cc in
      recovery_full kind known.path owner known.held left.held old mid
      (subst (λ (w : ScanError). RecoversAs kind known.path owner known.held left.held (Err w) old
      mid) full recovers.does)

  -- is the end of the visit
  visit_stopped : archive' ≡ archive → Right kind (letters_of archive) known old.told
      → Visits kind owner archive archive' known left (Err why) old mid
  visit_stopped same right = record {
    saw = unrecovered_told old.told mid.told refl refl
        (serves kind owner known left (Err why) old mid recovers).grows;
    lists = tt;
    here = here kind owner known left (Err why) old mid recovers;
    err_archive = same;
    err_known = recovers.known_is;
    right = subst (λ (l : List Letter). Right kind (letters_of l) left mid.told) (sym same)
        (recovers.right (letters_of archive) right);
    full = λ is. absurd (never_full is);
    marks = (serves kind owner known left (Err why) old mid recovers).marks;
    faults = (serves kind owner known left (Err why) old mid recovers).faults;
    cause = λ is. (serves kind owner known left (Err why) old mid recovers).cause
        (let failed : why ≡ Fault = cc in ap Err failed);
  }

-- A scan behind a recovery that was answered Ok.
module _ (kind : Kind) (owner : List ℕ) (archive archive' : List Letter)
    (known left new_known : KnownFolder) (result : Result Found ScanError) (old mid new : Seen)
    (recovers : Recovers kind owner known left (Ok tt) old mid)
    (scans : Scans kind archive archive' left new_known result mid new) where
  saw_at : (r : Result Found ScanError) (p m q : Past) → old.told ≡ Some p → mid.told ≡ Some m
      → IsLonger m q
      → Saw kind (letters_of archive) (letters_of archive') left new_known r m q
      → VisitSaw kind owner (letters_of archive) (letters_of archive') known new_known r p q
  saw_at (Ok found) p m q from to on saw = record {
    left = left;
    between = m;
    recovered = recovered_at kind owner known left (Ok tt) old mid recovers p m from to;
    on = on;
    found = saw;
  }
  saw_at (Err why) p m q from to on saw = inr (record {
    left = left;
    between = m;
    recovered = recovered_at kind owner known left (Ok tt) old mid recovers p m from to;
    on = on;
    refused = saw;
  })

  saw_told : (a b c : Option Past) → old.told ≡ a → mid.told ≡ b → Grows a b → LooksOnly b c
      → GoesOn (Saw kind (letters_of archive) (letters_of archive') left new_known result) b c
      → GoesOn (VisitSaw kind owner (letters_of archive) (letters_of archive') known new_known
      result) a c
  saw_told None b c from to grows looks saw = looks_silent b c grows looks
  saw_told (Some p) None c from to grows looks saw = absurd grows
  saw_told (Some p) (Some m) None from to grows looks saw = absurd looks
  saw_told (Some p) (Some m) (Some q) from to grows looks saw =
      saw_at result p m q from to (looked_longer m q looks) saw

  lists_of : (r : Result Found ScanError)
      → IfOk r (λ found. ListsFound found (letters_of archive) (letters_of archive') left new_known)
      → IfOk r (λ found. ListsFound found (letters_of archive) (letters_of archive')
      (with_held known new_known.held) new_known)
  lists_of (Ok found) lists =
      subst (λ (k : KnownFolder). ListsFound found (letters_of archive) (letters_of archive') k
      new_known)
      (recovers.known_is
      ∙ ap (with_held known) (sym (ap (λ (k : KnownFolder). k.held) lists.kept))) lists
  lists_of (Err why) lists = tt

  known_of : (r : Result Found ScanError) → OnErr r (new_known ≡ left)
      → OnErr r (new_known ≡ with_held known new_known.held)
  known_of (Ok found) is = tt
  known_of (Err why) is =
      is ∙ recovers.known_is
      ∙ ap (with_held known) (sym (ap (λ (k : KnownFolder). k.held) is))

  -- is the visit
  visit_scanned : Visits kind owner archive archive' known new_known result old new
  visit_scanned = record {
    saw = saw_told old.told mid.told new.told refl refl
        (serves kind owner known left (Ok tt) old mid recovers).grows scans.only.looks scans.saw;
    lists = lists_of result scans.lists;
    here = does_then ((sync_row kind).home known.path) ((sync_row kind).making known.path) None
        (here kind owner known left (Ok tt) old mid recovers)
        (does_looked ((sync_row kind).home known.path) ((sync_row kind).making known.path) None
        scans.only.looks);
    err_archive = scans.err_archive;
    err_known = known_of result scans.err_known;
    right = scans.right;
    full = scans.full;
    marks = omega (
      arith,
      (serves kind owner known left (Ok tt) old mid recovers).marks,
      scans.only.marks,
    );
    faults = omega (
      arith,
      (serves kind owner known left (Ok tt) old mid recovers).faults,
      scans.only.faults,
    );
    cause = λ is. rose_later old.faults mid.faults new.faults
        (serves kind owner known left (Ok tt) old mid recovers).faults (scans.cause is);
  }

-- The same of a recovery that was answered so, of a folder of the same kind.

pub visits_stopped : {kind was : Kind} {owner : List ℕ} {archive : List Letter}
    {known left : KnownFolder} {why : ScanError} {recovered : Result (Unit {0}) ScanError}
    {old mid : Seen} → kind ≡ was → recovered ≡ Err why
    → Recovers kind owner known left recovered old mid
    → Right was (letters_of archive) known old.told
    → Visits was owner archive archive known left (Err why) old mid
visits_stopped {kind} {was} {owner} {archive} {known} {left} {why} {recovered} {old} {mid} same is
    recovers right =
    visit_stopped was owner archive archive known left why old mid
    (subst (λ (k : Kind). Recovers k owner known left (Err why) old mid) same
    (subst (λ (r : Result (Unit {0}) ScanError). Recovers kind owner known left r old mid) is
    recovers)) refl right

pub visits_scanned : {kind was : Kind} {owner : List ℕ} {archive archive' : List Letter}
    {known left new_known : KnownFolder} {result : Result Found ScanError}
    {recovered : Result (Unit {0}) ScanError} {old mid new : Seen} → kind ≡ was → recovered ≡ Ok tt
    → Recovers kind owner known left recovered old mid
    → Scans kind archive archive' left new_known result mid new
    → Visits was owner archive archive' known new_known result old new
visits_scanned {kind} {was} {owner} {archive} {archive'} {known} {left} {new_known} {result}
    {recovered} {old} {mid} {new} same is recovers scans =
    subst (λ (k : Kind). Visits k owner archive archive' known new_known result old new) same
    (visit_scanned kind owner archive archive' known left new_known result old mid new
    (subst (λ (r : Result (Unit {0}) ScanError). Recovers kind owner known left r old mid) is
    recovers) scans)
