-- What checks tell of the disk.
use Rattle.std.proofs.Common.{◌≡◌, ◌≤◌, ◌+◌, inl, inr, ℕ, ℤ, Bool, List, Option, Some, None}
use Rattle.std.proofs.Common.{Result, Ok, Err}
use Rattle.std.proofs.Common.{refl, sym, ◌∙◌, ap, subst, arith, length, length-append, map, take}
use Rattle.std.proofs.Math.Seq.{take-append_seam}
use Rattle.std.proofs.lemmas.List.{take-take, take_all}
use Rattle.std.specs.Prelude.{IfErr, IfOk, IsErrOf, OnErr}
use Rattle.mail_base.specs.Faults.{Rose}
use Rattle.mail_base.specs.declared.kind.Kind.{Kind}
use Rattle.disk_model.specs.Journal.{Past}
use Rattle.disk_model.specs.Judge.{GoesOn}
use Rattle.disk_model.specs.Looking.{LooksOnly}
use Rattle.disk_model.specs.Seen.{Seen}
use Rattle.folder_core.proofs.RightLemmas.{right_same}
use Rattle.folder_core.proofs.SeenLemmas.{goes_as}
use Rattle.folder_core.specs.Keeping.{IsDifference}
use Rattle.folder_core.specs.Known.{KnownFolder}
use Rattle.folder_core.specs.Right.{Right}
use Rattle.folder_core.specs.Scanned.{ListsFound}
use Rattle.folder_core.specs.declared.error.ScanError.{ScanError}
use Rattle.folder_core.specs.declared.error.ScanError.TheVariants as scan
use Rattle.folder_changes.specs.declared.sync_error.SyncError.{SyncError}
use Rattle.folder_changes.specs.declared.sync_error.SyncError.TheVariants as sync
use Rattle.folder_drivers.specs.Synced.{sync_row}
use Rattle.folder_letters.specs.Letters.{Mail, plain_letter}
use Rattle.folder_letters.specs.declared.letter.Letter.{Letter}
use Rattle.folder_letters.specs.declared.listing.Found.{Found}
use Rattle.folder_letters.specs.declared.listing.Listed.{Listed}
use Rattle.index_items.specs.Changes.{Changed}
use Rattle.session_events.specs.Checking.{IsOpen, VisitsFolder, standing_over}
use Rattle.session_events.specs.Events.{Happening, FileRead, FileRefused, KeyPressed, FolderOpened}
use Rattle.session_events.specs.Events.{FolderRefused, FolderChecked, CheckRefused, PlainFound}
use Rattle.session_events.specs.Events.{FolderSynced, SyncRefused, held_found}
use Rattle.session_events.specs.Happened.{Counts, Happened, HasCause, IsKnown, IsKnownOf, Standing}
use Rattle.session_events.specs.Happened.{WasChecked, WasNotSynced, WasTried}
use Rattle.session_events.specs.Happened.{CheckWasRefused, WasNotChecked, WasOpened, met_after}
use Rattle.session_events.specs.Visits.{VisitSaw, WasNotVisited, WasVisited}
use Rattle.session_events.specs.Telling.{Tells}
use Rattle.session_events.specs.declared.checking.Scanned.{Scanned}
use Rattle.session_events.specs.declared.open_folder.OpenFolder.{OpenFolder}

-- the letters of an archive
abbrev letters_of : List Letter → List Mail
letters_of archive = map plain_letter archive

-- what is known of the open folder stays so while the device only looks
pub open_on : (mails : List Mail) (a b : Option Past) (folder : OpenFolder) → LooksOnly a b
    → IsOpen mails a folder → IsOpen mails b folder
open_on mails a b folder looks is = record {
  right = right_same folder.known.kind mails folder.known a b looks is.right;
  known = is.known;
  within = is.within;
  once = is.once;
  met = is.met;
}

-- what is known of a folder, with whether its lock is held
abbrev with_held : KnownFolder → Bool → KnownFolder
with_held known held = record known { held = held }

-- what a visit that found something lists
pub visit_lists : (owner : List ℕ) (archive archive' : List Letter) (known new_known : KnownFolder)
    (scanned : Scanned) (theirs : Found) (old new : Seen)
    → VisitsFolder owner archive archive' known new_known scanned old new
    → scanned.answer ≡ Ok theirs
    → ListsFound theirs (letters_of archive) (letters_of archive')
    (with_held known new_known.held) new_known
visit_lists owner archive archive' known new_known scanned theirs old new visits is =
    subst (λ (r : Result Found ScanError). IfOk r (λ f. ListsFound f (letters_of archive)
    (letters_of archive') (with_held known new_known.held) new_known)) is visits.visits.lists

-- what is known of the open folder behind a visit that was refused
pub unvisited_known : (owner : List ℕ) (archive archive' : List Letter)
    (known new_known : KnownFolder) (scanned : Scanned) (why : ScanError) (old new : Seen)
    → VisitsFolder owner archive archive' known new_known scanned old new
    → scanned.answer ≡ Err why → new_known ≡ with_held known new_known.held
unvisited_known owner archive archive' known new_known scanned why old new visits is =
    subst (λ (r : Result Found ScanError). OnErr r (new_known ≡ with_held known new_known.held)) is
    visits.visits.err_known

-- and its letters are those of before
pub unvisited_letters : (owner : List ℕ) (archive archive' : List Letter)
    (known new_known : KnownFolder) (scanned : Scanned) (why : ScanError) (old new : Seen)
    → VisitsFolder owner archive archive' known new_known scanned old new
    → scanned.answer ≡ Err why → letters_of archive' ≡ letters_of archive
unvisited_letters owner archive archive' known new_known scanned why old new visits is =
    ap letters_of (subst (λ (r : Result Found ScanError). OnErr r (archive' ≡ archive)) is
    visits.visits.err_archive)

-- so it stays open
pub open_unvisited : (owner : List ℕ) (archive archive' : List Letter) (folder : OpenFolder)
    (new_known : KnownFolder) (scanned : Scanned) (why : ScanError) (old new : Seen)
    → IsOpen (letters_of archive) old.told folder
    → VisitsFolder owner archive archive' folder.known new_known scanned old new
    → scanned.answer ≡ Err why
    → IsOpen (letters_of archive) new.told (record folder { known = new_known })
open_unvisited owner archive archive' folder new_known scanned why old new open_is visits is =
    let same = unvisited_known owner archive archive' folder.known new_known scanned why old new
    visits is in
    record {
      right = subst (λ (l : List Mail). Right new_known.kind l new_known new.told)
          (unvisited_letters owner archive archive' folder.known new_known scanned why old new
          visits is)
          (subst (λ (k : Kind). Right k (letters_of archive') new_known new.told)
          (sym (ap (λ (k : KnownFolder). k.kind) same)) visits.visits.right);
      known = subst (λ (l : List Listed). IsKnownOf folder.forgot folder.listing.items l)
          (sym (ap (λ (k : KnownFolder). k.listing) same)) open_is.known;
      within = open_is.within;
      once = open_is.once;
      met = open_is.met;
    }

-- A visit of the open folder.
module _ (Has : Kind → Type 0) (empty : Kind) (owner : List ℕ) (purges : Bool)
    (folder : OpenFolder) (archive archive' : List Letter) (new_known : KnownFolder)
    (scanned : Scanned) (moment : ℤ) (old new : Seen)
    (known : IsOpen (letters_of archive) old.told folder)
    (visits : VisitsFolder owner archive archive' folder.known new_known scanned old new) where
  abbrev at : Standing
  at = standing_over empty owner purges folder

  -- it was refused for want of memory, also of that to take in what it found
  pub tells_starved : (mails : List Mail)
      → Tells Has at mails (CheckRefused moment scan.NoMemory scanned.marks) old new
  tells_starved mails = record {
    marks = scanned.marks;
    marked = refl;
    before = visits.before;
    after = visits.behind;
    on = visits.visits.marks;
    faults = visits.visits.faults;
    cause = tt;
    happened = goes_as old.told new.told (λ p q saw. tt) visits.visits.saw;
    touches = visits.visits.here;
    first = visits.first;
    last = visits.last;
  }

  known_at : (mails : List Mail) (p : Past) → old.told ≡ Some p
      → take folder.met mails ≡ letters_of archive → IsKnown at mails folder.known p
  known_at mails p told first = record {
    path = refl;
    listed = known.known;
    right = subst (λ (l : List Mail). Right folder.known.kind l folder.known (Some p)) (sym first)
        (subst (λ (o : Option Past). Right folder.known.kind (letters_of archive) folder.known o)
        told known.right);
  }

  -- It was refused.
  module _ (why : ScanError) (is : scanned.answer ≡ Err why) where
    here : take folder.met (letters_of archive) ≡ letters_of archive
    here = take_all folder.met (letters_of archive) (omega (arith, known.met))

    refused_at : (p q : Past) → old.told ≡ Some p
        → VisitSaw folder.known.kind owner (letters_of archive) (letters_of archive') folder.known
        new_known scanned.answer p q → CheckWasRefused at (letters_of archive) why p q
    refused_at p q told saw = record {
      known = folder.known;
      is = known_at (letters_of archive) p told here;
      refused = subst (λ (l : List Mail). WasNotVisited folder.known.kind owner l folder.known why
          p q) (sym here)
          (subst (λ (r : Result Found ScanError). VisitSaw folder.known.kind owner
          (letters_of archive) (letters_of archive') folder.known new_known r p q) is saw);
    }

    refused_by : (w : ScanError) → (p q : Past)
        → CheckWasRefused at (letters_of archive) w p q
        → WasNotChecked at (letters_of archive) w p q
    refused_by scan.Fault p q was = tt
    refused_by scan.NoMemory p q was = tt
    refused_by scan.Missing p q was = was
    refused_by (scan.NotMailbox place) p q was = was
    refused_by (scan.TooMany count) p q was = was
    refused_by (scan.TooLarge bytes) p q was = was
    refused_by scan.Unfinished p q was = was
    refused_by scan.ArchiveFull p q was = was

    refused_told : (a b : Option Past) → old.told ≡ a
        → GoesOn (VisitSaw folder.known.kind owner (letters_of archive) (letters_of archive')
        folder.known new_known scanned.answer) a b
        → GoesOn (λ (p q : Past). WasNotChecked at (letters_of archive) why p q) a b
    refused_told None b told goes = goes
    refused_told (Some p) None told goes = goes
    refused_told (Some p) (Some q) told saw = refused_by why p q (refused_at p q told saw)

    cause_of : (w : ScanError) → w ≡ why
        → HasCause Has (CheckRefused moment w scanned.marks) scanned.marks
    cause_of scan.Fault same =
        subst (λ (n : ℕ). Rose n scanned.marks.faults_after)
        (ap (λ (c : Counts). c.faults) visits.before)
        (subst (λ (n : ℕ). Rose old.faults n) (ap (λ (c : Counts). c.faults) visits.behind)
        (visits.visits.cause (subst (λ (r : Result Found ScanError). IsErrOf r scan.Fault)
        (sym (is ∙ ap Err (sym same))) refl)))
    cause_of _ same = tt

    pub tells_refused : Tells Has at (letters_of archive) (CheckRefused moment why scanned.marks)
        old new
    tells_refused = record {
      marks = scanned.marks;
      marked = refl;
      before = visits.before;
      after = visits.behind;
      on = visits.visits.marks;
      faults = visits.visits.faults;
      cause = cause_of why refl;
      happened = refused_told old.told new.told refl visits.visits.saw;
      touches = visits.visits.here;
      first = visits.first;
      last = visits.last;
    }

  -- It found something or nothing, and so did the session.
  module _ (theirs : Found) (is : scanned.answer ≡ Ok theirs) (found : PlainFound)
      (difference : IsDifference folder.listing.items new_known.listing (held_found found))
      (count : length found.came ≡ length theirs.came.items) where
    lists : ListsFound theirs (letters_of archive) (letters_of archive')
        (with_held folder.known new_known.held) new_known
    lists = visit_lists owner archive archive' folder.known new_known scanned theirs old new visits
        is

    first_letters : take folder.met (letters_of archive') ≡ letters_of archive
    first_letters = ap (λ (n : ℕ). take n (letters_of archive')) known.met
        ∙ ap (λ (l : List Mail). take (length (letters_of archive)) l) lists.archived
        ∙ take-append_seam (letters_of archive) lists.added

    pub letters_count : length (letters_of archive') ≡ folder.met + length found.came
    letters_count = omega (
      arith,
      ap length lists.archived,
      length-append (letters_of archive) lists.added,
      lists.each,
      count,
      known.met,
    )

    all_letters : take (folder.met + length found.came) (letters_of archive')
        ≡ letters_of archive'
    all_letters = take_all _ (letters_of archive') (omega (arith, letters_count))

    found_at : (p q : Past) → old.told ≡ Some p
        → VisitSaw folder.known.kind owner (letters_of archive) (letters_of archive') folder.known
        new_known scanned.answer p q → WasChecked at (letters_of archive') found p q
    found_at p q told saw = record {
      known = folder.known;
      new_known = new_known;
      is = known_at (letters_of archive') p told first_letters;
      visited = subst (λ (l : List Mail). WasVisited folder.known.kind owner l
          (take (folder.met + length found.came) (letters_of archive')) folder.known new_known p q)
          (sym first_letters)
          (subst (λ (l : List Mail). WasVisited folder.known.kind owner (letters_of archive) l
          folder.known new_known p q) (sym all_letters)
          (subst (λ (r : Result Found ScanError). VisitSaw folder.known.kind owner
          (letters_of archive) (letters_of archive') folder.known new_known r p q) is saw));
      difference = difference;
    }

    found_told : (a b : Option Past) → old.told ≡ a
        → GoesOn (VisitSaw folder.known.kind owner (letters_of archive) (letters_of archive')
        folder.known new_known scanned.answer) a b
        → GoesOn (λ (p q : Past). WasChecked at (letters_of archive') found p q) a b
    found_told None b told goes = goes
    found_told (Some p) None told goes = goes
    found_told (Some p) (Some q) told saw = found_at p q told saw

    pub tells_found : Tells Has at (letters_of archive')
        (FolderChecked moment found scanned.marks) old new
    tells_found = record {
      marks = scanned.marks;
      marked = refl;
      before = visits.before;
      after = visits.behind;
      on = visits.visits.marks;
      faults = visits.visits.faults;
      cause = tt;
      happened = found_told old.told new.told refl visits.visits.saw;
      touches = visits.visits.here;
      first = visits.first;
      last = visits.last;
    }

-- What an event says of letters that were met it says of more.
module _ (mails more : List Mail) (first : take (length mails) more ≡ mails) where
  pub takes_same : (n : ℕ) → n ≤ length mails → take n more ≡ take n mails
  takes_same n low = sym (take-take n (length mails) more low) ∙ ap (take n) first

  known_more : (at : Standing) (known : KnownFolder) (p : Past) → at.met ≤ length mails
      → IsKnown at mails known p → IsKnown at more known p
  known_more at known p low is = record {
    path = is.path;
    listed = is.listed;
    right = subst (λ (l : List Mail). Right at.kind l known (Some p))
        (sym (takes_same at.met low)) is.right;
  }

  refused_more : (at : Standing) (why : ScanError) (p q : Past) → at.met ≤ length mails
      → CheckWasRefused at mails why p q → CheckWasRefused at more why p q
  refused_more at why p q low was = record {
    known = was.known;
    is = known_more at was.known p low was.is;
    refused = subst (λ (l : List Mail). WasNotVisited at.kind at.owner l was.known why p q)
        (sym (takes_same at.met low)) was.refused;
  }

  -- a sync was tried with the same letters
  tried_more : (at : Standing) (changes : List Changed) (result : Result (Unit {0}) SyncError)
      (p q : Past) → at.met ≤ length mails → WasTried at mails changes result p q
      → WasTried at more changes result p q
  tried_more at changes result p q low was = record {
    known = was.known;
    is = known_more at was.known p low was.is;
    all_known = was.all_known;
    listed = was.listed;
    once = was.once;
    works = subst (λ (l : List Mail). (sync_row at.kind).Works at.owner at.purges was.known l
        changes result (Some p) (Some q)) (sym (takes_same at.met low)) was.works;
    keeps = subst (λ (l : List Mail). (sync_row at.kind).Keeps was.known l changes (Some p)
        (Some q)) (sym (takes_same at.met low)) was.keeps;
    may_be = subst (λ (l : List Mail). IfErr result ((sync_row at.kind).MayBe was.known l changes))
        (sym (takes_same at.met low)) was.may_be;
    cause = subst (λ (l : List Mail). IfErr result (λ why. (sync_row at.kind).Refused was.known l
        changes why (length p.journal) (length q.journal) q)) (sym (takes_same at.met low))
        was.cause;
  }

  -- and was refused, or not tried, so too
  not_synced_more : (run : Standing) (changes : List Changed) (why : SyncError) (p q : Past)
      → run.met ≤ length mails → WasNotSynced run mails changes why p q
      → WasNotSynced run more changes why p q
  not_synced_more run changes sync.NoMemory p q low (inl same) = inl same
  not_synced_more run changes sync.NoMemory p q low (inr was) =
      inr (tried_more run changes (Err sync.NoMemory) p q low was)
  not_synced_more run changes sync.Locked p q low was =
      tried_more run changes (Err sync.Locked) p q low was
  not_synced_more run changes sync.Unfinished p q low was =
      tried_more run changes (Err sync.Unfinished) p q low was
  not_synced_more run changes (sync.Changed spot) p q low was =
      tried_more run changes (Err (sync.Changed spot)) p q low was
  not_synced_more run changes (sync.TooMany count) p q low was =
      tried_more run changes (Err (sync.TooMany count)) p q low was
  not_synced_more run changes (sync.TooLarge bytes) p q low was =
      tried_more run changes (Err (sync.TooLarge bytes)) p q low was
  not_synced_more run changes sync.Fault p q low was =
      tried_more run changes (Err sync.Fault) p q low was
  not_synced_more run changes sync.NotFolder p q low was =
      tried_more run changes (Err sync.NotFolder) p q low was

  pub happened_more : (Has : Kind → Type 0) (at : Standing) (event : Happening) (p q : Past)
      → met_after at.met event ≤ length mails
      → Happened Has at mails event p q → Happened Has at more event p q
  unfolding tried_more
  happened_more Has at (FileRead path text marks) p q low was = was
  happened_more Has at (FileRefused path why marks) p q low was = was
  happened_more Has at (KeyPressed key moment) p q low was = was
  happened_more Has at (FolderOpened path kind moment came marks) p q low was =
      subst (λ (l : List Mail). WasOpened at.empty at.owner l path kind came p q)
      (sym (takes_same (length came) (omega (arith, low)))) was
  happened_more Has at (FolderRefused path why marks) p q low was = was
  happened_more Has at (FolderChecked moment found marks) p q low was = record {
    known = was.known;
    new_known = was.new_known;
    is = known_more at was.known p (omega (arith, low)) was.is;
    visited = subst (λ (l : List Mail). WasVisited at.kind at.owner l
        (take (at.met + length found.came) more) was.known was.new_known p q)
        (sym (takes_same at.met (omega (arith, low))))
        (subst (λ (l : List Mail). WasVisited at.kind at.owner (take at.met mails) l was.known
        was.new_known p q) (sym (takes_same (at.met + length found.came) low)) was.visited);
    difference = was.difference;
  }
  happened_more Has at (CheckRefused moment scan.Fault marks) p q low was = tt
  happened_more Has at (CheckRefused moment scan.NoMemory marks) p q low was = tt
  happened_more Has at (CheckRefused moment scan.Missing marks) p q low was =
      refused_more at scan.Missing p q low was
  happened_more Has at (CheckRefused moment (scan.NotMailbox place) marks) p q low was =
      refused_more at (scan.NotMailbox place) p q low was
  happened_more Has at (CheckRefused moment (scan.TooMany count) marks) p q low was =
      refused_more at (scan.TooMany count) p q low was
  happened_more Has at (CheckRefused moment (scan.TooLarge bytes) marks) p q low was =
      refused_more at (scan.TooLarge bytes) p q low was
  happened_more Has at (CheckRefused moment scan.Unfinished marks) p q low was =
      refused_more at scan.Unfinished p q low was
  happened_more Has at (CheckRefused moment scan.ArchiveFull marks) p q low was =
      refused_more at scan.ArchiveFull p q low was
  happened_more Has at (FolderSynced changes marks) p q low was = record {
    tried = tried_more at changes (Ok tt) p q low was.tried;
    left = was.left;
    synced = was.synced;
    listing = was.listing;
    right = subst (λ (l : List Mail). Right at.kind l was.left (Some q))
        (sym (takes_same at.met low)) was.right;
  }
  happened_more Has at (SyncRefused changes why marks) p q low was =
      not_synced_more at changes why p q low was

  pub tells_more : {Has : Kind → Type 0} {at : Standing} {event : Happening} {old new : Seen}
      → met_after at.met event ≤ length mails
      → Tells Has at mails event old new → Tells Has at more event old new
  tells_more {Has} {at} {event} {old} {new} low tells = record {
    marks = tells.marks;
    marked = tells.marked;
    before = tells.before;
    after = tells.after;
    on = tells.on;
    faults = tells.faults;
    cause = tells.cause;
    happened = goes_as old.told new.told (λ p q was. happened_more Has at event p q low was)
        tells.happened;
    touches = tells.touches;
    first = tells.first;
    last = tells.last;
  }
