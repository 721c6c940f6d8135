-- The calls of a lock, one line each.
use Rattle.std.proofs.Common.{Bool, Err, List, Ok, Option, Result, [], false, inl, inr, refl, subst}
use Rattle.std.proofs.Common.{sym, true, ℕ}
use Rattle.std.proofs.Common.{◌∙◌, ◌≡◌, ◌<◌, ◌≤◌, ◌++◌, ◌∷◌, None, Some, ap, arith, map, ⊎_elim}
use Rattle.std.proofs.lemmas.Bool.{and_from, cases_lt, or_right}
use Rattle.std.specs.Prelude.{IsErrOf, OnOk}
use Rattle.mail_base.specs.Faults.{Rose}
use Rattle.disk_model.specs.Looking.{LooksOnly, all_look, is_look, looks}
use Rattle.disk_model.specs.Seen.{Seen}
use Rattle.disk_model.specs.declared.answers.DiskError.TheVariants.{Exists, Fault as DiskFault}
use Rattle.disk_model.specs.declared.answers.DiskError.TheVariants.{Long, Missing as NotThere}
use Rattle.disk_model.specs.declared.answers.DiskError.TheVariants.{NoMemory as NoRoom, WrongNode}
use Rattle.disk_model.proofs.Looking.{grows_then, looks_grows, looks_then}
use Rattle.folder_tails.specs.Calls.{TakesLock}
use Rattle.folder_tails.specs.Serving.{Serves, tail_error}
use Rattle.folder_tails.specs.Tails.{line_of}
use Rattle.folder_tails.specs.declared.error.TailError.{TailError}
use Rattle.folder_tails.specs.declared.error.TailError.TheVariants.{Fault, Locked, NoMemory}
use Rattle.folder_tails.specs.declared.error.TailError.TheVariants.{Unfinished}
use Rattle.folder_tails.proofs.Finishes.{serves_then}
use Rattle.folder_tails.proofs.Serving.{leads_grows, serves_none, serves_ok, serves_tail}
use Rattle.disk_model.specs.Tree.{TreeNode}
use Rattle.disk_model.specs.Journal.{Action, Answer, Call, Create, Cut, Entry, Others, Own, Past}
use Rattle.disk_model.specs.Journal.{Remove, Sync, SyncDir}
use Rattle.disk_model.specs.Journal.{WriteAt}
use Rattle.disk_model.specs.State.{File, State, after_refused}
use Rattle.disk_model.specs.Judge.{Called, Counted, GoesOn, Grows, StepBy, done_by}
use Rattle.disk_model.specs.declared.answers.DiskError.{DiskError}
use Rattle.folder_stops.specs.Rows.{IsDurable}
use Rattle.folder_stops.proofs.Verdicts.{was_free}
use Rattle.folder_tails.specs.Sides.{lock_of, tail_of}
use Rattle.folder_tails.specs.Rows.{IsSafe}
use Rattle.folder_tails.specs.Recovery.{Entered, Idle, IsPut, PassesOwn, Right, SafeLeads}
use Rattle.folder_tails.specs.Stages.{AnyFile, AnyState, IsAllowed}
use Rattle.folder_tails.specs.Taking.{Knows, Locking, MissesTail, NoTail, Quiet, ReadsLine}
use Rattle.folder_tails.specs.Taking.{ReadsLock}
use Rattle.folder_tails.specs.Taking.{CountsOn, Ready, SeesTail, Taken, Unclaimed}
use Rattle.folder_tails.specs.Taking.{IfUnfinished}
use Rattle.folder_tails.specs.Traces.{LockAlone}
use Rattle.folder_tails.proofs.Traces.{alone_then, meets_later}
use Rattle.folder_tails.proofs.Finding.{misses}
use Rattle.folder_tails.proofs.Leading.{IsOwnStage, goes_judged, goes_on, stops_short, weaken}
use Rattle.folder_tails.specs.Causes.{IsNotOurs, MadeLock, MetTail, WasSeen}
use Rattle.folder_tails.proofs.Foreign.{met_under, not_ours_later, under_later}
use Rattle.folder_tails.proofs.Leads as L
use Rattle.folder_tails.proofs.Locks as K
use Rattle.folder_tails.proofs.Recovering.{file_read, no_file_seen, no_tail_after}

module _ (path : List ℕ) (ours : List ℕ → Bool) where
  abbrev pub Safe : (List ℕ → Bool) → State → Type 0
  Safe = IsSafe path ours

  pub fresh : IsOwnStage path 0 Safe (Locking path ours (IsDurable []) AnyState)
  fresh = record {
    stable = K.locking_stable path ours (IsDurable []) AnyState (λ action s may_do sound is. tt);
    good = λ may s x. x.safe;
  }

  pub filling : (Is : File → Type 0) → IsOwnStage path 0 Safe (Locking path ours Is (NoTail path))
  filling Is = record {
    stable = K.locking_stable path ours Is (NoTail path) (no_tail_after path ours);
    good = λ may s x. x.safe;
  }

  pub unclaimed : IsOwnStage path 0 Safe (Unclaimed path ours)
  unclaimed = record { stable = K.unclaimed_stable path ours; good = λ may s x. x.safe }

  pub quiet : IsOwnStage path 0 Safe (Quiet path ours)
  quiet = record { stable = K.quiet_stable path ours; good = λ may s x. x.safe }

  pub taken : (line : List ℕ) → IsOwnStage path 0 Safe (Taken path ours line)
  taken line = record { stable = K.taken_stable path ours line; good = λ may s x. x.safe }

  -- less is said of the end
  pub so : {X Y Z : (List ℕ → Bool) → State → Type 0} {a b : Option Past}
      → SafeLeads path ours a b X Y → ((may : List ℕ → Bool) (s : State) → Y may s → Z may s)
      → SafeLeads path ours a b X Z
  so so_far less = weaken path 0 Safe so_far (λ may s x. x) less

  -- a call that was refused, and changed nothing
  pub stayed : {X Y : (List ℕ → Bool) → State → Type 0} {a b c : Option Past} {T : Type 0}
      {e : DiskError} {call : Call} {wanted : List TreeNode → Result T DiskError}
      → SafeLeads path ours a b X Y → Called (Err e) call wanted b c
      → ((wrote : ℕ) (s : State) → after_refused call wrote s ≡ s)
      → IsOwnStage path 0 Safe Y → IsAllowed path 0 call → SafeLeads path ours a c X Y
  stayed {Y = Y} so_far took unchanged y fits =
      stops_short path 0 Safe so_far took fits y y.good (λ may s x. x)
      (λ wrote may s x. subst (Y may) (sym (unchanged wrote s)) x)

  -- the lock was made
  pub made : {a b : Option Past} (held : Bool) (v : Unit {0}) → ours [] ≡ false
      → Called (Ok v) (Create (lock_of path)) (done_by (Create (lock_of path))) a b
      → SafeLeads path ours a b (Entered path ours held) (Locking path ours (IsDurable []) AnyState)
  made {a} held v never took =
      goes_judged path 0 Safe (L.nothing path ours a (L.entered path ours held)) took (inl refl)
      (L.entered path ours held) fresh
      (λ may s judged x. K.lock_made path ours never may s (was_free s (lock_of path) v judged)
      x.safe)

  -- the tail file was looked for under it
  pub fresh_seen : {a b : Option Past} → SeesTail path a b
      → SafeLeads path ours a b (Locking path ours (IsDurable []) AnyState)
      (Locking path ours (IsDurable []) AnyState)
  fresh_seen sees = L.looked path ours sees.1 refl tt fresh

  pub fresh_missed : {a b : Option Past} → MissesTail path a b
      → SafeLeads path ours a b (Locking path ours (IsDurable []) AnyState)
      (Locking path ours (λ file. file.bytes ≡ []) (NoTail path))
  fresh_missed {a} took =
      misses path 0 Safe (L.nothing path ours a fresh) took tt fresh
      (filling (λ file. file.bytes ≡ [])).good
      (λ may s judged x. record {
        safe = x.safe;
        number = x.number;
        at = x.at;
        mine = x.mine;
        is = x.is.holds;
        beside = no_file_seen s (tail_of path) judged;
      })

  module _ {X : (List ℕ → Bool) → State → Type 0} {a b c : Option Past} {T : Type 0} where
    pub written : {v : T} (line : List ℕ) {wanted : List TreeNode → Result T DiskError}
        → SafeLeads path ours a b X (Locking path ours (λ file. file.bytes ≡ []) (NoTail path))
        → Called (Ok v) (WriteAt (lock_of path) 0 line) wanted b c
        → SafeLeads path ours a c X (Locking path ours (λ file. file.bytes ≡ line) (NoTail path))
    written line so_far took =
        goes_on path 0 Safe so_far took (inl (inl refl)) (filling (λ file. file.bytes ≡ []))
        (filling (λ file. file.bytes ≡ line)) (K.line_written path ours line)

    pub torn : {e : DiskError} (line : List ℕ) {wanted : List TreeNode → Result T DiskError}
        → SafeLeads path ours a b X (Locking path ours (λ file. file.bytes ≡ []) (NoTail path))
        → Called (Err e) (WriteAt (lock_of path) 0 line) wanted b c
        → SafeLeads path ours a c X (Locking path ours AnyFile (NoTail path))
    torn line so_far took =
        stops_short path 0 Safe so_far took (inl (inl refl)) (filling (λ file. file.bytes ≡ []))
        (filling AnyFile).good (K.any_file path ours (λ file. file.bytes ≡ []) (NoTail path))
        (λ wrote. K.line_torn path ours (λ file. file.bytes ≡ []) line wrote)

    pub synced : {v : T} (line : List ℕ) {wanted : List TreeNode → Result T DiskError}
        → SafeLeads path ours a b X (Locking path ours (λ file. file.bytes ≡ line) (NoTail path))
        → Called (Ok v) (Sync (lock_of path)) wanted b c
        → SafeLeads path ours a c X (Taken path ours line)
    synced line so_far took =
        goes_on path 0 Safe so_far took (inl (inl refl)) (filling (λ file. file.bytes ≡ line))
        (taken line) (λ may s x. K.line_taken path ours line may _
        (K.line_synced path ours line may s x))

    pub dropped : {v : T} {wanted : List TreeNode → Result T DiskError}
        → SafeLeads path ours a b X (Unclaimed path ours)
        → Called (Ok v) (Remove (lock_of path)) wanted b c
        → SafeLeads path ours a c X (Unclaimed path ours)
    dropped so_far took =
        goes_on path 0 Safe so_far took (inl refl) unclaimed unclaimed (K.lock_dropped path ours)

    pub drop_kept : {v : T} {dir : List ℕ} {wanted : List TreeNode → Result T DiskError}
        → SafeLeads path ours a b X (Unclaimed path ours) → Called (Ok v) (SyncDir dir) wanted b c
        → SafeLeads path ours a c X (Unclaimed path ours)
    drop_kept {dir = dir} so_far took =
        goes_on path 0 Safe so_far took tt unclaimed unclaimed (K.unclaimed_kept path ours dir)

    pub quieted : {v : T} {dir : List ℕ} {wanted : List TreeNode → Result T DiskError}
        → SafeLeads path ours a b X (Idle path ours) → Called (Ok v) (SyncDir dir) wanted b c
        → SafeLeads path ours a c X (Quiet path ours)
    quieted {dir = dir} so_far took =
        goes_on path 0 Safe so_far took tt (L.idle path ours) quiet (K.idle_quiet path ours dir)

  module _ {X : (List ℕ → Bool) → State → Type 0} {a b c : Option Past} where
    pub quiet_read : SafeLeads path ours a b X (Quiet path ours) → ReadsLock path b c
        → SafeLeads path ours a c X (Quiet path ours)
    quiet_read so_far reads =
        L.on path ours so_far (L.looked path ours reads.2 refl tt quiet)

    pub line_read : (line : List ℕ) → SafeLeads path ours a b X (Quiet path ours)
        → ReadsLine path line b c
        → SafeLeads path ours a c X (Locking path ours (λ file. file.bytes ≡ line) (NoTail path))
    line_read line so_far reads =
        goes_judged path 0 Safe so_far reads.2 tt quiet (filling (λ file. file.bytes ≡ line))
        (λ may s judged x. K.quiet_locking path ours (λ file. file.bytes ≡ line) may s
        (file_read s (lock_of path) reads.0 reads.1 line judged) x)

    pub cut : (v : Unit {0}) → SafeLeads path ours a b X (Quiet path ours)
        → Called (Ok v) (Cut (lock_of path) 0) (done_by (Cut (lock_of path) 0)) b c
        → SafeLeads path ours a c X (Locking path ours (λ file. file.bytes ≡ []) (NoTail path))
    cut v so_far took =
        goes_judged path 0 Safe so_far took (inl (inl refl)) quiet
        (filling (λ file. file.bytes ≡ []))
        (λ may s judged x. K.lock_cut path ours may s
        (K.quiet_locking path ours AnyFile may s (K.cut_file s (lock_of path) 0 v judged) x))

  -- names are put on the disk, or not
  pub dropped_anyhow : {a b : Option Past} {dir : List ℕ} {result : Result (Unit {0}) DiskError}
      {wanted : List TreeNode → Result (Unit {0}) DiskError}
      → Called result (SyncDir dir) wanted a b
      → SafeLeads path ours a b (Unclaimed path ours) (Unclaimed path ours)
  dropped_anyhow {a = a} {result = Ok v} took = drop_kept (L.nothing path ours a unclaimed) took
  dropped_anyhow {a = a} {result = Err e} took =
      stayed (L.nothing path ours a unclaimed) took (λ wrote s. refl) unclaimed tt

  -- the lock is ready

  pub taken_unclaimed : (line : List ℕ) (may : List ℕ → Bool) (s : State)
      → Taken path ours line may s → Unclaimed path ours may s
  taken_unclaimed line may s x = record { safe = x.safe; idle = inl x.none }

  pub taken_ready : (line : List ℕ) (may : List ℕ → Bool) (s : State) → Taken path ours line may s
      → Ready path ours line may s
  taken_ready line may s x = record {
    safe = x.safe;
    none = x.none;
    lock = (x.lock.0, x.lock.1, (line, x.lock.2, inl refl));
  }

  pub put_ready : (text line : List ℕ) (may : List ℕ → Bool) (s : State) → IsPut path ours text may
      s
      → Ready path ours line may s
  put_ready text line may s x = record {
    safe = (L.put path ours text).good may s x;
    none = x.1.no_tail;
    lock = (x.1.now.0, x.1.now.1, (x.1.now.2.0, x.1.now.2.1, inr x.1.now.2.2));
  }

-- a refusal that finds something in its way changes nothing

look_one : (actions : List Action) (entry : Entry) → looks entry ≡ true
    → all_look (map Others actions ++ entry ∷ []) ≡ true
look_one [] entry is = and_from (looks entry) true is refl
look_one (action ∷ actions) entry is = look_one actions entry is

pub exists_looks : {T : Type 0} (why : DiskError) (call : Call)
    (wanted : List TreeNode → Result T DiskError) (a b : Option Past) → why ≡ Exists
    → Called (Err why) call wanted a b → LooksOnly a b
exists_looks {T} why call wanted a b is took =
    by_past a b (subst (λ (e : DiskError). Called {A = T} (Err e) call wanted a b) is took).goes
  where
    by_past : (a b : Option Past) → GoesOn (StepBy {A = T} (Err Exists) call wanted) a b →
        LooksOnly a b
    by_past None b step = step
    by_past (Some past) None step = absurd step
    by_past (Some past) (Some new) step = record {
      same_first = step.same_first;
      more = map Others step.actions ++ Own call step.answer ∷ [];
      journal = step.journal;
      look = look_one step.actions (Own call step.answer)
          (ap (λ (answer : Answer). looks (Own call answer)) step.answered
          ∙ or_right (is_look call) true refl);
    }

-- Serving, one part behind another.

last_rose : (a b c : ℕ) → a ≤ b → b ≤ c → Rose a b → Rose a c
last_rose a b c le le' (inl lt) = inl (omega (arith, lt, le'))
last_rose a b c le le' (inr last) = ⊎_elim
    (λ (lt : a < c). inl lt)
    (λ (back : c ≤ a). inr (omega (arith, le, le', back, last)))
    (cases_lt a c)

pub serves_before : {A E : Type 0} (fault : E) (result : Result A E) (old mid new : Seen)
    → Serves fault result old mid → Grows mid.told new.told → CountsOn mid new
    → Serves fault result old new
serves_before fault result old mid new first grows counts = record {
  grows = grows_then old.told mid.told new.told first.grows grows;
  marks = omega (arith, first.marks, counts.marks);
  faults = omega (arith, first.faults, counts.faults);
  cause = λ is. last_rose old.faults mid.faults new.faults first.faults counts.faults
      (first.cause is);
}

pub looked_serves : {A E B : Type 0} {found : B} (fault : E) (result : Result A E) (old : Seen)
    {mid : Seen} (new : Seen)
    → LooksOnly old.told mid.told → Counted {A = B} (Ok found) old mid → Serves fault result mid new
    → Serves fault result old new
looked_serves fault result old {mid} new looks counted next =
    serves_then fault result old mid new (looks_grows old.told mid.told looks) counted.marks
    counted.faults next

pub ok_serves : (old new : Seen) → Grows old.told new.told → Counted {A = Unit {0}} (Ok tt) old new
    → Serves {A = Unit {0}} Fault (Ok tt) old new
ok_serves old new grows counted = serves_ok Fault old new grows counted

pub err_serves : {B : Type 0} (why : DiskError) (told : TailError) (old new : Seen)
    → told ≡ tail_error why → Grows old.told new.told → Counted {A = B} (Err why) old new
    → Serves {A = Unit {0}} Fault (Err told) old new
err_serves why told old new e grows counted =
    subst (λ (t : TailError). Serves {A = Unit {0}} Fault (Err t) old new) (sym e)
    (serves_tail why old new grows counted)

pub looks_grow : (a b : Option Past) → LooksOnly a b → Grows a b
looks_grow a b looks = looks_grows a b looks

-- What the calls promise, by what their parts do.

not_locked : (why : DiskError) → IsErrOf {T = Unit {0}} (Err (tail_error why)) Locked → ⊥
not_locked NotThere is = cc
not_locked WrongNode is = cc
not_locked Exists is = cc
not_locked (Long size) is = cc
not_locked DiskFault is = cc
not_locked NoRoom is = cc

not_unfinished : (why : DiskError)
    → IsErrOf {T = Unit {0}} (Err (tail_error why)) Unfinished → ⊥
not_unfinished NotThere is = cc
not_unfinished WrongNode is = cc
not_unfinished Exists is = cc
not_unfinished (Long size) is = cc
not_unfinished DiskFault is = cc
not_unfinished NoRoom is = cc

pub never_unfinished : (why : DiskError) (told : TailError) → told ≡ tail_error why
    → IsErrOf {T = Unit {0}} (Err told) Unfinished → ⊥
never_unfinished why told e =
    subst (λ (t : TailError). IsErrOf {T = Unit {0}} (Err t) Unfinished → ⊥) (sym e)
    (not_unfinished why)

pub never_locked : (why : DiskError) (told : TailError) → told ≡ tail_error why
    → IsErrOf {T = Unit {0}} (Err told) Locked → ⊥
never_locked why told e =
    subst (λ (t : TailError). IsErrOf {T = Unit {0}} (Err t) Locked → ⊥) (sym e) (not_locked why)

-- a call was refused, and nothing was changed
pub take_refused : {B : Type 0} (path owner : List ℕ) (held new_held : Bool) (why : DiskError)
    (told : TailError) (old new : Seen) → told ≡ tail_error why
    → ((ours : List ℕ → Bool) → Knows owner ours
    → SafeLeads path ours old.told new.told (Entered path ours held) (IsSafe path ours))
    → Grows old.told new.told → Counted {A = B} (Err why) old new
    → TakesLock path owner held new_held (Err told) old new
take_refused path owner held new_held why told old new e stays grows counted =
    subst (λ (t : TailError). TakesLock path owner held new_held (Err t) old new) (sym e)
    (record {
      stays = stays;
      takes = tt;
      serves = serves_tail why old new grows counted;
      locked = λ is. absurd (not_locked why is);
      unfinished = λ is. absurd (not_unfinished why is);
      is_held = tt;
      locked_for = λ is. absurd (not_locked why is);
      unfinished_for = λ is. absurd (not_unfinished why is);
    })

-- somebody else has the lock
pub take_locked : (path owner : List ℕ) (held new_held found : Bool) (old new : Seen)
    → new_held ≡ false
    → ((ours : List ℕ → Bool)
    → SafeLeads path ours old.told new.told (Entered path ours held) (Entered path ours held))
    → LooksOnly old.told new.told → Counted {A = Bool} (Ok found) old new
    → IsNotOurs path owner held old.told new.told
    → TakesLock path owner held new_held (Err Locked) old new
take_locked path owner held new_held found old new none stays looks counted foreign = record {
  stays = λ ours knows. L.only path ours (stays ours) (L.entered path ours held);
  takes = tt;
  serves = record {
    grows = looks_grows old.told new.told looks;
    marks = counted.marks;
    faults = counted.faults;
    cause = λ is. absurd (cc);
  };
  locked = λ is. (looks, none);
  unfinished = λ is. absurd (cc);
  is_held = tt;
  locked_for = λ is. foreign;
  unfinished_for = λ is. absurd (cc);
}

-- the lock is ours
pub take_owned : (path owner line : List ℕ) (held new_held : Bool) (old mid new : Seen)
    → line ≡ line_of owner → new_held ≡ true
    → ((ours : List ℕ → Bool) → PassesOwn owner ours
    → SafeLeads path ours old.told mid.told (Entered path ours held) (Right path ours))
    → LooksOnly old.told mid.told → old.marks ≤ mid.marks → old.faults ≤ mid.faults
    → ((ours : List ℕ → Bool)
    → SafeLeads path ours mid.told new.told (Right path ours) (Ready path ours line))
    → Counted {A = Unit {0}} (Ok tt) mid new
    → TakesLock path owner held new_held (Ok tt) old new
take_owned path owner line held new_held old mid new is held_is own looks marks faults ready
    counted =
    let whole : (ours : List ℕ → Bool) → Knows owner ours
    → SafeLeads path ours old.told new.told (Entered path ours held) (Ready path ours line) =
    λ ours knows. L.on path ours (own ours knows.passes) (ready ours) in
    record {
      stays = λ ours knows. L.ends path ours (whole ours knows) (λ may s x. x.safe);
      takes = λ ours knows. subst (λ (l : List ℕ). SafeLeads path ours old.told new.told
          (Entered path ours held) (Ready path ours l)) is (whole ours knows);
      serves = serves_then Fault (Ok tt) old mid new (looks_grows old.told mid.told looks) marks
          faults
          (serves_ok Fault mid new (leads_grows (ready (λ l. false))) counted);
      locked = λ e. absurd (cc);
      unfinished = λ e. absurd (cc);
      is_held = held_is;
      locked_for = λ e. absurd (cc);
      unfinished_for = λ e. absurd (cc);
    }

pub take_unowned : (path owner : List ℕ) (held new_held : Bool) (why : DiskError) (told : TailError)
    (old mid new : Seen) → told ≡ tail_error why
    → ((ours : List ℕ → Bool) → PassesOwn owner ours
    → SafeLeads path ours old.told mid.told (Entered path ours held) (Right path ours))
    → LooksOnly old.told mid.told → old.marks ≤ mid.marks → old.faults ≤ mid.faults
    → ((ours : List ℕ → Bool)
    → SafeLeads path ours mid.told new.told (Right path ours) (IsSafe path ours))
    → Counted {A = Unit {0}} (Err why) mid new
    → TakesLock path owner held new_held (Err told) old new
take_unowned path owner held new_held why told old mid new e own looks marks faults stays counted =
    subst (λ (t : TailError). TakesLock path owner held new_held (Err t) old new) (sym e)
    (record {
      stays = λ ours knows. L.on path ours (own ours knows.passes) (stays ours);
      takes = tt;
      serves = serves_then Fault (Err (tail_error why)) old mid new
          (looks_grows old.told mid.told looks) marks faults
          (serves_tail why mid new (leads_grows (stays (λ l. false))) counted);
      locked = λ is. absurd (not_locked why is);
      unfinished = λ is. absurd (not_unfinished why is);
      is_held = tt;
      locked_for = λ is. absurd (not_locked why is);
      unfinished_for = λ is. absurd (not_unfinished why is);
    })

-- the lock was just made
pub take_made : (path owner line : List ℕ) (held new_held : Bool)
    (result : Result (Unit {0}) TailError) (old mid new : Seen) → line ≡ line_of owner
    → ((ours : List ℕ → Bool) → ours [] ≡ false
    → SafeLeads path ours old.told mid.told (Entered path ours held)
    (Locking path ours (IsDurable []) AnyState))
    → Grows old.told mid.told → LockAlone path old.told mid.told → old.marks ≤ mid.marks →
    old.faults ≤ mid.faults
    → ((ours : List ℕ → Bool) → ours [] ≡ false
    → SafeLeads path ours mid.told new.told (Locking path ours (IsDurable []) AnyState)
    (IsSafe path ours))
    → OnOk result ((ours : List ℕ → Bool) → ours [] ≡ false
    → SafeLeads path ours mid.told new.told (Locking path ours (IsDurable []) AnyState)
    (Ready path ours line))
    → IfUnfinished result (MetTail path mid.told new.told) (LockAlone path mid.told new.told)
    → Serves Fault result mid new → (IsErrOf result Locked → ⊥) → OnOk result (new_held ≡ true)
    → WasSeen (MadeLock path) old.told mid.told
    → TakesLock path owner held new_held result old new
take_made path owner line held new_held result old mid new is first grows own marks faults stays
    ready left serves never held_is lock =
    record {
      stays = λ ours knows. L.on path ours (first ours knows.empty) (stays ours knows.empty);
      takes = L.on_ok result ready (λ each ours knows. L.on path ours (first ours knows.empty)
          (subst (λ (l : List ℕ). SafeLeads path ours mid.told new.told
          (Locking path ours (IsDurable []) AnyState) (Ready path ours l)) is
          (each ours knows.empty)));
      serves = serves_then Fault result old mid new grows marks faults serves;
      locked = λ e. absurd (never e);
      unfinished = λ e. let both = left e in (
        meets_later path old.told mid.told new.told grows both.0.0,
        alone_then path old.told mid.told new.told own both.1,
      );
      is_held = held_is;
      locked_for = λ e. absurd (never e);
      unfinished_for = λ e.
          met_under path old.told mid.told new.told grows serves.grows lock (left e).0.1;
    }

-- looks come before
pub then_takes : (path owner : List ℕ) (held new_held : Bool) (result : Result (Unit {0}) TailError)
    (old mid new : Seen)
    → ((ours : List ℕ → Bool)
    → SafeLeads path ours old.told mid.told (Entered path ours held) (Entered path ours held))
    → LooksOnly old.told mid.told → LockAlone path old.told mid.told → old.marks ≤ mid.marks →
    old.faults ≤ mid.faults
    → TakesLock path owner held new_held result mid new
    → TakesLock path owner held new_held result old new
then_takes path owner held new_held result old mid new first looks own marks faults next = record {
  stays = λ ours knows. L.on path ours (first ours) (next.stays ours knows);
  takes = L.on_ok result next.takes (λ each ours knows. L.on path ours (first ours)
      (each ours knows));
  serves = serves_then Fault result old mid new (looks_grows old.told mid.told looks) marks faults
      next.serves;
  locked = λ is. let left = next.locked is in
      (looks_then old.told mid.told new.told looks left.0, left.1);
  unfinished = λ is. let left = next.unfinished is in (
    meets_later path old.told mid.told new.told (looks_grows old.told mid.told looks) left.0,
    alone_then path old.told mid.told new.told own left.1,
  );
  is_held = next.is_held;
  locked_for = λ is. not_ours_later path owner held (looks_grows old.told mid.told looks)
      (next.locked_for is);
  unfinished_for = λ is. under_later path old.told mid.told new.told
      (looks_grows old.told mid.told looks) (next.unfinished_for is);
}

-- memory ran out before the first call
pub untaken : (path owner : List ℕ) (held : Bool) (s : Seen)
    → TakesLock path owner held held (Err NoMemory) s s
untaken path owner held s = record {
  stays = λ ours knows. L.only path ours (L.nothing path ours s.told (L.entered path ours held))
      (L.entered path ours held);
  takes = tt;
  serves = serves_none Fault (Err NoMemory) s (λ is. absurd (cc));
  locked = λ is. absurd (cc);
  unfinished = λ is. absurd (cc);
  is_held = tt;
  locked_for = λ is. absurd (cc);
  unfinished_for = λ is. absurd (cc);
}

pub taken_there : (path home owner : List ℕ) (held new_held : Bool)
    (result : Result (Unit {0}) TailError) (old new : Seen) → home ≡ path
    → TakesLock home owner held new_held result old new
    → TakesLock path owner held new_held result old new
taken_there path home owner held new_held result old new e is =
    subst (λ (p : List ℕ). TakesLock p owner held new_held result old new) e is
