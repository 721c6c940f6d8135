-- The lock of a mailbox that is gone is taken away.
use Rattle.std.proofs.Common.{Bool, Err, List, Ok, Option, Result, arith, inl, refl, subst, sym, ℕ}
use Rattle.std.proofs.Common.{◌≡◌}
use Rattle.disk_model.specs.Tree.{TreeNode}
use Rattle.disk_model.specs.Journal.{Call, Past, Remove}
use Rattle.disk_model.specs.Judge.{Called, MakesStep, done_by}
use Rattle.disk_model.specs.Seen.{Seen}
use Rattle.disk_model.specs.State.{State}
use Rattle.disk_model.specs.declared.answers.DiskError.{DiskError}
use Rattle.disk_model.proofs.Looking.{grows_same, grows_then}
use Rattle.folder_drivers.specs.MboxLocked.{Locked}
use Rattle.folder_tails.specs.Recovery.{Entered, SafeLeads}
use Rattle.folder_tails.specs.Rows.{IsSafe}
use Rattle.folder_tails.specs.Sides.{lock_of}
use Rattle.folder_tails.proofs.Leading.{goes_on, then, weaken}
use Rattle.folder_tails.proofs.Leads as L
use Rattle.folder_tails.proofs.Names as N
use Rattle.folder_tails.proofs.Recovering as R
use Rattle.mbox_writes.specs.Calls.{GoesOn}
use Rattle.mbox_writes.proofs.Stages.{locked, locked_entered}

-- nothing was called
pub goes_same : (s : Seen) → GoesOn s s
goes_same s = record {
  grows = grows_same s.told;
  marks = omega arith;
  faults = omega arith;
}

-- one call
pub goes_step : {A : Type 0} {result : Result A DiskError} {call : Call}
    {wanted : List TreeNode → Result A DiskError} {bytes : ℕ} {old new : Seen}
    → MakesStep result call wanted bytes old new → GoesOn old new
goes_step step = record {
  grows = step.grows;
  marks = step.counts.marks;
  faults = step.counts.faults;
}

-- one behind another
pub goes_then : (old mid new : Seen) → GoesOn old mid → GoesOn mid new → GoesOn old new
goes_then old mid new first next = record {
  grows = grows_then old.told mid.told new.told first.grows next.grows;
  marks = omega (arith, first.marks, next.marks);
  faults = omega (arith, first.faults, next.faults);
}

module _ (path : List ℕ) (ours : List ℕ → Bool) where
  abbrev Safe : (List ℕ → Bool) → State → Type 0
  Safe = IsSafe path ours

  pub nothing : (a : Option Past) → SafeLeads path ours a a (Locked path ours) Safe
  nothing a = L.ends path ours (L.nothing path ours a (locked path ours)) (λ may s x. x.safe)

  dropped_here : {a b : Option Past} (v : Unit {0})
      → Called (Ok v) (Remove (lock_of path)) (done_by (Remove (lock_of path))) a b
      → SafeLeads path ours a b (Locked path ours) Safe
  dropped_here {a} v took =
      goes_on path 0 Safe (L.nothing path ours a (locked path ours)) took (inl refl)
      (locked path ours) (L.safely path ours)
      (λ may s x. (R.idle_cleared path ours (lock_of path) (N.lock-path path)
      (λ e. N.tail-lock path (sym e)) may s (record { safe = x.safe; none = x.none })).safe)

  kept_here : {a b : Option Past} (why : DiskError)
      → Called {A = Unit {0}} (Err why) (Remove (lock_of path)) (done_by (Remove (lock_of path)))
      a b
      → SafeLeads path ours a b (Locked path ours) Safe
  kept_here {a} why took =
      L.refused path ours (L.nothing path ours a (locked path ours)) took (inl refl)
      (λ wrote s. refl) (locked path ours)

  -- the lock was taken away
  pub dropped : {a b : Option Past} (name : List ℕ) (v : Unit {0}) → name ≡ lock_of path
      → Called (Ok v) (Remove name) (done_by (Remove name)) a b
      → SafeLeads path ours a b (Locked path ours) Safe
  dropped {a} {b} name v is took = dropped_here v
      (subst (λ (p : List ℕ). Called (Ok v) (Remove p) (done_by (Remove p)) a b) is took)

  -- or it was not
  pub kept : {a b : Option Past} (name : List ℕ) (why : DiskError) → name ≡ lock_of path
      → Called {A = Unit {0}} (Err why) (Remove name) (done_by (Remove name)) a b
      → SafeLeads path ours a b (Locked path ours) Safe
  kept {a} {b} name why is took = kept_here why
      (subst (λ (p : List ℕ). Called {A = Unit {0}} (Err why) (Remove p) (done_by (Remove p)) a b)
      is took)

  -- behind a look
  pub behind_look : {a b c : Option Past}
      → SafeLeads path ours a b (Locked path ours) (Locked path ours)
      → SafeLeads path ours b c (Locked path ours) Safe
      → SafeLeads path ours a c (Locked path ours) Safe
  behind_look looked next = then path 0 Safe looked next

  -- what is said of a lock that is held is said of one that is there
  pub from_lock : {a b : Option Past} (held : Bool)
      → SafeLeads path ours a b (Entered path ours held) Safe
      → SafeLeads path ours a b (Locked path ours) Safe
  from_lock held so_far =
      weaken path 0 Safe so_far (locked_entered path ours held) (λ may s x. x)
