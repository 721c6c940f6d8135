-- A mailbox that was read is changed, or not.
use Rattle.std.proofs.Common.{Bool, Err, List, Ok, Option, Result, ap, length, subst, sym}
use Rattle.std.proofs.Common.{take, ℕ}
use Rattle.std.proofs.Common.{inl, inr, ◌++◌, ◌∙◌, ◌≡◌, ◌≤◌}
use Rattle.std.specs.Prelude.{IfOk, OnOk}
use Rattle.disk_model.specs.Journal.{Past}
use Rattle.disk_model.specs.State.{State}
use Rattle.disk_model.specs.Judge.{Grows}
use Rattle.folder_core.specs.Known.{KnownFolder}
use Rattle.folder_core.specs.Limits.{most_bytes}
use Rattle.folder_changes.specs.declared.sync_error.SyncError.{SyncError}
use Rattle.folder_tails.specs.Recovery.{Entered, SafeLeads}
use Rattle.folder_tails.specs.Rows.{IsSafe}
use Rattle.folder_tails.specs.Stages.{Ended, Job, Leads}
use Rattle.folder_tails.specs.Taking.{Knows, Ready}
use Rattle.folder_tails.specs.Tails.{line_of}
use Rattle.folder_tails.proofs.Leading.{weaken}
use Rattle.index_items.specs.Changes.{Changed}
use Rattle.mbox_writes.specs.Calls.{Changes, LockedChanges, Puts, Rewrote, job_for}
use Rattle.folder_drivers.specs.MboxFront.{IsAsKnown}
use Rattle.mbox_writes.specs.Plan.{IsPlan}
use Rattle.folder_drivers.specs.MboxLocked.{Locked, MayPut, Passes, ReadsWhole}
use Rattle.folder_drivers.specs.MboxSync.{UnchangedFor}
use Rattle.folder_drivers.specs.MboxSync.{changed_file, job_of, start_of}
use Rattle.mbox_writes.specs.declared.plan.Plan.{Plan}
use Rattle.mbox_writes.proofs.Stages.{reads_on}
use Rattle.mbox_writes.proofs.Unread.{taken_at, unread_locked}

module _ (known : KnownFolder) (owner : List ℕ) (changes : List Changed) (bytes : List ℕ) where
  abbrev path : List ℕ
  path = known.path

  abbrev new : List ℕ
  new = changed_file known changes bytes

  -- the front of a plan is that of the file
  begins : (plan : Plan) → IsPlan known changes bytes plan
      → take (length plan.front.items) bytes ≡ plan.front.items
  begins plan is = ap (λ (n : ℕ). take n bytes) is.starts ∙ sym is.front

  -- a stage by the plan is the same by the file
  may_new : (plan : Plan) → IsPlan known changes bytes plan → (ours : List ℕ → Bool)
      (may : List ℕ → Bool) (s : State) → MayPut path ours bytes new may s
      → MayPut path ours bytes (plan.front.items ++ plan.tail.items) may s
  may_new plan is ours may s x =
      subst (λ (l : List ℕ). MayPut path ours bytes l may s) (sym is.whole) x

  same_job : (plan : Plan) → IsPlan known changes bytes plan → (ours : List ℕ → Bool)
      → job_for ours plan.front.items plan.tail.items ≡ job_of ours known changes bytes
  same_job plan is ours = λ i. job_for ours (is.front i) (is.tail i)

  pub rewrote : (plan : Plan) (held : Bool) (a b : Option Past) → IsPlan known changes bytes plan
      → Puts path owner plan.front.items plan.tail.items held (Ok tt) a b
      → Rewrote known owner changes bytes held (Ok plan) a b
  rewrote plan held a b is put = record {
    keeps = λ ours passes. weaken path 0 (IsSafe path ours)
        (put.keeps ours passes bytes (begins plan is)) (may_new plan is ours) (λ may s x. x);
    puts = λ ours passes.
        subst (λ (job : Job). Leads path (start_of known changes bytes) (IsSafe path ours) a b
        (MayPut path ours bytes new) (Ended path job)) (same_job plan is ours)
        (subst (λ (n : ℕ). Leads path n (IsSafe path ours) a b (MayPut path ours bytes new)
        (Ended path (job_for ours plan.front.items plan.tail.items))) is.starts
        (weaken path (length plan.front.items) (IsSafe path ours)
        (put.puts ours passes bytes (begins plan is)) (may_new plan is ours) (λ may s x. x)));
    plan = is;
    why = tt;
    given = put.given;
  }

  pub unput : (plan : Plan) (held : Bool) (why : SyncError) (a b : Option Past)
      → IsPlan known changes bytes plan
      → Puts path owner plan.front.items plan.tail.items held (Err why) a b
      → UnchangedFor path known changes bytes why
      → Rewrote known owner changes bytes held (Err why) a b
  unput plan held why a b is put told = record {
    keeps = λ ours passes. weaken path 0 (IsSafe path ours)
        (put.keeps ours passes bytes (begins plan is)) (may_new plan is ours) (λ may s x. x);
    puts = tt;
    plan = tt;
    why = told;
    given = tt;
  }

  pub unplanned : (held : Bool) (why : SyncError) (a b : Option Past)
      → ((ours : List ℕ → Bool) → Passes owner ours
      → SafeLeads path ours a b (Locked path ours) (IsSafe path ours))
      → UnchangedFor path known changes bytes why
      → Rewrote known owner changes bytes held (Err why) a b
  unplanned held why a b back told = record {
    keeps = λ ours passes. weaken path 0 (IsSafe path ours) (back ours passes)
        (λ may s x. x.holds.locked) (λ may s x. x);
    puts = tt;
    plan = tt;
    why = told;
    given = tt;
  }

-- The reading under the lock comes before, and the lock before that.

module _ (known : KnownFolder) (owner : List ℕ) (changes : List Changed) (held : Bool) where
  abbrev home : List ℕ
  home = known.path

  plan_known : (bytes : List ℕ) (result : Result Plan SyncError)
      → IfOk result (IsPlan known changes bytes) → OnOk result (IsAsKnown known bytes)
  plan_known bytes (Ok plan) is = is.as_known
  plan_known bytes (Err why) is = tt

  plan_small : (bytes : List ℕ) (result : Result Plan SyncError)
      → IfOk result (IsPlan known changes bytes)
      → OnOk result (length (changed_file known changes bytes) ≤ most_bytes)
  plan_small bytes (Ok plan) is = is.small
  plan_small bytes (Err why) is = tt

  pub lock_first : (result : Result Plan SyncError) (was : Bool) (a b c : Option Past) → Grows a b
      → ((ours : List ℕ → Bool) → Passes owner ours
      → SafeLeads home ours a b (Entered home ours was) (Locked home ours))
      → LockedChanges owner known changes held result b c
      → Changes owner known changes was held result a c
  lock_first result was a b c grows locks (inl unread) =
      inl (unread_locked home owner was result a b c grows locks unread)
  lock_first result was a b c grows locks (inr read) = inr (record {
    read = record {
      bytes = read.bytes;
      before = b;
      behind = read.behind;
      locks = locks;
      reads = read.reads;
      held_so = λ ours. reads_on home ours read.bytes read.reads;
      keeps = read.went.keeps;
      puts = read.went.puts;
      as_known = plan_known read.bytes result read.went.plan;
      small = plan_small read.bytes result read.went.plan;
      why = read.went.why;
    };
    plan = read.went.plan;
    given = read.went.given;
  })

module _ (known : KnownFolder) (owner : List ℕ) (changes : List Changed) (held : Bool) where
  abbrev mailbox : List ℕ
  mailbox = known.path

  -- the file was read at a path told otherwise
  pub read_so : (bytes there : List ℕ) (result : Result Plan SyncError) (a b c : Option Past)
      → there ≡ mailbox → ReadsWhole there bytes a b
      → Rewrote known owner changes bytes held result b c
      → LockedChanges owner known changes held result a c
  read_so bytes there result a b c is reads went = inr (record {
    bytes = bytes;
    behind = b;
    reads = subst (λ (p : List ℕ). ReadsWhole p bytes a b) is reads;
    went = went;
  })

  -- a lock was taken at a path told otherwise
  pub lock_at : (was : Bool) (there : List ℕ) (result : Result Plan SyncError)
      (a b c : Option Past) → there ≡ mailbox → Grows a b
      → ((ours : List ℕ → Bool) → Knows owner ours
      → SafeLeads there ours a b (Entered there ours was) (Ready there ours (line_of owner)))
      → LockedChanges owner known changes held result b c
      → Changes owner known changes was held result a c
  lock_at was there result a b c is grows takes went =
      lock_first known owner changes held result was a b c grows
      (taken_at mailbox owner was there a b is takes) went
