-- A new end is written under the lock, and the lock is given back behind a refusal.
use Rattle.std.proofs.Common.{Bool, Err, List, Ok, Option, arith, false, length}
use Rattle.std.proofs.Common.{take, ℕ, ◌++◌, ◌≡◌}
use Rattle.disk_model.specs.Journal.{Past}
use Rattle.disk_model.specs.State.{State}
use Rattle.folder_changes.specs.declared.sync_error.SyncError.{SyncError}
use Rattle.folder_tails.specs.Calls.{IsEnd}
use Rattle.folder_tails.specs.Recovery.{Entered, SafeLeads}
use Rattle.folder_tails.specs.Rows.{IsSafe}
use Rattle.folder_tails.specs.Stages.{AnyState, Ended, Job, JobLeads, JobStays, Leads, Staging}
use Rattle.folder_tails.specs.Stages.{Stands}
use Rattle.folder_tails.proofs.Finding.{leads_below}
use Rattle.folder_tails.proofs.Jobs as J
use Rattle.folder_tails.proofs.Leading.{loosen, then, weaken}
use Rattle.mbox_writes.specs.Calls.{NotPutFor, Puts, job_for}
use Rattle.folder_drivers.specs.MboxLocked.{MayPut, Passes}
use Rattle.mbox_writes.proofs.Stages.{staged, stands_entered}

module _ (path : List ℕ) (ours : List ℕ → Bool) (front end : List ℕ) where
  abbrev this : Job
  this = job_for ours front end

  abbrev Safe : (List ℕ → Bool) → State → Type 0
  Safe = IsSafe path ours

  -- what is said of a write of the end, said of the mailbox as it was read
  from_read : {Z : (List ℕ → Bool) → State → Type 0} {a b : Option Past} (bytes : List ℕ)
      → take (length front) bytes ≡ front
      → JobLeads path this a b (Staging path this AnyState) Z
      → Leads path (length front) Safe a b (MayPut path ours bytes (front ++ end)) Z
  from_read bytes begins so_far =
      weaken path (length front) Safe
      (loosen path (length front) (Stands path this) Safe (λ may s x. x.safe) so_far)
      (staged path ours front end bytes begins) (λ may s x. x)

  -- answered Ok, each stop leaves what may be left
  pub put_safe : {a b : Option Past} (bytes : List ℕ) → take (length front) bytes ≡ front
      → JobLeads path this a b (Staging path this AnyState) (Ended path this)
      → SafeLeads path ours a b (MayPut path ours bytes (front ++ end)) Safe
  put_safe bytes begins so_far =
      leads_below path 0 (length front) (omega arith)
      (weaken path (length front) Safe (from_read bytes begins so_far) (λ may s x. x)
      (λ may s x. ((J.ended path this).good may s x).safe))

  -- refused, it does so too, with the lock given back
  pub unput_safe : {a b c : Option Past} (held : Bool) (bytes : List ℕ)
      → take (length front) bytes ≡ front
      → JobStays path this a b (Staging path this AnyState)
      → SafeLeads path ours b c (Entered path ours held) Safe
      → SafeLeads path ours a c (MayPut path ours bytes (front ++ end)) Safe
  unput_safe held bytes begins so_far back =
      then path 0 Safe
      (weaken path 0 Safe (leads_below path 0 (length front) (omega arith)
      (from_read bytes begins so_far)) (λ may s x. x)
      (stands_entered path ours this held)) back

  pub put_so : {a b : Option Past} (bytes : List ℕ) → take (length front) bytes ≡ front
      → JobLeads path this a b (Staging path this AnyState) (Ended path this)
      → Leads path (length front) Safe a b (MayPut path ours bytes (front ++ end))
      (Ended path this)
  put_so bytes begins so_far = from_read bytes begins so_far

module _ (path owner front end : List ℕ) (held : Bool) where
  -- the job of a call that was lent the length of the front
  is_end : (ours : List ℕ → Bool) (at : ℕ) (tail : List ℕ) → at ≡ length front → tail ≡ end
      → IsEnd at tail (job_for ours front end)
  is_end ours at tail e f = record { behind = e; bytes = f }

  pub was_put : (a b : Option Past) (at : ℕ) (tail : List ℕ) → at ≡ length front → tail ≡ end
      → ((job : Job) → IsEnd at tail job
      → JobLeads path job a b (Staging path job AnyState) (Ended path job))
      → held ≡ false → Puts path owner front end held (Ok tt) a b
  was_put a b at tail e f ends given = record {
    keeps = λ ours passes bytes begins.
        put_safe path ours front end bytes begins (ends _ (is_end ours at tail e f));
    puts = λ ours passes bytes begins.
        put_so path ours front end bytes begins (ends _ (is_end ours at tail e f));
    why = tt;
    given = given;
  }

  pub was_not_put : (a b c : Option Past) (at : ℕ) (tail : List ℕ) (was : Bool) (why : SyncError)
      → at ≡ length front → tail ≡ end
      → ((job : Job) → IsEnd at tail job → JobStays path job a b (Staging path job AnyState))
      → ((ours : List ℕ → Bool) → Passes owner ours
      → SafeLeads path ours b c (Entered path ours was) (IsSafe path ours))
      → NotPutFor path why → Puts path owner front end held (Err why) a c
  was_not_put a b c at tail was why e f stays back told = record {
    keeps = λ ours passes bytes begins.
        unput_safe path ours front end was bytes begins (stays _ (is_end ours at tail e f))
        (back ours passes);
    puts = tt;
    why = told;
    given = tt;
  }
