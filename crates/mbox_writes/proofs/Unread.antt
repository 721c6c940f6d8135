-- A file that was not read under the lock, and a lock that was not taken.
use Rattle.std.proofs.Common.{Bool, Err, List, Option, Result, ap, subst, ℕ, ◌≡◌, ◌⊎◌}
use Rattle.disk_model.specs.Journal.{Past}
use Rattle.disk_model.specs.Judge.{Grows}
use Rattle.disk_model.specs.Seen.{Seen}
use Rattle.folder_changes.specs.declared.sync_error.SyncError.{SyncError}
use Rattle.folder_changes.specs.declared.sync_error.SyncError.TheVariants.{NoMemory}
use Rattle.folder_drivers.specs.MboxLocked.{Locked, Passes}
use Rattle.folder_drivers.specs.MboxSync.{Unread}
use Rattle.folder_tails.specs.Calls.{TakesLock}
use Rattle.folder_tails.specs.Recovery.{Entered, SafeLeads}
use Rattle.folder_tails.specs.Rows.{IsSafe}
use Rattle.folder_tails.specs.Taking.{Knows, Ready}
use Rattle.folder_tails.specs.Tails.{line_of}
use Rattle.folder_tails.specs.declared.error.TailError.{TailError}
use Rattle.folder_tails.proofs.Leading.{then, weaken}
use Rattle.mbox_writes.specs.Calls.{ReadFor, Unreadable}
use Rattle.mbox_writes.specs.Refusals.{TellsTail}
use Rattle.mbox_writes.proofs.Causes.{given_for, read_before, unread_for, untaken_for}
use Rattle.mbox_writes.proofs.Stages.{ready_locked}
use Rattle.mbox_writes.proofs.Traces.{if_err}

-- a refusal behind which the lock was given back, at a path told otherwise
pub back_at : (path home owner : List ℕ) (a b : Option Past) → home ≡ path
    → ((ours : List ℕ → Bool) → Passes owner ours
    → SafeLeads home ours a b (Locked home ours) (IsSafe home ours))
    → (ours : List ℕ → Bool) → Passes owner ours
    → SafeLeads path ours a b (Locked path ours) (IsSafe path ours)
back_at path home owner a b is back ours passes =
    subst (λ (p : List ℕ). SafeLeads p ours a b (Locked p ours) (IsSafe p ours)) is
    (back ours passes)

module _ (path owner : List ℕ) (was : Bool) where
  -- the file was not read, and the lock was given back
  pub unreadable : {A : Type 0} (there again : List ℕ) (why result : SyncError)
      (a b c : Option Past) → there ≡ path → again ≡ path
      → ((ours : List ℕ → Bool)
      → SafeLeads there ours a b (Locked there ours) (Locked there ours))
      → ReadFor there why a b → (result ≡ why) ⊎ (result ≡ NoMemory)
      → ((ours : List ℕ → Bool) → Passes owner ours
      → SafeLeads again ours b c (Locked again ours) (IsSafe again ours))
      → Grows b c → Unreadable path owner {A = A} (Err result) a c
  unreadable there again why result a b c is same stays unread told back grows = record {
    not_done = tt;
    keeps = λ ours passes. then path 0 (IsSafe path ours)
        (subst (λ (p : List ℕ). SafeLeads p ours a b (Locked p ours) (Locked p ours)) is
        (stays ours))
        (back_at path again owner b c same back ours passes);
    why = given_for (λ why. ReadFor path why a c) why result told
        (read_before path why a b c grows
        (subst (λ (p : List ℕ). ReadFor p why a b) is unread)) tt;
  }

  -- a lock was taken at a path told otherwise
  pub taken_at : (there : List ℕ) (a b : Option Past) → there ≡ path
      → ((ours : List ℕ → Bool) → Knows owner ours
      → SafeLeads there ours a b (Entered there ours was) (Ready there ours (line_of owner)))
      → (ours : List ℕ → Bool) → Passes owner ours
      → SafeLeads path ours a b (Entered path ours was) (Locked path ours)
  taken_at there a b is takes ours passes =
      weaken path 0 (IsSafe path ours)
      (subst (λ (p : List ℕ). SafeLeads p ours a b (Entered p ours was)
      (Ready p ours (line_of owner))) is (takes ours passes.knows)) (λ may s x. x)
      (λ may s x. ready_locked path ours owner may s passes x)

  -- it was taken, and the file was not read under it
  pub unread_locked : {A : Type 0} (result : Result A SyncError) (a b c : Option Past)
      → Grows a b
      → ((ours : List ℕ → Bool) → Passes owner ours
      → SafeLeads path ours a b (Entered path ours was) (Locked path ours))
      → Unreadable path owner result b c → Unread path owner was result a c
  unread_locked result a b c grows locks unread = record {
    not_done = unread.not_done;
    keeps = λ ours passes. then path 0 (IsSafe path ours) (locks ours passes)
        (unread.keeps ours passes);
    why = if_err result (λ why is. unread_for path why a b c grows is) unread.why;
  }

  -- no lock was taken
  pub untaken : {A : Type 0} (held : Bool) (there again : List ℕ) (why : TailError)
      (told : SyncError) (old new : Seen) → there ≡ path → again ≡ path
      → TakesLock there owner was held (Err why) old new → TellsTail again why told
      → Unread path owner was {A = A} (Err told) old.told new.told
  untaken held there again why told old new is same takes tells =
      let took = subst (λ (p : List ℕ). TakesLock p owner was held (Err why) old new) is takes in
      record {
        not_done = tt;
        keeps = λ ours passes. took.stays ours passes.knows;
        why = untaken_for path why told old.told new.told
            (λ e. (took.locked (ap (λ (e : TailError). Err e) e)).0)
            (λ e. took.unfinished (ap (λ (e : TailError). Err e) e))
            (subst (λ (p : List ℕ). TellsTail p why told) same tells);
      }
