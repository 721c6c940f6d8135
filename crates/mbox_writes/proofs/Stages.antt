-- The stages in which a mailbox is read under its lock, and how calls lead from one to the next.
use Rattle.std.proofs.Common.{Bool, List, Option, ap, drop, inl, inr, length, refl, subst, sym}
use Rattle.std.proofs.Common.{take}
use Rattle.std.proofs.Common.{take-append-drop, true, ℕ, ◌++◌, ◌∙◌, ◌≡◌, ◌⊎◌}
use Rattle.disk_model.specs.Journal.{Action, Past}
use Rattle.disk_model.specs.State.{State, after_action, barrier, file_at, is_file}
use Rattle.folder_core.specs.Limits.{most_bytes}
use Rattle.folder_stops.specs.Rows.{IsDurable}
use Rattle.folder_tails.specs.Others.{MayDo, with_action}
use Rattle.folder_tails.specs.Recovery.{Entered, SafeLeads}
use Rattle.folder_tails.specs.Rows.{At, HasNoTail, IsLock, IsSafe, Row}
use Rattle.folder_tails.specs.Sides.{lock_of}
use Rattle.folder_tails.specs.Stages.{AnyState, Job, Stands, Staging}
use Rattle.folder_tails.specs.Taking.{Ready}
use Rattle.folder_tails.specs.Tails.{line_of}
use Rattle.folder_tails.proofs.Files.{durable_front}
use Rattle.folder_tails.proofs.Leading.{IsOwnStage, goes_judged}
use Rattle.folder_tails.proofs.Leads as L
use Rattle.folder_tails.proofs.Recovering as R
use Rattle.folder_tails.proofs.Same.{at_same, same_action}
use Rattle.folder_tails.proofs.Stages.{kept_action, quiet}
use Rattle.mbox_writes.specs.Calls.{job_for}
use Rattle.folder_drivers.specs.MboxLocked.{Holds, Locked, MayPut, Passes, ReadsWhole}

-- with no tail file the mailbox is what it settles to
plain_mail : (path : List ℕ) (ours : List ℕ → Bool) (bytes : List ℕ) (s : State)
    → HasNoTail path s.names → Row path ours bytes s.files s.names
    → At path (IsDurable bytes) s.files s.names
plain_mail path ours bytes s none (inl plain) = plain.mail
plain_mail path ours bytes s none (inr tailed) =
    let is = ap is_file tailed.3.tail.1 in absurd (cc (none, is))

module _ (path : List ℕ) (ours : List ℕ → Bool) where
  abbrev Safe : (List ℕ → Bool) → State → Type 0
  Safe = IsSafe path ours

  locked_stable : (action : Action) (may : List ℕ → Bool) (s : State) → MayDo path action s
      → Locked path ours may s
      → Locked path ours (with_action path action s may) (barrier (after_action action s))
  locked_stable action may s may_do x = record {
    safe = R.safe_stable path ours action may s may_do x.safe;
    none = R.no_tail_after path ours action s may_do x.safe.sound x.none;
    lock = at_same (lock_of path) (IsLock ours true) _ _ _ _
        (same_action (lock_of path) action s may_do.0.1.1.0 x.safe.sound) x.lock;
  }

  holds_stable : (bytes : List ℕ) (action : Action) (may : List ℕ → Bool) (s : State)
      → MayDo path action s → Holds path ours bytes may s
      → Holds path ours bytes (with_action path action s may) (barrier (after_action action s))
  holds_stable bytes action may s may_do x =
      let q = quiet path action s x.locked.lock.0 x.locked.lock.1 may_do in
      let kept = kept_action path action s q.mail q.tail q.lock x.locked.safe.sound in
      record {
        locked = locked_stable action may s may_do x.locked;
        mail = at_same path (IsDurable bytes) _ _ _ _ kept.mail x.mail;
      }

  pub locked : IsOwnStage path 0 Safe (Locked path ours)
  locked = record { stable = locked_stable; good = λ may s x. x.safe }

  pub holds : (bytes : List ℕ) → IsOwnStage path 0 Safe (Holds path ours bytes)
  holds bytes = record { stable = holds_stable bytes; good = λ may s x. x.locked.safe }

  pub may_put : (bytes new : List ℕ) → IsOwnStage path 0 Safe (MayPut path ours bytes new)
  may_put bytes new = record {
    stable = λ action may s may_do x.
        let q = quiet path action s x.holds.locked.lock.0 x.holds.locked.lock.1 may_do in
        record {
          holds = holds_stable bytes action may s may_do x.holds;
          passes = ap (λ (test : List ℕ → Bool). test new) (q.same may) ∙ x.passes;
        };
    good = λ may s x. x.holds.locked.safe;
  }

  -- what was read is what the mailbox settles to
  read_there : (bytes : List ℕ) (may : List ℕ → Bool) (s : State)
      → At path (λ file. file.bytes ≡ bytes) s.files s.names → Locked path ours may s
      → Holds path ours bytes may s
  read_there bytes may s there x =
      let row = x.safe.rows s.names (inl refl) in
      let mail = plain_mail path ours row.0 s x.none row.2 in
      let same = R.one_file path ours path (IsDurable row.0) (λ file. file.bytes ≡ bytes) s.files
      s.names mail there in
      let e : row.0 ≡ bytes = sym mail.2.holds ∙ same in
      record {
        locked = x;
        mail = subst (λ (l : List ℕ). At path (IsDurable l) s.files s.names) e mail;
      }

  -- the whole file is read under the lock
  pub reads_on : (bytes : List ℕ) {a b : Option Past} → ReadsWhole path bytes a b
      → SafeLeads path ours a b (Locked path ours) (Holds path ours bytes)
  reads_on bytes {a} read =
      goes_judged path 0 Safe (L.nothing path ours a locked) read.called tt locked (holds bytes)
      (λ may s judged x. read_there bytes may s (R.file_read s path most_bytes read.stat bytes
      judged) x)

  -- a lock that was taken is ours
  pub ready_locked : (owner : List ℕ) (may : List ℕ → Bool) (s : State) → Passes owner ours
      → Ready path ours (line_of owner) may s → Locked path ours may s
  ready_locked owner may s passes x = record {
    safe = x.safe;
    none = x.none;
    lock = (
      x.lock.0,
      x.lock.1,
      (x.lock.2.0, x.lock.2.1, by_line x.lock.2.0 x.lock.2.2),
    );
  }
    where
      by_line : (line : List ℕ) → (line ≡ line_of owner) ⊎ (ours line ≡ true) → ours line ≡ true
      by_line line (inl is) = ap ours is ∙ passes.line
      by_line line (inr is) = is

  -- a lock may be given back where no tail file is
  pub locked_entered : (held : Bool) (may : List ℕ → Bool) (s : State) → Locked path ours may s
      → Entered path ours held may s
  locked_entered held may s x = record { safe = x.safe; right = λ is. inl x.none }

  module _ (front end : List ℕ) where
    -- where a new end may be put, it is as a new end needs it
    pub staged : (bytes : List ℕ) → take (length front) bytes ≡ front → (may : List ℕ → Bool)
        (s : State)
        → MayPut path ours bytes (front ++ end) may s
        → Staging path (job_for ours front end) AnyState may s
    staged bytes begins may s x = record {
      sound = x.holds.locked.safe.sound;
      rows = x.holds.locked.safe.rows;
      mail = (
        x.holds.mail.0,
        x.holds.mail.1,
        durable_front front (drop (length front) bytes) (file_at s.files x.holds.mail.0)
            (subst (λ (l : List ℕ). IsDurable l (file_at s.files x.holds.mail.0)) split
            x.holds.mail.2),
      );
      lock = x.holds.locked.lock;
      new = x.passes;
      beside = tt;
    }
      where
        split : bytes ≡ front ++ drop (length front) bytes
        split = sym (take-append-drop (length front) bytes)
            ∙ ap (λ (l : List ℕ). l ++ drop (length front) bytes) begins

  -- a stop in the middle of a write may be recovered from
  pub stands_entered : (job : Job) (held : Bool) (may : List ℕ → Bool) (s : State)
      → Stands path job may s → Entered path job.ours held may s
  stands_entered job held may s x = record { safe = x.safe; right = λ is. x.right }
