-- Each call, one line.
use Rattle.std.proofs.Common.{Bool, Err, List, Ok, Option, Result, Some, [], arith, inl}
use Rattle.std.proofs.Common.{inr, length, refl, subst, sym, ℕ, ◌≡◌, ◌≤◌}
use Rattle.disk_model.specs.Tree.{TreeNode}
use Rattle.disk_model.specs.Journal.{Call, Create, Cut, Past, Remove, Rename, Sync, SyncDir}
use Rattle.disk_model.specs.Journal.{WriteAt}
use Rattle.disk_model.specs.State.{File, State, after_done, after_refused}
use Rattle.disk_model.specs.Judge.{Called}
use Rattle.disk_model.specs.Seen.{Seen}
use Rattle.disk_model.specs.declared.answers.DiskError.{DiskError}
use Rattle.folder_stops.specs.Rows.{IsDurable}
use Rattle.folder_tails.specs.Sides.{lock_of, tail_of, tmp_of}
use Rattle.folder_tails.specs.Tails.{read_tail}
use Rattle.folder_tails.specs.Stages.{AnyFile, AnyState, Begins, Decided, Ended, Finished}
use Rattle.folder_tails.specs.Stages.{HasLock, HasNoLock, IsAllowed, IsCleared, Job, JobLeads}
use Rattle.folder_tails.specs.Stages.{JobStays, Leads}
use Rattle.folder_tails.specs.Stages.{Staging, Stands, TmpIs, Writing, whole}
use Rattle.folder_tails.proofs.Leading.{IsOwnStage, goes_on, start, stops, stops_short, then}
use Rattle.folder_tails.proofs.Leading.{weaken}
use Rattle.folder_tails.proofs.Stages as G
use Rattle.folder_tails.proofs.Steps as S

-- a file is taken away, or nothing stands there
pub cleared : {P X : (List ℕ → Bool) → State → Type 0} (path : List ℕ) (from : ℕ)
    (at : List ℕ) (old new : Seen) → IsCleared at old new
    → IsAllowed path from (Remove at) → IsOwnStage path from P X
    → ((may : List ℕ → Bool) (s : State) → X may s → X may (after_done (Remove at) s))
    → Leads path from P old.told new.told X X
cleared {P} {X} path from at old new (inl step) fits x goes =
    goes_on path from P (start path from P old.told x) step.called fits x x goes
cleared {P} {X} path from at old new (inr step) fits x goes =
    stops_short path from P (start path from P old.told x) step.called fits x x.good
    (λ may s is. is)
    (λ wrote may s is. is)

module _ (path : List ℕ) (job : Job) where
  abbrev pub Good : (List ℕ → Bool) → State → Type 0
  Good = Stands path job

  abbrev pub from : ℕ
  from = length job.front

  -- The stages are stages.

  pub staging : IsOwnStage path from Good (Staging path job AnyState)
  staging = record {
    stable = G.staging_stable path job AnyState (λ action s spares sound is. tt);
    good = G.good_staging path job AnyState;
  }

  pub staging_tmp : (Is : File → Type 0) → IsOwnStage path from Good
      (Staging path job (TmpIs path Is))
  staging_tmp Is = record {
    stable = G.staging_stable path job (TmpIs path Is) (G.tmp_stable path job Is);
    good = G.good_staging path job (TmpIs path Is);
  }

  pub decided : IsOwnStage path from Good (Decided path job)
  decided = record { stable = G.decided_stable path job; good = G.good_decided path job }

  pub writing : (Is : File → Type 0) → IsOwnStage path from Good (Writing path job Is)
  writing Is = record { stable = G.writing_stable path job Is; good = G.good_writing path job Is }

  pub locked : IsOwnStage path from Good (Finished path job (HasLock path job))
  locked = record {
    stable = G.locked_stable path job;
    good = G.good_finished path job (HasLock path job);
  }

  pub free : IsOwnStage path from Good (Finished path job (HasNoLock path))
  free = record {
    stable = G.free_stable path job;
    good = G.good_finished path job (HasNoLock path);
  }

  pub ended : IsOwnStage path from Good (Ended path job)
  ended = record {
    stable = G.ended_stable path job;
    good = λ may s x. G.good_finished path job (HasNoLock path) may s x.finished;
  }

  -- nothing was done yet
  pub begin : {X : (List ℕ → Bool) → State → Type 0} → IsOwnStage path from Good X
      → (a : Option Past) → JobLeads path job a a X X
  begin x a = start path from Good a x

  -- nothing more is said of the end
  pub forget : {X Y : (List ℕ → Bool) → State → Type 0} {a b : Option Past}
      → JobLeads path job a b X Y → IsOwnStage path from Good Y → JobStays path job a b X
  forget so_far y = weaken path from Good so_far (λ may s x. x) y.good

  -- one behind another
  pub on : {X Y Z : (List ℕ → Bool) → State → Type 0} {a b c : Option Past}
      → JobLeads path job a b X Y → JobLeads path job b c Y Z → JobLeads path job a c X Z
  on first next = then path from Good first next

  module _ {X : (List ℕ → Bool) → State → Type 0} {a b c : Option Past} {T : Type 0} where
    -- a call that was refused, and changed nothing
    pub refused : {Y : (List ℕ → Bool) → State → Type 0} {e : DiskError} {call : Call}
        {wanted : List TreeNode → Result T DiskError} → JobLeads path job a b X Y
        → Called (Err e) call wanted b c → IsAllowed path from call
        → ((wrote : ℕ) (s : State) → after_refused call wrote s ≡ s)
        → IsOwnStage path from Good Y → JobStays path job a c X
    refused {Y} so_far took fits same y = stops path from Good so_far took fits y
        (λ wrote may s is. y.good may _ (subst (Y may) (sym (same wrote s)) is))

    pub tmp_made : {v : T} {wanted : List TreeNode → Result T DiskError}
        → JobLeads path job a b X (Staging path job AnyState)
        → Called (Ok v) (Create (tmp_of path)) wanted b c
        → JobLeads path job a c X (Staging path job (TmpIs path (λ file. file.bytes ≡ [])))
    tmp_made so_far took =
        goes_on path from Good so_far took (inr (inr refl)) staging
        (staging_tmp (λ file. file.bytes ≡ [])) (S.create_tmp path job)

    pub tmp_written : {v : T} {bytes : List ℕ} {wanted : List TreeNode → Result T DiskError}
        → JobLeads path job a b X (Staging path job (TmpIs path (λ file. file.bytes ≡ [])))
        → Called (Ok v) (WriteAt (tmp_of path) 0 bytes) wanted b c
        → JobLeads path job a c X (Staging path job (TmpIs path (λ file. file.bytes ≡ bytes)))
    tmp_written {bytes = bytes} so_far took =
        goes_on path from Good so_far took (inl (inr (inr refl)))
        (staging_tmp (λ file. file.bytes ≡ []))
        (staging_tmp (λ file. file.bytes ≡ bytes)) (S.write_tmp path job bytes)

    pub tmp_torn : {e : DiskError} {bytes : List ℕ} {wanted : List TreeNode → Result T DiskError}
        → JobLeads path job a b X (Staging path job (TmpIs path (λ file. file.bytes ≡ [])))
        → Called (Err e) (WriteAt (tmp_of path) 0 bytes) wanted b c → JobStays path job a c X
    tmp_torn {bytes = bytes} so_far took =
        stops path from Good so_far took (inl (inr (inr refl)))
        (staging_tmp (λ file. file.bytes ≡ []))
        (λ wrote may s is. (staging_tmp AnyFile).good may _
        (S.torn_tmp path job (λ file. file.bytes ≡ []) 0 bytes wrote may s is))

    pub tmp_synced : {v : T} (bytes : List ℕ) {wanted : List TreeNode → Result T DiskError}
        → JobLeads path job a b X (Staging path job (TmpIs path (λ file. file.bytes ≡ bytes)))
        → Called (Ok v) (Sync (tmp_of path)) wanted b c
        → JobLeads path job a c X (Staging path job (TmpIs path (IsDurable bytes)))
    tmp_synced bytes so_far took =
        goes_on path from Good so_far took (inl (inr (inr refl)))
        (staging_tmp (λ file. file.bytes ≡ bytes))
        (staging_tmp (IsDurable bytes)) (S.sync_tmp path job bytes)

    pub tail_named : {v : T} (bytes : List ℕ) {wanted : List TreeNode → Result T DiskError}
        → read_tail bytes ≡ Some (length job.front, job.end)
        → JobLeads path job a b X (Staging path job (TmpIs path (IsDurable bytes)))
        → Called (Ok v) (Rename (tmp_of path) (tail_of path)) wanted b c
        → JobLeads path job a c X (Decided path job)
    tail_named bytes reads so_far took =
        goes_on path from Good so_far took (inr (inr refl), inr (inl refl))
        (staging_tmp (IsDurable bytes))
        decided (S.rename_tail path job bytes reads)

    pub tail_kept : {v : T} {dir : List ℕ} {wanted : List TreeNode → Result T DiskError}
        → JobLeads path job a b X (Decided path job) → Called (Ok v) (SyncDir dir) wanted b c
        → JobLeads path job a c X (Writing path job AnyFile)
    tail_kept {dir = dir} so_far took =
        goes_on path from Good so_far took tt decided (writing AnyFile) (S.keep_tail path job dir)

    pub end_written : {v : T} {at : ℕ} {bytes : List ℕ} {wanted : List TreeNode → Result T
        DiskError}
        → at ≡ length job.front → bytes ≡ job.end
        → JobLeads path job a b X (Writing path job AnyFile)
        → Called (Ok v) (WriteAt path at bytes) wanted b c
        → JobLeads path job a c X (Writing path job (Begins job))
    end_written {at = at} {bytes = bytes} e f so_far took =
        goes_on path from Good so_far took (inr (refl, omega (arith, e))) (writing AnyFile)
        (writing (Begins job))
        (λ may s x. subst (λ (call : Call). Writing path job (Begins job) may (after_done call s))
        (λ i. WriteAt path (sym e i) (sym f i)) (S.write_end path job may s x))

    pub end_torn : {e : DiskError} {at : ℕ} {bytes : List ℕ}
        {wanted : List TreeNode → Result T DiskError} → at ≡ length job.front → bytes ≡ job.end
        → JobLeads path job a b X (Writing path job AnyFile)
        → Called (Err e) (WriteAt path at bytes) wanted b c → JobStays path job a c X
    end_torn {at = at} {bytes = bytes} e f so_far took =
        stops path from Good so_far took (inr (refl, omega (arith, e))) (writing AnyFile)
        (λ wrote may s x. subst (λ (call : Call). Stands path job may (after_refused call wrote s))
        (λ i. WriteAt path (sym e i) (sym f i))
        ((writing AnyFile).good may _ (S.torn_end path job wrote may s x)))

    pub end_cut : {v : T} {size : ℕ} {wanted : List TreeNode → Result T DiskError}
        → size ≡ length (whole job) → from ≤ size
        → JobLeads path job a b X (Writing path job (Begins job))
        → Called (Ok v) (Cut path size) wanted b c
        → JobLeads path job a c X (Writing path job (λ file. file.bytes ≡ whole job))
    end_cut {size = size} e more so_far took =
        goes_on path from Good so_far took (inr (refl, more)) (writing (Begins job))
        (writing (λ file. file.bytes ≡ whole job))
        (λ may s x. subst (λ (n : ℕ). Writing path job (λ file. file.bytes ≡ whole job) may
        (after_done (Cut path n) s)) (sym e) (S.cut_end path job may s x))

    pub end_synced : {v : T} {wanted : List TreeNode → Result T DiskError}
        → JobLeads path job a b X (Writing path job (λ file. file.bytes ≡ whole job))
        → Called (Ok v) (Sync path) wanted b c
        → JobLeads path job a c X (Writing path job (IsDurable (whole job)))
    end_synced so_far took =
        goes_on path from Good so_far took (inr refl) (writing (λ file. file.bytes ≡ whole job))
        (writing (IsDurable (whole job))) (S.sync_end path job)

    pub tail_removed : {v : T} {wanted : List TreeNode → Result T DiskError}
        → JobLeads path job a b X (Writing path job (IsDurable (whole job)))
        → Called (Ok v) (Remove (tail_of path)) wanted b c
        → JobLeads path job a c X (Finished path job (HasLock path job))
    tail_removed so_far took =
        goes_on path from Good so_far took (inr (inl refl)) (writing (IsDurable (whole job))) locked
        (S.remove_tail path job)

    pub tail_gone : {v : T} {dir : List ℕ} {wanted : List TreeNode → Result T DiskError}
        → JobLeads path job a b X (Finished path job (HasLock path job))
        → Called (Ok v) (SyncDir dir) wanted b c
        → JobLeads path job a c X (Finished path job (HasLock path job))
    tail_gone {dir = dir} so_far took =
        goes_on path from Good so_far took tt locked locked
        (S.keep_names path job (HasLock path job) (λ s now. now) dir)

    pub lock_removed : {v : T} {wanted : List TreeNode → Result T DiskError}
        → JobLeads path job a b X (Finished path job (HasLock path job))
        → Called (Ok v) (Remove (lock_of path)) wanted b c
        → JobLeads path job a c X (Finished path job (HasNoLock path))
    lock_removed so_far took =
        goes_on path from Good so_far took (inl refl) locked free (S.remove_lock path job)

    pub lock_gone : {v : T} {dir : List ℕ} {wanted : List TreeNode → Result T DiskError}
        → JobLeads path job a b X (Finished path job (HasNoLock path))
        → Called (Ok v) (SyncDir dir) wanted b c → JobLeads path job a c X (Ended path job)
    lock_gone {dir = dir} so_far took =
        goes_on path from Good so_far took tt free ended (S.end_it path job dir)
