-- The calls of a recovery, one line each.
use Rattle.std.proofs.Common.{Bool, Err, List, None, Ok, Option, Result, Some, [], ap, arith}
use Rattle.std.proofs.Common.{length, not, refl, replicate, subst, sym, true, ℕ, ◌==◌, ◌∙◌, ◌≡◌}
use Rattle.std.proofs.Common.{◌≢◌, false}
use Rattle.std.proofs.lemmas.Bool.{and_from}
use Rattle.std.proofs.lemmas.List.{length-replicate}
use Rattle.std.specs.Prelude.{OnOk}
use Rattle.std.specs.Str.{bytes_eq}
use Rattle.disk_model.specs.Tree.{TreeNode}
use Rattle.disk_model.specs.Looking.{is_look}
use Rattle.disk_model.specs.Journal.{Call, Past, ReadAll, Remove, StatPath, SyncDir}
use Rattle.disk_model.specs.State.{State, after_refused}
use Rattle.disk_model.specs.Judge.{Called, read_of, stat_of}
use Rattle.disk_model.specs.Seen.{Seen}
use Rattle.disk_model.specs.declared.answers.DiskError.{DiskError}
use Rattle.disk_model.specs.declared.answers.DiskError.TheVariants.{Missing}
use Rattle.disk_model.specs.declared.answers.Stat.{Stat}
use Rattle.folder_stops.proofs.Along.{grown_map}
use Rattle.folder_stops.proofs.Words.{same}
use Rattle.folder_tails.specs.Sides.{lock_of, tail_of}
use Rattle.folder_tails.specs.Tails.{line_of, read_tail}
use Rattle.folder_tails.specs.Rows.{IsSafe}
use Rattle.folder_tails.specs.Recovery.{Entered, Found, Idle, IsPut, PassesOwn, Right, SafeLeads}
use Rattle.folder_tails.specs.Recovery.{SaidEnd, job_of}
use Rattle.folder_tails.specs.Stages.{Ended, HasLock, HasNoLock, JobLeads}
use Rattle.folder_tails.specs.Stages.{IsAllowed, IsCleared, Job, Stands}
use Rattle.folder_tails.specs.Taking.{MissesTail, ReadsLine}
use Rattle.folder_tails.proofs.Finding.{leads_any, leads_below, misses}
use Rattle.folder_tails.proofs.Leading.{IsOwnStage, goes_judged, goes_on, looks_on, loosen, start}
use Rattle.folder_tails.proofs.Leading.{stops, then, weaken}
use Rattle.folder_tails.proofs.Recovering as R
use Rattle.folder_tails.proofs.Jobs as J
use Rattle.folder_tails.proofs.Stages as G

-- an owner's line is his own
own_line : (owner : List ℕ) (ours : List ℕ → Bool) → (length owner == 0) ≡ false
    → PassesOwn owner ours → ours (line_of owner) ≡ true
own_line owner ours some passes =
    passes (line_of owner) (and_from (not (length owner == 0))
    (bytes_eq (line_of owner) (line_of owner))
    (ap not some) (same (line_of owner)))

pub owns : (owner line : List ℕ) (ours : List ℕ → Bool) → line ≡ line_of owner
    → (length owner == 0) ≡ false → PassesOwn owner ours → ours line ≡ true
owns owner line ours is some passes = ap ours is ∙ own_line owner ours some passes

pub reads_line : (path line bytes : List ℕ) (limit : ℕ) (stat : Stat) {a b : Option Past}
    → bytes ≡ line
    → Called (Ok (stat, bytes)) (ReadAll (lock_of path) limit)
    (λ tree. read_of tree (lock_of path) limit) a b → ReadsLine path line a b
reads_line path line bytes limit stat {a} {b} is took = (
  limit,
  stat,
  subst (λ (l : List ℕ). Called (Ok (stat, l)) (ReadAll (lock_of path) limit)
      (λ tree. read_of tree (lock_of path) limit) a b) is took,
)

pub misses_tail : (path : List ℕ) (why : DiskError) {a b : Option Past} → why ≡ Missing
    → Called (Err why) (StatPath (tail_of path)) (λ tree. stat_of tree (tail_of path)) a b
    → MissesTail path a b
misses_tail path why {a} {b} is took =
    subst (λ (e : DiskError). Called {A = Stat} (Err e) (StatPath (tail_of path))
    (λ tree. stat_of tree (tail_of path)) a b) is took

-- what holds where a call is answered Ok leads to more there
pub on_ok : {A B : Type 0} {T E : Type 0} (result : Result T E) → OnOk result A → (A → B)
    → OnOk result B
on_ok (Ok value) is more = more is
on_ok (Err why) is more = tt

module _ (path : List ℕ) (ours : List ℕ → Bool) where
  abbrev pub Safe : (List ℕ → Bool) → State → Type 0
  Safe = IsSafe path ours

  pub entered : (held : Bool) → IsOwnStage path 0 Safe (Entered path ours held)
  entered held = record { stable = R.entered_stable path ours held; good = λ may s x. x.safe }

  pub right : IsOwnStage path 0 Safe (Right path ours)
  right = record { stable = R.right_stable path ours; good = λ may s x. x.safe }

  pub idle : IsOwnStage path 0 Safe (Idle path ours)
  idle = record { stable = R.idle_stable path ours; good = λ may s x. x.safe }

  pub found : (text : List ℕ) → IsOwnStage path 0 Safe (Found path ours text)
  found text = record {
    stable = λ action may s may_do x.
        (x.0, G.decided_stable path (job_of ours text x.0) action may s may_do x.1);
    good = λ may s x. (G.good_decided path (job_of ours text x.0) may s x.1).safe;
  }

  pub put : (text : List ℕ) → IsOwnStage path 0 Safe (IsPut path ours text)
  put text = record {
    stable = λ action may s may_do x.
        (x.0, G.locked_stable path (job_of ours text x.0) action may s may_do x.1);
    good = λ may s x. (G.good_finished path (job_of ours text x.0)
        (HasLock path (job_of ours text x.0)) may s x.1).safe;
  }

  pub safely : IsOwnStage path 0 Safe Safe
  safely = record { stable = R.safe_stable path ours; good = λ may s x. x }

  -- nothing was done
  pub nothing : {X : (List ℕ → Bool) → State → Type 0} (a : Option Past)
      → IsOwnStage path 0 Safe X → SafeLeads path ours a a X X
  nothing a x = start path 0 Safe a x

  -- a look leaves a stage as it is
  pub looked : {X : (List ℕ → Bool) → State → Type 0} {a b : Option Past} {T : Type 0}
      {result : Result T DiskError} {call : Call} {wanted : List TreeNode → Result T DiskError}
      → Called result call wanted a b → is_look call ≡ true → IsAllowed path 0 call
      → IsOwnStage path 0 Safe X → SafeLeads path ours a b X X
  looked took look fits x = looks_on path 0 Safe took look fits x

  -- a call that was refused, and changed nothing
  pub refused : {X Y : (List ℕ → Bool) → State → Type 0} {a b c : Option Past} {T : Type 0}
      {e : DiskError} {call : Call} {wanted : List TreeNode → Result T DiskError}
      → SafeLeads path ours a b X Y → Called (Err e) call wanted b c → IsAllowed path 0 call
      → ((wrote : ℕ) (s : State) → after_refused call wrote s ≡ s)
      → IsOwnStage path 0 Safe Y → SafeLeads path ours a c X Safe
  refused {Y = Y} so_far took fits unchanged y = stops path 0 Safe so_far took fits y
      (λ wrote may s is. y.good may _ (subst (Y may) (sym (unchanged wrote s)) is))

  -- one behind another
  pub on : {X Y Z : (List ℕ → Bool) → State → Type 0} {a b c : Option Past}
      → SafeLeads path ours a b X Y → SafeLeads path ours b c Y Z → SafeLeads path ours a c X Z
  on first next = then path 0 Safe first next

  -- less is said of the end
  pub only : {X Y : (List ℕ → Bool) → State → Type 0} {a b : Option Past}
      → SafeLeads path ours a b X Y → IsOwnStage path 0 Safe Y → SafeLeads path ours a b X Safe
  only so_far y = weaken path 0 Safe so_far (λ may s x. x) y.good

  pub ends : {X Y : (List ℕ → Bool) → State → Type 0} {a b : Option Past}
      → SafeLeads path ours a b X Y → ((may : List ℕ → Bool) (s : State) → Y may s → Safe may s)
      → SafeLeads path ours a b X Safe
  ends so_far good = weaken path 0 Safe so_far (λ may s x. x) good

  pub held_right : (held : Bool) → held ≡ true → (a : Option Past)
      → SafeLeads path ours a a (Entered path ours held) (Right path ours)
  held_right held is a =
      weaken path 0 Safe (nothing a (entered held)) (λ may s x. x)
      (λ may s x. record { safe = x.safe; right = x.right is })

  -- the owner line was read
  pub line_read : {a b : Option Past} (held : Bool) (line bytes : List ℕ) (limit : ℕ) (stat : Stat)
      → ours line ≡ true → bytes ≡ line
      → Called (Ok (stat, bytes)) (ReadAll (lock_of path) limit)
      (λ tree. read_of tree (lock_of path) limit) a b
      → SafeLeads path ours a b (Entered path ours held) (Right path ours)
  line_read {a} held line bytes limit stat own is took =
      goes_judged path 0 Safe (nothing a (entered held)) took tt (entered held) right
      (λ may s judged x. R.line_found path ours bytes (ap ours is ∙ own) may s
      (R.file_read s (lock_of path) limit stat bytes judged) x.safe)

  -- no tail file was read under our lock
  pub tail_unread : {a b : Option Past} (limit : ℕ) (why : DiskError) → why ≡ Missing
      → Called (Err why) (ReadAll (tail_of path) limit)
      (λ tree. read_of tree (tail_of path) limit) a b
      → SafeLeads path ours a b (Right path ours) (Idle path ours)
  tail_unread {a} {b} limit why is took =
      misses path 0 Safe (nothing a right)
      (subst (λ (e : DiskError). Called (Err e) (ReadAll (tail_of path) limit)
      (λ tree. read_of tree (tail_of path) limit) a b) is took) tt right idle.good
      (λ may s judged x. R.tail_missed path ours may s (R.no_file_read s (tail_of path) limit
      judged) x)

  -- none was seen
  pub tail_unseen : {a b : Option Past} (held : Bool) (why : DiskError) → why ≡ Missing
      → Called (Err why) (StatPath (tail_of path)) (λ tree. stat_of tree (tail_of path)) a b
      → SafeLeads path ours a b (Entered path ours held) (Idle path ours)
  tail_unseen {a} {b} held why is took =
      misses path 0 Safe (nothing a (entered held))
      (subst (λ (e : DiskError). Called (Err e) (StatPath (tail_of path))
      (λ tree. stat_of tree (tail_of path)) a b) is took) tt (entered held) idle.good
      (λ may s judged x. record { safe = x.safe; none = R.no_file_seen s (tail_of path) judged })

  -- With no tail file there, what was left is taken away.

  pub idle_cleared : (at : List ℕ) (old new : Seen) → IsCleared at old new
      → IsAllowed path 0 (Remove at) → at ≢ path → at ≢ tail_of path
      → SafeLeads path ours old.told new.told (Idle path ours) (Idle path ours)
  idle_cleared at old new clear fits ne ne' =
      J.cleared path 0 at old new clear fits idle (R.idle_cleared path ours at ne ne')

  pub idle_kept : {a b c : Option Past} {X : (List ℕ → Bool) → State → Type 0} {T : Type 0} {v : T}
      {dir : List ℕ} {wanted : List TreeNode → Result T DiskError}
      → SafeLeads path ours a b X (Idle path ours) → Called (Ok v) (SyncDir dir) wanted b c
      → SafeLeads path ours a c X (Idle path ours)
  idle_kept {dir = dir} so_far took =
      goes_on path 0 Safe so_far took tt idle idle (R.idle_kept_names path ours dir)

  -- A tail file is finished.

  of_job : {X Y : (List ℕ → Bool) → State → Type 0} {a b : Option Past} (job : Job)
      → job.ours ≡ ours → JobLeads path job a b X Y → SafeLeads path ours a b X Y
  of_job {X} {Y} {a} {b} job is so_far =
      subst (λ (test : List ℕ → Bool). SafeLeads path test a b X Y) is
      (leads_below path 0 (length job.front) (omega arith)
      (loosen path (length job.front) (Stands path job) (IsSafe path job.ours) (λ may s x. x.safe)
      so_far))

  -- the same whatever the tail file says
  pub of_said : (text : List ℕ) (X Y : Job → (List ℕ → Bool) → State → Type 0) (a b : Option Past)
      → SaidEnd text
      → ((said : SaidEnd text) → JobLeads path (job_of ours text said) a b
      (X (job_of ours text said)) (Y (job_of ours text said)))
      → SafeLeads path ours a b (λ may s. (said : SaidEnd text) × X (job_of ours text said) may s)
      (λ may s. (said : SaidEnd text) × Y (job_of ours text said) may s)
  of_said text X Y a b some each =
      leads_any path 0 Safe (λ said. X (job_of ours text said)) (λ said. Y (job_of ours text said))
      a b
      some (λ said. of_job (job_of ours text said) refl (each said))

  pub some_said : (text : List ℕ) (at : ℕ) (end : List ℕ) → read_tail text ≡ Some (at, end)
      → SaidEnd text
  some_said text at end reads =
      (replicate at 0, end, reads ∙ ap (λ (n : ℕ). Some (n, end)) (sym (length-replicate at 0)))

  -- what is said is what was read
  pub said_is : (text : List ℕ) (at : ℕ) (end : List ℕ) → read_tail text ≡ Some (at, end)
      → (said : SaidEnd text) → (at ≡ length said.0) × (end ≡ said.1)
  said_is text at end reads said =
      let e : Some (at, end) ≡ Some (length said.0, said.1) = sym reads ∙ said.2 in
      let p : (at, end) ≡ (length said.0, said.1) = cc in
      (ap (λ (q : ℕ × List ℕ). q.0) p, ap (λ (q : ℕ × List ℕ). q.1) p)

  -- a tail file was read under our lock
  pub tail_read : {a b : Option Past} (limit : ℕ) (stat : Stat) (text bytes : List ℕ) → bytes ≡ text
      → Called (Ok (stat, bytes)) (ReadAll (tail_of path) limit)
      (λ tree. read_of tree (tail_of path) limit) a b
      → SafeLeads path ours a b (Right path ours) (Found path ours text)
  tail_read {a} limit stat text bytes is took =
      goes_judged path 0 Safe (nothing a right) took tt right (found text)
      (λ may s judged x. subst (λ (l : List ℕ). Found path ours l may s) is
      (R.tail_found path ours bytes may s (R.file_read s (tail_of path) limit stat bytes judged) x))

  -- what is said of a tail file that says nothing
  unsaid : (text : List ℕ) → (o : Option (ℕ × List ℕ)) → read_tail text ≡ o
      → (X Y : Job → (List ℕ → Bool) → State → Type 0) (a b : Option Past)
      → ((job : Job) → JobLeads path job a b (X job) (Y job))
      → SafeLeads path ours a b (λ may s. (said : SaidEnd text) × X (job_of ours text said) may s)
      (λ may s. (said : SaidEnd text) × Y (job_of ours text said) may s)
  unsaid text None none X Y a b each =
      let job : Job = record { ours = ours; front = []; end = [] } in
      let went = of_job job refl (each job) in
      record {
        grown = grown_map a b _ _ went.grown (λ s es k. (
          k.0,
          λ may allowed x. let is = x.0.2 in absurd (cc (none, is)),
        ));
      }
  unsaid text (Some said) is X Y a b each =
      of_said text X Y a b (some_said text said.0 said.1 is) (λ said. each (job_of ours text said))

  pub of_each : (text : List ℕ) (X Y : Job → (List ℕ → Bool) → State → Type 0) (a b : Option Past)
      → ((job : Job) → JobLeads path job a b (X job) (Y job))
      → SafeLeads path ours a b (λ may s. (said : SaidEnd text) × X (job_of ours text said) may s)
      (λ may s. (said : SaidEnd text) × Y (job_of ours text said) may s)
  of_each text X Y a b each = unsaid text (read_tail text) refl X Y a b each

  -- what is ended has no tail file
  pub ended_idle : (text : List ℕ) {X : (List ℕ → Bool) → State → Type 0} {a b : Option Past}
      → SafeLeads path ours a b X (λ may s. (said : SaidEnd text) × Ended path
      (job_of ours text said) may s)
      → SafeLeads path ours a b X (Idle path ours)
  ended_idle text so_far = weaken path 0 Safe so_far (λ may s x. x) (λ may s x. record {
    safe = (G.good_finished path (job_of ours text x.0) (HasNoLock path) may s x.1.finished).safe;
    none = x.1.finished.no_tail;
  })
