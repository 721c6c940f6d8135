-- The stages: others leave each as it is, and each call leads from one to the next.
use Rattle.std.proofs.Common.{Bool, List, None, Option, Some, [], ap, append_assoc}
use Rattle.std.proofs.Common.{false, get_or-set_same, inl, inr}
use Rattle.std.proofs.Common.{refl, slice_set, subst, sym, true, ℕ, ⊎_elim, ◌++◌}
use Rattle.std.proofs.Common.{◌∙◌, ◌∷◌, ◌≡◌, ◌≢◌}
use Rattle.std.proofs.lemmas.Bool.{cond-false, cond-true}
use Rattle.std.specs.Str.{bytes_eq}
use Rattle.disk_model.specs.Journal.{Action, Appends, Puts, Removes}
use Rattle.disk_model.specs.Journal.{Renames, Writes}
use Rattle.disk_model.specs.State.{File, Name, State, after_action}
use Rattle.disk_model.specs.State.{appended, barrier, changed, durable}
use Rattle.disk_model.specs.State.{file_at, name_at}
use Rattle.folder_stops.specs.Others.{SparesPath}
use Rattle.folder_stops.specs.Rows.{IsDurable}
use Rattle.folder_stops.specs.Shape.{Shape}
use Rattle.folder_stops.specs.Words.{Among}
use Rattle.folder_stops.proofs.Rows.{named}
use Rattle.folder_stops.proofs.Sounds.{sound_barrier}
use Rattle.folder_stops.proofs.Words.{apart, cases_path, found, same}
use Rattle.folder_tails.specs.Sides.{lock_of, tail_of, tmp_of}
use Rattle.folder_tails.specs.Rows.{At, HasNoTail, IsLock, IsSound}
use Rattle.folder_tails.specs.Rows.{KeepsFront, MayRow}
use Rattle.folder_tails.specs.Others.{MayDo, SparesMail, bytes_at, bytes_in, with_action}
use Rattle.folder_tails.specs.Stages.{Begins, Decided, Ended, Finished, HasLock}
use Rattle.folder_tails.specs.Stages.{HasNoLock, Job, Staging, Stands, TmpIs, Writing, whole}
use Rattle.folder_tails.proofs.Files.{appended_durable}
use Rattle.folder_tails.proofs.Images.{safe}
use Rattle.folder_tails.proofs.Same.{IsKept, at_same, may_same, no_tail_same, same_action}
use Rattle.folder_tails.proofs.Same.{sound_action, tailed_same}

-- paths of which nothing is asked
abbrev flat : Shape
flat = record {
  counts = λ bytes. false;
  slot = λ path. None;
  home = λ path. false;
  before = λ a b. false;
}

-- the rows of a state
abbrev pub Rows : List ℕ → (List ℕ → Bool) → (List ℕ → Bool) → State → Type 0
Rows path ours may s = (names : List Name) → Among names (s.names ∷ s.earlier)
    → MayRow path ours may s.files names

-- what others do under a lock leaves the mailbox and the names beside it alone
pub record IsQuiet (path : List ℕ) (action : Action) (s : State) : Type 0 where
  pub mail : SparesPath path action
  pub tail : SparesPath (tail_of path) action
  pub tmp : SparesPath (tmp_of path) action
  pub lock : SparesPath (lock_of path) action
  pub same : (may : List ℕ → Bool) → with_action path action s may ≡ may

pub spared_test : (path : List ℕ) (action : Action) (s : State) (may : List ℕ → Bool)
    → SparesPath path action → with_action path action s may ≡ may
spared_test path (Appends at piece) s may ne = cond-false (bytes_eq at path) _ _ (apart at path ne)
spared_test path (Puts at bytes) s may ne = refl
spared_test path (Renames from to) s may ne = refl
spared_test path (Removes at) s may ne = refl
spared_test path (Writes at bytes) s may ne = refl

mail_spared : (path : List ℕ) (action : Action) (s : State) (n : ℕ)
    → name_at s.names (lock_of path) ≡ Some (Some n) → SparesMail path action s
    → SparesPath path action
mail_spared path (Appends at piece) s n is spares = ⊎_elim
    (λ (ne : at ≢ path). ne)
    (λ (none : name_at s.names (lock_of path) ≡ None). absurd (cc (none, is)))
    spares
mail_spared path (Puts at bytes) s n is spares = spares
mail_spared path (Renames from to) s n is spares = spares
mail_spared path (Removes at) s n is spares = spares
mail_spared path (Writes at bytes) s n is spares = spares

pub quiet : (path : List ℕ) (action : Action) (s : State) (n : ℕ)
    → name_at s.names (lock_of path) ≡ Some (Some n) → MayDo path action s
    → IsQuiet path action s
quiet path action s n is may_do =
    let mail = mail_spared path action s n is may_do.1 in
    record {
      mail = mail;
      tail = may_do.0.0;
      tmp = may_do.0.1.0;
      lock = may_do.0.1.1.0;
      same = λ may. spared_test path action s may mail;
    }

-- what is the same behind an action of others
pub kept_action : (path : List ℕ) (action : Action) (s : State) → SparesPath path action
    → SparesPath (tail_of path) action → SparesPath (lock_of path) action → IsSound s
    → IsKept path s.files s.names (after_action action s).files (after_action action s).names
kept_action path action s mail tail lock sound = record {
  mail = same_action path action s mail sound;
  tail = same_action (tail_of path) action s tail sound;
  lock = same_action (lock_of path) action s lock sound;
}

-- behind an action of others one row is left
pub one_row : (path : List ℕ) (ours may : List ℕ → Bool) (s : State)
    → MayRow path ours may s.files s.names → Rows path ours may (barrier s)
one_row path ours may s row names (inl is) = subst (MayRow path ours may s.files) (sym is) row
one_row path ours may s row names (inr never) = absurd never

-- names are put before those that were
pub more_rows : (path : List ℕ) (ours may : List ℕ → Bool) (files : List File) (names : List Name)
    (old : List (List Name)) → MayRow path ours may files names
    → ((row : List Name) → Among row old → MayRow path ours may files row)
    → (row : List Name) → Among row (names ∷ old) → MayRow path ours may files row
more_rows path ours may files names old now before row (inl is) =
    subst (MayRow path ours may files) (sym is) now
more_rows path ours may files names old now before row (inr later) = before row later

-- others put bytes at the end of a mailbox that is on the disk
module _ (path at piece bytes : List ℕ) (s : State) (here : at ≡ path) (sound : IsSound s)
    (x : At path (IsDurable bytes) s.files s.names) where
  pub mail_appended : At path (IsDurable (bytes ++ piece)) (after_action (Appends at piece) s).files
      (after_action (Appends at piece) s).names
  mail_appended =
      let after : State = after_action (Appends at piece) s in
      let n = x.0 in
      let file = file_at s.files n in
      let is : name_at s.names at ≡ Some (Some n) = ap (name_at s.names) here ∙ x.1 in
      let files : after.files ≡ slice_set s.files n (appended piece s.clock file) =
      ap (λ (o : Option (Option ℕ)). (changed o (appended piece) s).files) is in
      let names : after.names ≡ s.names =
      ap (λ (o : Option (Option ℕ)). (changed o (appended piece) s).names) is in
      let below = sound.below s.names (named path n) n (inl refl) (found path s.names n x.1) refl in
      let there : file_at after.files n ≡ appended piece s.clock file =
      ap (λ (l : List File). file_at l n) files
      ∙ get_or-set_same s.files n (appended piece s.clock file) (durable [] 0) below in (
        n,
        ap (λ (l : List Name). name_at l path) names ∙ x.1,
        subst (IsDurable (bytes ++ piece)) (sym there)
            (appended_durable bytes piece s.clock file x.2),
      )

  -- of which the test is passed
  pub test_appended : (may : List ℕ → Bool)
      → with_action path (Appends at piece) s may (bytes ++ piece) ≡ true
  test_appended may =
      let test : with_action path (Appends at piece) s may ≡ bytes_eq (bytes_at path s ++ piece) =
      cond-true (bytes_eq at path) _ _ (subst (λ (q : List ℕ). bytes_eq q path ≡ true) (sym here)
      (same path)) in
      let is : bytes_at path s ++ piece ≡ bytes ++ piece =
      ap (λ (o : Option (Option ℕ)). bytes_in s.files o ++ piece) x.1
      ∙ ap (λ (l : List ℕ). l ++ piece) x.2.holds in
      ap (λ (m : List ℕ → Bool). m (bytes ++ piece)) test
      ∙ ap (λ (l : List ℕ). bytes_eq l (bytes ++ piece)) is ∙ same (bytes ++ piece)

module _ (path : List ℕ) (job : Job) where
  -- Each stage is good.

  lock_there : (s : State) → HasLock path job s → name_at s.names (lock_of path) ≡ None → At path
      (Begins job) s.files s.names
  lock_there s lock none = let is = lock.1 in absurd (cc (none, is))

  pub good_staging : (Beside : State → Type 0) (may : List ℕ → Bool) (s : State)
      → Staging path job Beside may s → Stands path job may s
  good_staging Beside may s x = record {
    safe = safe path job.ours may s x.sound x.rows;
    right = inr x.lock;
    begun = lock_there s x.lock;
  }

  pub good_decided : (may : List ℕ → Bool) (s : State) → Decided path job may s
      → Stands path job may s
  good_decided may s x = record {
    safe = safe path job.ours may s x.sound x.rows;
    right = inr x.now.lock;
    begun = lock_there s x.now.lock;
  }

  rows_writing : (Is : File → Type 0) (may : List ℕ → Bool) (s : State)
      → Writing path job Is may s → Rows path job.ours may s
  rows_writing Is may s x =
      subst (λ (old : List (List Name)). (row : List Name) → Among row (s.names ∷ old)
      → MayRow path job.ours may s.files row) (sym x.only)
      (more_rows path job.ours may s.files s.names [] (
        whole job,
        x.new,
        inr
            (job.front, job.end, refl, x.now),
      )
      (λ row no. absurd no))

  pub good_writing : (Is : File → Type 0) (may : List ℕ → Bool) (s : State)
      → Writing path job Is may s → Stands path job may s
  good_writing Is may s x = record {
    safe = safe path job.ours may s x.sound (rows_writing Is may s x);
    right = inr x.now.lock;
    begun = lock_there s x.now.lock;
  }

  pub good_finished : (Now : State → Type 0) (may : List ℕ → Bool) (s : State)
      → Finished path job Now may s → Stands path job may s
  good_finished Now may s x = record {
    safe = safe path job.ours may s x.sound x.rows;
    right = inl x.no_tail;
    begun = λ none. (x.mail.0, x.mail.1, (x.more, x.mail.2.holds));
  }

  -- Others leave each stage.

  pub staging_stable : (Beside : State → Type 0)
      → ((action : Action) (s : State) → SparesPath (tmp_of path) action → IsSound s → Beside s
      → Beside (barrier (after_action action s)))
      → (action : Action) (may : List ℕ → Bool) (s : State) → MayDo path action s
      → Staging path job Beside may s
      → Staging path job Beside (with_action path action s may) (barrier (after_action action s))
  staging_stable Beside moves action may s may_do x =
      let q = quiet path action s x.lock.0 x.lock.1 may_do in
      let kept = kept_action path action s q.mail q.tail q.lock x.sound in
      subst (λ (m : List ℕ → Bool). Staging path job Beside m (barrier (after_action action s)))
      (sym (q.same may))
      (record {
        sound = sound_barrier (λ path. false) (after_action action s)
            (sound_action action s x.sound);
        rows = one_row path job.ours may (after_action action s)
            (may_same path job.ours _ _ _ _ may kept (x.rows s.names (inl refl)));
        mail = at_same path (KeepsFront job.front) _ _ _ _ kept.mail x.mail;
        lock = at_same (lock_of path) (IsLock job.ours true) _ _ _ _ kept.lock x.lock;
        new = x.new;
        beside = moves action s q.tmp x.sound x.beside;
      })

  pub tmp_stable : (Is : File → Type 0) (action : Action) (s : State)
      → SparesPath (tmp_of path) action → IsSound s → TmpIs path Is s
      → TmpIs path Is (barrier (after_action action s))
  tmp_stable Is action s spares sound t =
      let e = same_action (tmp_of path) action s spares sound in
      let is = e.name ∙ t.1 in
      let after = sound_action action s sound in (
        t.0,
        is,
        λ row x in_rows in_row file. ⊎_elim
            (λ (here : row ≡ (after_action action s).names). after.shared x
            (named (tmp_of path) t.0) t.0
            (subst (Among x) here in_row) (found (tmp_of path) _ t.0 is) file refl)
            (λ (no : ⊥). absurd no)
            in_rows,
        subst Is (sym (e.file t.0 t.1)) t.3,
      )

  pub decided_stable : (action : Action) (may : List ℕ → Bool) (s : State) → MayDo path action s
      → Decided path job may s
      → Decided path job (with_action path action s may) (barrier (after_action action s))
  decided_stable action may s may_do x =
      let q = quiet path action s x.now.lock.0 x.now.lock.1 may_do in
      let kept = kept_action path action s q.mail q.tail q.lock x.sound in
      subst (λ (m : List ℕ → Bool). Decided path job m (barrier (after_action action s)))
      (sym (q.same may))
      (record {
        sound = sound_barrier (λ path. false) (after_action action s)
            (sound_action action s x.sound);
        rows = one_row path job.ours may (after_action action s)
            (may_same path job.ours _ _ _ _ may kept (x.rows s.names (inl refl)));
        now = tailed_same path job.ours _ _ _ _ job.front job.end kept x.now;
        new = x.new;
      })

  pub writing_stable : (Is : File → Type 0) (action : Action) (may : List ℕ → Bool) (s : State)
      → MayDo path action s → Writing path job Is may s
      → Writing path job Is (with_action path action s may) (barrier (after_action action s))
  writing_stable Is action may s may_do x =
      let q = quiet path action s x.now.lock.0 x.now.lock.1 may_do in
      let kept = kept_action path action s q.mail q.tail q.lock x.sound in
      subst (λ (m : List ℕ → Bool). Writing path job Is m (barrier (after_action action s)))
      (sym (q.same may))
      (record {
        sound = sound_barrier (λ path. false) (after_action action s)
            (sound_action action s x.sound);
        only = refl;
        now = tailed_same path job.ours _ _ _ _ job.front job.end kept x.now;
        mail = at_same path Is _ _ _ _ kept.mail x.mail;
        new = x.new;
      })

  -- a row of what is finished
  pub finished_row : (files : List File) (names : List Name) (may : List ℕ → Bool) (more : List ℕ)
      → may (whole job ++ more) ≡ true → At path (IsDurable (whole job ++ more)) files names
      → HasNoTail path names → MayRow path job.ours may files names
  finished_row files names may more passes mail none =
      (whole job ++ more, passes, inl (record { mail = mail; idle = inl none }))

  spared_finished : (Now : State → Type 0) (action : Action) (may : List ℕ → Bool) (s : State)
      → SparesPath path action → SparesPath (tail_of path) action
      → Now (barrier (after_action action s)) → Finished path job Now may s
      → Finished path job Now (with_action path action s may) (barrier (after_action action s))
  spared_finished Now action may s mail tail now x =
      let kept = same_action path action s mail x.sound in
      let none = no_tail_same path _ _ _ _ (same_action (tail_of path) action s tail x.sound)
      x.no_tail in
      let there = at_same path (IsDurable (whole job ++ x.more)) _ _ _ _ kept x.mail in
      subst (λ (m : List ℕ → Bool). Finished path job Now m (barrier (after_action action s)))
      (sym (spared_test path action s may mail))
      (record {
        sound = sound_barrier (λ path. false) (after_action action s)
            (sound_action action s x.sound);
        rows = one_row path job.ours may (after_action action s)
            (finished_row _ _ may x.more x.passes there none);
        more = x.more;
        passes = x.passes;
        mail = there;
        no_tail = none;
        now = now;
      })

  pub locked_stable : (action : Action) (may : List ℕ → Bool) (s : State) → MayDo path action s
      → Finished path job (HasLock path job) may s
      → Finished path job (HasLock path job) (with_action path action s may)
      (barrier (after_action action s))
  locked_stable action may s may_do x =
      let q = quiet path action s x.now.0 x.now.1 may_do in
      spared_finished (HasLock path job) action may s q.mail q.tail
      (at_same (lock_of path) (IsLock job.ours true) _ _ _ _
      (same_action (lock_of path) action s q.lock x.sound) x.now) x

  -- others put bytes at the end of the mailbox
  put_behind : (Now : State → Type 0) (at piece : List ℕ) (may : List ℕ → Bool) (s : State)
      → at ≡ path → SparesPath (tail_of path) (Appends at piece)
      → Now (barrier (after_action (Appends at piece) s)) → Finished path job Now may s
      → Finished path job Now (with_action path (Appends at piece) s may)
      (barrier (after_action (Appends at piece) s))
  put_behind Now at piece may s here spares now x =
      let after : State = after_action (Appends at piece) s in
      let e : (whole job ++ x.more) ++ piece ≡ whole job ++ (x.more ++ piece) =
      append_assoc (whole job) x.more piece in
      let mail = subst (λ (l : List ℕ). At path (IsDurable l) after.files after.names) e
      (mail_appended path at piece (whole job ++ x.more) s here x.sound x.mail) in
      let passes = subst (λ (l : List ℕ). with_action path (Appends at piece) s may l ≡ true) e
      (test_appended path at piece (whole job ++ x.more) s here x.sound x.mail may) in
      let none = no_tail_same path _ _ _ _
      (same_action (tail_of path) (Appends at piece) s spares x.sound) x.no_tail in
      record {
        sound = sound_barrier (λ path. false) after (sound_action (Appends at piece) s x.sound);
        rows = one_row path job.ours (with_action path (Appends at piece) s may) after
            (finished_row _ _ _ (x.more ++ piece) passes mail none);
        more = x.more ++ piece;
        passes = passes;
        mail = mail;
        no_tail = none;
        now = now;
      }

  no_lock_after : (action : Action) (s : State) → SparesPath (lock_of path) action → IsSound s
      → HasNoLock path s → HasNoLock path (barrier (after_action action s))
  no_lock_after action s spares sound none = (same_action (lock_of path) action s spares
      sound).name ∙ none

  pub free_stable : (action : Action) (may : List ℕ → Bool) (s : State) → MayDo path action s
      → Finished path job (HasNoLock path) may s
      → Finished path job (HasNoLock path) (with_action path action s may)
      (barrier (after_action action s))
  free_stable (Appends at piece) may s may_do x =
      let now = no_lock_after (Appends at piece) s may_do.0.1.1.0 x.sound x.now in
      ⊎_elim
      (λ (here : at ≡ path). put_behind (HasNoLock path) at piece may s here may_do.0.0 now x)
      (λ (ne : at ≢ path). spared_finished (HasNoLock path) (Appends at piece) may s ne may_do.0.0
      now x)
      (cases_path at path)
  free_stable (Puts at bytes) may s may_do x =
      spared_finished (HasNoLock path) (Puts at bytes) may s may_do.1 may_do.0.0
      (no_lock_after (Puts at bytes) s may_do.0.1.1.0 x.sound x.now) x
  free_stable (Renames from to) may s may_do x =
      spared_finished (HasNoLock path) (Renames from to) may s may_do.1 may_do.0.0
      (no_lock_after (Renames from to) s may_do.0.1.1.0 x.sound x.now) x
  free_stable (Removes at) may s may_do x =
      spared_finished (HasNoLock path) (Removes at) may s may_do.1 may_do.0.0
      (no_lock_after (Removes at) s may_do.0.1.1.0 x.sound x.now) x
  free_stable (Writes at bytes) may s may_do x =
      spared_finished (HasNoLock path) (Writes at bytes) may s may_do.1 may_do.0.0
      (no_lock_after (Writes at bytes) s may_do.0.1.1.0 x.sound x.now) x

  pub ended_stable : (action : Action) (may : List ℕ → Bool) (s : State) → MayDo path action s
      → Ended path job may s
      → Ended path job (with_action path action s may) (barrier (after_action action s))
  ended_stable action may s may_do x =
      record { finished = free_stable action may s may_do x.finished; only = refl }
