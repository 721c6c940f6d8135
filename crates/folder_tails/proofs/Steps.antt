-- What each call makes of a stage.
use Rattle.std.proofs.Common.{Bool, List, None, Option, Some, [], ap, arith, append_assoc, drop}
use Rattle.std.proofs.Common.{false, get_or-set_other, get_or-set_same, inl, inr}
use Rattle.std.proofs.Common.{length, refl, slice_set, subst, sym, take, true, ℕ, ⊎_elim, ◌+◌, ◌++◌}
use Rattle.std.proofs.Common.{◌==◌, ◌∙◌, ◌∷◌, ◌≡◌, ◌≢◌}
use Rattle.std.proofs.lemmas.Bool.{cases_Bool, cond-false, cond-true}
use Rattle.std.proofs.lemmas.List.{append-nil, drop_all}
use Rattle.disk_model.specs.Journal.{Create, Cut, Remove, Rename, Sync, SyncDir, WriteAt}
use Rattle.disk_model.specs.State.{File, Name, State, after_done, after_refused, barrier, changed}
use Rattle.disk_model.specs.State.{cut_to, durable, file_at, is_file, moved, name_at, settled}
use Rattle.disk_model.specs.State.{synced}
use Rattle.disk_model.specs.State.{with_made, without, written}
use Rattle.folder_stops.specs.Rows.{IsDurable}
use Rattle.folder_stops.specs.Shape.{Shape}
use Rattle.folder_stops.specs.Words.{Among}
use Rattle.folder_stops.proofs.Rows.{named}
use Rattle.folder_stops.proofs.Sides.{at_made, name_without, same_made, same_moved}
use Rattle.folder_stops.proofs.Sounds.{file_before, sound_barrier, sound_less, sound_made}
use Rattle.folder_stops.proofs.Sounds.{sound_moved, sound_set, with_file_at}
use Rattle.folder_stops.proofs.Steps.{file_last}
use Rattle.folder_stops.proofs.Words.{found}
use Rattle.folder_tails.specs.Sides.{lock_of, tail_of, tmp_of}
use Rattle.folder_tails.specs.Tails.{read_tail}
use Rattle.folder_tails.specs.Rows.{At, HasNoTail, IsLock, IsSound, IsTailFile, IsTailed}
use Rattle.folder_tails.specs.Rows.{KeepsFront}
use Rattle.folder_tails.specs.Stages.{AnyFile, AnyState, Begins, Decided, Ended, Finished, HasLock}
use Rattle.folder_tails.specs.Stages.{HasNoLock, Job, Staging, TmpIs, Writing, whole}
use Rattle.folder_tails.proofs.Files.{cut_front, durable_front, synced_is, written_front}
use Rattle.folder_tails.proofs.Files.{written_is}
use Rattle.folder_tails.proofs.Names.{first_name, lock-path, removed_name, root-lock, root-tail}
use Rattle.folder_tails.proofs.Names.{root-tmp, tail-lock, tail-path, tail-tmp, tmp-lock, tmp-path}
use Rattle.folder_tails.proofs.Same.{IsKept, IsSameIn, at_same, may_same, no_tail_same, same_in}
use Rattle.folder_tails.proofs.Stages.{finished_row, more_rows}

-- paths of which nothing is asked
abbrev pub flat : Shape
flat = record {
  counts = λ bytes. false;
  slot = λ path. None;
  home = λ path. false;
  before = λ a b. false;
}

-- a file more leaves the others
pub same_grown : (path : List ℕ) (f : File) (row : List Name) (s : State)
    → Among row (s.names ∷ s.earlier) → IsSound s
    → IsSameIn path s.files row (s.files ++ f ∷ []) row
same_grown path f row s in_rows sound = record {
  name = refl;
  file = λ n has. file_before s.files f n
      (sound.below row (named path n) n in_rows (found path row n has) refl);
}

pub kept_grown : (path : List ℕ) (f : File) (row : List Name) (s : State)
    → Among row (s.names ∷ s.earlier) → IsSound s
    → IsKept path s.files row (s.files ++ f ∷ []) row
kept_grown path f row s in_rows sound = record {
  mail = same_grown path f row s in_rows sound;
  tail = same_grown (tail_of path) f row s in_rows sound;
  lock = same_grown (lock_of path) f row s in_rows sound;
}

-- the content of a file changes that no name at this path has
pub same_set : (path at : List ℕ) (n : ℕ) (file : File) (files : List File) (row : List Name)
    → at ≢ path → ((x : Name) → Among x row → x.file ≡ Some n → x.path ≡ at)
    → IsSameIn path files row (slice_set files n file) row
same_set path at n file files row ne only = record {
  name = refl;
  file = λ k has. get_or-set_other files n k file (durable [] 0)
      (λ e. ne (sym (only (named path k) (found path row k has) (ap Some e))));
}

-- other names, beside the mailbox, its tail file and its lock
pub kept_made : (path at : List ℕ) (s : State) → at ≢ path → at ≢ tail_of path → at ≢ lock_of path
    → IsSound s → IsKept path s.files s.names (with_made at [] s).files (with_made at [] s).names
kept_made path at s ne ne' ne'' sound = record {
  mail = same_in path s _ (same_made path (λ p. false) at [] s ne sound);
  tail = same_in (tail_of path) s _ (same_made (tail_of path) (λ p. false) at [] s ne' sound);
  lock = same_in (lock_of path) s _ (same_made (lock_of path) (λ p. false) at [] s ne'' sound);
}

module _ (path : List ℕ) (job : Job) where
  -- the file beside the mailbox changes

  tmp_set : (Is Then : File → Type 0) (file : ℕ → File) (clock : ℕ) (may : List ℕ → Bool)
      (s : State)
      → (x : Staging path job (TmpIs path Is) may s) → Then (file x.beside.0)
      → Staging path job (TmpIs path Then) may (with_file_at x.beside.0 (file x.beside.0) clock s)
  tmp_set Is Then file clock may s x is =
      let n = x.beside.0 in
      let files' = slice_set s.files n (file n) in
      let same : (q : List ℕ) → tmp_of path ≢ q → (row : List Name) → Among row
      (s.names ∷ s.earlier)
      → IsSameIn q s.files row files' row =
      λ q ne row in_rows. same_set q (tmp_of path) n (file n) s.files row ne
      (λ y in_row has. x.beside.2 row y in_rows in_row has) in
      record {
        sound = sound_set (λ p. false) n (file n) clock s x.sound;
        rows = λ row in_rows. may_same path job.ours s.files row files' row may (record {
          mail = same path (tmp-path path) row in_rows;
          tail = same (tail_of path) (λ e. tail-tmp path (sym e)) row in_rows;
          lock = same (lock_of path) (tmp-lock path) row in_rows;
        }) (x.rows row in_rows);
        mail = at_same path (KeepsFront job.front) s.files s.names files' s.names
            (same path (tmp-path path) s.names (inl refl)) x.mail;
        lock = at_same (lock_of path) (IsLock job.ours true) s.files s.names files' s.names
            (same (lock_of path) (tmp-lock path) s.names (inl refl)) x.lock;
        new = x.new;
        beside = (
          n,
          x.beside.1,
          x.beside.2,
          subst Then (sym (get_or-set_same s.files n (file n) (durable [] 0)
              (x.sound.below s.names (named (tmp_of path) n) n (inl refl)
              (found (tmp_of path) s.names n x.beside.1) refl))) is,
        );
      }

  tmp_changed : (Is Then : File → Type 0) (change : ℕ → File → File)
      → ((stamp : ℕ) (file : File) → Is file → Then (change stamp file))
      → (may : List ℕ → Bool) (s : State) → Staging path job (TmpIs path Is) may s
      → Staging path job (TmpIs path Then) may (changed (name_at s.names (tmp_of path)) change s)
  tmp_changed Is Then change gives may s x =
      subst (λ (o : Option (Option ℕ)). Staging path job (TmpIs path Then) may (changed o change s))
      (sym x.beside.1)
      (tmp_set Is Then (λ n. change s.clock (file_at s.files n)) (s.clock + 1) may s x
      (gives s.clock (file_at s.files x.beside.0) x.beside.3))

  pub create_tmp : (may : List ℕ → Bool) (s : State) → Staging path job AnyState may s
      → Staging path job (TmpIs path (λ file. file.bytes ≡ [])) may
      (after_done (Create (tmp_of path)) s)
  create_tmp may s x =
      let t : State = with_made (tmp_of path) [] s in
      let kept = kept_made path (tmp_of path) s (tmp-path path) (λ e. tail-tmp path (sym e))
      (tmp-lock path) x.sound in
      let at = at_made flat (tmp_of path) refl (root-tmp path) s x.sound in
      record {
        sound = sound_made (λ p. false) (tmp_of path) [] s x.sound;
        rows = more_rows path job.ours may t.files t.names (s.names ∷ s.earlier)
            (may_same path job.ours s.files s.names t.files t.names may kept
            (x.rows s.names (inl refl)))
            (λ row in_rows. may_same path job.ours s.files row t.files row may
            (kept_grown path (durable [] s.clock) row s in_rows x.sound) (x.rows row in_rows));
        mail = at_same path (KeepsFront job.front) s.files s.names t.files t.names kept.mail x.mail;
        lock = at_same (lock_of path) (IsLock job.ours true) s.files s.names t.files t.names
            kept.lock x.lock;
        new = x.new;
        beside = (
          length s.files,
          at.at,
          at.only,
          ap (λ (f : File). f.bytes) (file_last s.files (durable [] s.clock)),
        );
      }

  pub write_tmp : (bytes : List ℕ) (may : List ℕ → Bool) (s : State)
      → Staging path job (TmpIs path (λ file. file.bytes ≡ [])) may s
      → Staging path job (TmpIs path (λ file. file.bytes ≡ bytes)) may
      (after_done (WriteAt (tmp_of path) 0 bytes) s)
  write_tmp bytes = tmp_changed (λ file. file.bytes ≡ []) (λ file. file.bytes ≡ bytes)
      (written 0 bytes)
      (λ stamp file is. ap (λ (l : List ℕ). bytes ++ drop (0 + length bytes) l) is
      ∙ ap (λ (l : List ℕ). bytes ++ l) (drop_all (0 + length bytes) [] (omega arith))
      ∙ append-nil bytes)

  -- a write that was refused
  pub torn_tmp : (Is : File → Type 0) (at : ℕ) (bytes : List ℕ) (wrote : ℕ) (may : List ℕ → Bool)
      (s : State) → Staging path job (TmpIs path Is) may s
      → Staging path job (TmpIs path AnyFile) may
      (after_refused (WriteAt (tmp_of path) at bytes) wrote s)
  torn_tmp Is at bytes wrote may s x = ⊎_elim
      (λ (e : (wrote == 0) ≡ true).
      subst (Staging path job (TmpIs path AnyFile) may) (sym (cond-true (wrote == 0) _ _ e))
      (record {
        sound = x.sound;
        rows = x.rows;
        mail = x.mail;
        lock = x.lock;
        new = x.new;
        beside = (x.beside.0, x.beside.1, x.beside.2, tt);
      }))
      (λ (e : (wrote == 0) ≡ false).
      subst (Staging path job (TmpIs path AnyFile) may) (sym (cond-false (wrote == 0) _ _ e))
      (tmp_changed Is AnyFile (written at (take wrote bytes)) (λ stamp file is. tt) may s x))
      (cases_Bool (wrote == 0))

  pub sync_tmp : (bytes : List ℕ) (may : List ℕ → Bool) (s : State)
      → Staging path job (TmpIs path (λ file. file.bytes ≡ bytes)) may s
      → Staging path job (TmpIs path (IsDurable bytes)) may (after_done (Sync (tmp_of path)) s)
  sync_tmp bytes may s x =
      subst (λ (o : Option (Option ℕ)). Staging path job (TmpIs path (IsDurable bytes)) may
      (settled o s))
      (sym x.beside.1)
      (tmp_set (λ file. file.bytes ≡ bytes) (IsDurable bytes) (λ n. synced (file_at s.files n))
      s.clock
      may s x (synced_is bytes (file_at s.files x.beside.0) x.beside.3))

  -- it is taken away, or any other name that is none of the three
  pub remove_tmp : (may : List ℕ → Bool) (s : State) → Staging path job AnyState may s
      → Staging path job AnyState may (after_done (Remove (tmp_of path)) s)
  remove_tmp may s x =
      let names' = without (tmp_of path) s.names in
      let same : (q : List ℕ) → tmp_of path ≢ q → IsSameIn q s.files s.names s.files names' =
      λ q ne. record { name = name_without (tmp_of path) q s.names ne; file = λ n e. refl } in
      record {
        sound = sound_less (λ p. false) (tmp_of path) s x.sound;
        rows = more_rows path job.ours may s.files names' (s.names ∷ s.earlier)
            (may_same path job.ours s.files s.names s.files names' may (record {
              mail = same path (tmp-path path);
              tail = same (tail_of path) (λ e. tail-tmp path (sym e));
              lock = same (lock_of path) (tmp-lock path);
            }) (x.rows s.names (inl refl))) x.rows;
        mail = at_same path (KeepsFront job.front) s.files s.names s.files names'
            (same path (tmp-path path)) x.mail;
        lock = at_same (lock_of path) (IsLock job.ours true) s.files s.names s.files names'
            (same (lock_of path) (tmp-lock path)) x.lock;
        new = x.new;
        beside = tt;
      }

  -- the renaming: from here on a stop may leave the tail file
  pub rename_tail : (bytes : List ℕ) → read_tail bytes ≡ Some (length job.front, job.end)
      → (may : List ℕ → Bool) (s : State) → Staging path job (TmpIs path (IsDurable bytes)) may s
      → Decided path job may (after_done (Rename (tmp_of path) (tail_of path)) s)
  rename_tail bytes reads may s x =
      subst (λ (o : Option (Option ℕ)). Decided path job may
      (moved o (tmp_of path) (tail_of path) s))
      (sym x.beside.1) there
    where
      there : Decided path job may (moved (Some (Some x.beside.0)) (tmp_of path) (tail_of path) s)
      there =
          let n = x.beside.0 in
          let t : State = moved (Some (Some n)) (tmp_of path) (tail_of path) s in
          let same : (q : List ℕ) → tmp_of path ≢ q → tail_of path ≢ q
          → IsSameIn q s.files s.names t.files t.names =
          λ q ne ne'. same_in q s t (same_moved q (Some (Some n)) (tmp_of path) (tail_of path) s ne
          ne') in
          let now : IsTailed path job.ours job.front job.end t.files t.names = record {
            mail = at_same path (KeepsFront job.front) s.files s.names t.files t.names
                (same path (tmp-path path) (tail-path path)) x.mail;
            tail = (
              n,
              first_name (tail_of path) (Some n) _ (root-tail path),
              (bytes, x.beside.3, reads),
            );
            lock = at_same (lock_of path) (IsLock job.ours true) s.files s.names t.files t.names
                (same (lock_of path) (tmp-lock path) (tail-lock path)) x.lock;
          } in
          record {
            sound = sound_moved (λ p. false) (tmp_of path) (tail_of path) n s
                (found (tmp_of path) s.names n x.beside.1) refl x.sound;
            rows = more_rows path job.ours may t.files t.names (s.names ∷ s.earlier)
                (whole job, x.new, inr (job.front, job.end, refl, now)) x.rows;
            now = now;
            new = x.new;
          }

  pub keep_tail : (dir : List ℕ) (may : List ℕ → Bool) (s : State) → Decided path job may s
      → Writing path job AnyFile may (after_done (SyncDir dir) s)
  keep_tail dir may s x = record {
    sound = sound_barrier (λ p. false) s x.sound;
    only = refl;
    now = x.now;
    mail = (x.now.mail.0, x.now.mail.1, tt);
    new = x.new;
  }

  -- the mailbox changes behind its front

  same_number : (n k : ℕ) (at : Option (Option ℕ)) → at ≡ Some (Some n) → at ≡ Some (Some k) → n ≡ k
  same_number n k at e f = let g : Some (Some n) ≡ Some (Some k) = sym e ∙ f in cc

  mail_set : (Is Then : File → Type 0) (file : File) (clock : ℕ) (may : List ℕ → Bool) (s : State)
      → (x : Writing path job Is may s) → KeepsFront job.front file → Then file
      → Writing path job Then may (with_file_at x.now.mail.0 file clock s)
  mail_set Is Then file clock may s x front is =
      let n = x.now.mail.0 in
      let files' = slice_set s.files n file in
      let only : (y : Name) → Among y s.names → y.file ≡ Some n → y.path ≡ path =
      λ y in_it has. x.sound.shared y (named path n) n in_it (found path s.names n x.now.mail.1)
      has refl in
      let same : (q : List ℕ) → path ≢ q → IsSameIn q s.files s.names files' s.names =
      λ q ne. same_set q path n file s.files s.names ne only in
      let new_file : file_at files' n ≡ file =
      get_or-set_same s.files n file (durable [] 0)
      (x.sound.below s.names (named path n) n (inl refl) (found path s.names n x.now.mail.1) refl)
      in
      record {
        sound = sound_set (λ p. false) n file clock s x.sound;
        only = x.only;
        now = record {
          mail = (n, x.now.mail.1, subst (KeepsFront job.front) (sym new_file) front);
          tail = at_same (tail_of path) (IsTailFile job.front job.end) s.files s.names files'
              s.names
              (same (tail_of path) (λ e. tail-path path (sym e))) x.now.tail;
          lock = at_same (lock_of path) (IsLock job.ours true) s.files s.names files' s.names
              (same (lock_of path) (λ e. lock-path path (sym e))) x.now.lock;
        };
        mail = (n, x.now.mail.1, subst Then (sym new_file) is);
        new = x.new;
      }

  its_file : (Is : File → Type 0) (may : List ℕ → Bool) (s : State) (x : Writing path job Is may s)
      → Is (file_at s.files x.now.mail.0)
  its_file Is may s x =
      subst (λ (k : ℕ). Is (file_at s.files k))
      (same_number x.mail.0 x.now.mail.0 (name_at s.names path) x.mail.1 x.now.mail.1) x.mail.2

  mail_changed : (Is Then : File → Type 0) (change : ℕ → File → File)
      → ((stamp : ℕ) (file : File) → KeepsFront job.front file → Is file
      → KeepsFront job.front (change stamp file) × Then (change stamp file))
      → (may : List ℕ → Bool) (s : State) → Writing path job Is may s
      → Writing path job Then may (changed (name_at s.names path) change s)
  mail_changed Is Then change gives may s x =
      let given = gives s.clock (file_at s.files x.now.mail.0) x.now.mail.2 (its_file Is may s x) in
      subst (λ (o : Option (Option ℕ)). Writing path job Then may (changed o change s))
      (sym x.now.mail.1)
      (mail_set Is Then (change s.clock (file_at s.files x.now.mail.0)) (s.clock + 1) may s x
      given.0
      given.1)

  pub write_end : (may : List ℕ → Bool) (s : State) → Writing path job AnyFile may s
      → Writing path job (Begins job) may (after_done (WriteAt path (length job.front) job.end) s)
  write_end = mail_changed AnyFile (Begins job) (written (length job.front) job.end)
      (λ stamp file front is. (
        written_front job.front job.end stamp file front,
        (
          drop (length job.front + length job.end) file.bytes,
          written_is job.front job.end stamp file front ∙ sym (append_assoc job.front job.end _),
        ),
      ))

  -- a write that was refused
  pub torn_end : (wrote : ℕ) (may : List ℕ → Bool) (s : State) → Writing path job AnyFile may s
      → Writing path job AnyFile may (after_refused (WriteAt path (length job.front) job.end) wrote
      s)
  torn_end wrote may s x = ⊎_elim
      (λ (e : (wrote == 0) ≡ true).
      subst (Writing path job AnyFile may) (sym (cond-true (wrote == 0) _ _ e)) x)
      (λ (e : (wrote == 0) ≡ false).
      subst (Writing path job AnyFile may) (sym (cond-false (wrote == 0) _ _ e))
      (mail_changed AnyFile AnyFile (written (length job.front) (take wrote job.end))
      (λ stamp file front is. (written_front job.front (take wrote job.end) stamp file front, tt))
      may s x))
      (cases_Bool (wrote == 0))

  pub cut_end : (may : List ℕ → Bool) (s : State) → Writing path job (Begins job) may s
      → Writing path job (λ file. file.bytes ≡ whole job) may
      (after_done (Cut path (length (whole job))) s)
  cut_end = mail_changed (Begins job) (λ file. file.bytes ≡ whole job) (cut_to (length (whole job)))
      (λ stamp file front is. cut_front job.front job.end is.0 stamp file front is.1)

  pub sync_end : (may : List ℕ → Bool) (s : State)
      → Writing path job (λ file. file.bytes ≡ whole job) may s
      → Writing path job (IsDurable (whole job)) may (after_done (Sync path) s)
  sync_end may s x =
      let file = file_at s.files x.now.mail.0 in
      let now = synced_is (whole job) file (its_file (λ file. file.bytes ≡ whole job) may s x) in
      subst (λ (o : Option (Option ℕ)). Writing path job (IsDurable (whole job)) may (settled o s))
      (sym x.now.mail.1)
      (mail_set (λ file. file.bytes ≡ whole job) (IsDurable (whole job)) (synced file) s.clock may
      s x
      (durable_front job.front job.end (synced file) now) now)

  pub remove_tail : (may : List ℕ → Bool) (s : State) → Writing path job (IsDurable (whole job))
      may s
      → Finished path job (HasLock path job) may (after_done (Remove (tail_of path)) s)
  remove_tail may s x =
      let names' = without (tail_of path) s.names in
      let same : (q : List ℕ) → tail_of path ≢ q → IsSameIn q s.files s.names s.files names' =
      λ q ne. record { name = name_without (tail_of path) q s.names ne; file = λ n e. refl } in
      let is : whole job ≡ whole job ++ [] = sym (append-nil (whole job)) in
      let mail : At path (IsDurable (whole job ++ [])) s.files names' =
      subst (λ (l : List ℕ). At path (IsDurable l) s.files names') is
      (at_same path (IsDurable (whole job)) s.files s.names s.files names'
      (same path (tail-path path)) x.mail) in
      let none : HasNoTail path names' = ap is_file (removed_name (tail_of path) s.names
      (root-tail path)) in
      let passes : may (whole job ++ []) ≡ true = ap may (append-nil (whole job)) ∙ x.new in
      record {
        sound = sound_less (λ p. false) (tail_of path) s x.sound;
        rows = more_rows path job.ours may s.files names' (s.names ∷ s.earlier)
            (finished_row path job s.files names' may [] passes mail none)
            (more_rows path job.ours may s.files s.names s.earlier
            (whole job, x.new, inr (job.front, job.end, refl, x.now))
            (λ row in_rows. absurd (subst (Among row) x.only in_rows)));
        more = [];
        passes = passes;
        mail = mail;
        no_tail = none;
        now = at_same (lock_of path) (IsLock job.ours true) s.files s.names s.files names'
            (same (lock_of path) (tail-lock path)) x.now.lock;
      }

  -- the names are on the disk
  pub keep_names : (Now : State → Type 0) → ((s : State) → Now s → Now (barrier s)) → (dir : List ℕ)
      (may : List ℕ → Bool) (s : State) → Finished path job Now may s
      → Finished path job Now may (after_done (SyncDir dir) s)
  keep_names Now moves dir may s x = record {
    sound = sound_barrier (λ p. false) s x.sound;
    rows = more_rows path job.ours may s.files s.names [] (x.rows s.names (inl refl))
        (λ row no. absurd no);
    more = x.more;
    passes = x.passes;
    mail = x.mail;
    no_tail = x.no_tail;
    now = moves s x.now;
  }

  pub remove_lock : (may : List ℕ → Bool) (s : State) → Finished path job (HasLock path job) may s
      → Finished path job (HasNoLock path) may (after_done (Remove (lock_of path)) s)
  remove_lock may s x =
      let names' = without (lock_of path) s.names in
      let same : (q : List ℕ) → lock_of path ≢ q → IsSameIn q s.files s.names s.files names' =
      λ q ne. record { name = name_without (lock_of path) q s.names ne; file = λ n e. refl } in
      let mail = at_same path (IsDurable (whole job ++ x.more)) s.files s.names s.files names'
      (same path (lock-path path)) x.mail in
      let none = no_tail_same path s.files s.names s.files names'
      (same (tail_of path) (λ e. tail-lock path (sym e))) x.no_tail in
      record {
        sound = sound_less (λ p. false) (lock_of path) s x.sound;
        rows = more_rows path job.ours may s.files names' (s.names ∷ s.earlier)
            (finished_row path job s.files names' may x.more x.passes mail none) x.rows;
        more = x.more;
        passes = x.passes;
        mail = mail;
        no_tail = none;
        now = removed_name (lock_of path) s.names (root-lock path);
      }

  pub end_it : (dir : List ℕ) (may : List ℕ → Bool) (s : State)
      → Finished path job (HasNoLock path) may s → Ended path job may (after_done (SyncDir dir) s)
  end_it dir may s x =
      record { finished = keep_names (HasNoLock path) (λ s now. now) dir may s x; only = refl }
