-- The stages of a lock: others leave each as it is, and each call leads from one to the next.
use Rattle.std.proofs.Common.{Bool, List, None, Ok, Option, Some, [], ap, arith, drop, false}
use Rattle.std.proofs.Common.{get_or-set_other, get_or-set_same, inl, inr, length}
use Rattle.std.proofs.Common.{length-append, not, refl, slice_set, subst, sym, take, true, ℕ}
use Rattle.std.proofs.Common.{⊎_elim}
use Rattle.std.proofs.Common.{◌&&◌, ◌+◌, ◌++◌, ◌<◌, ◌==◌, ◌∙◌, ◌∷◌, ◌≡◌, ◌≢◌, ◌⊎◌, ◌≤◌}
use Rattle.std.proofs.lemmas.Bool.{cases_Bool, cases_lt, cond-false, cond-true}
use Rattle.std.proofs.lemmas.List.{append-nil, drop_all}
use Rattle.std.specs.Str.{bytes_eq}
use Rattle.disk_model.specs.Tree.{TreeNode}
use Rattle.disk_model.specs.Journal.{Action, Create, Cut, Remove, Sync, SyncDir, WriteAt}
use Rattle.disk_model.specs.State.{File, Name, State, after_action, after_done, after_refused}
use Rattle.disk_model.specs.State.{barrier, changed, cut_to, durable, file_at, is_file, name_at}
use Rattle.disk_model.specs.State.{settled, synced, tree_of, with_made, without, written}
use Rattle.disk_model.specs.Judge.{answer_by, done_by}
use Rattle.disk_model.specs.Refusals.{file_refusal}
use Rattle.disk_model.proofs.Trees.{node_at-tree_of, node_by}
use Rattle.folder_stops.specs.Rows.{IsDurable}
use Rattle.folder_stops.specs.Words.{Among}
use Rattle.folder_stops.proofs.Rows.{named}
use Rattle.folder_stops.proofs.Sides.{at_made, name_without, same_made}
use Rattle.folder_stops.proofs.Sounds.{sound_barrier, sound_less, sound_made, sound_set}
use Rattle.folder_stops.proofs.Sounds.{with_file_at}
use Rattle.folder_stops.proofs.Steps.{file_last, is_durable}
use Rattle.folder_stops.proofs.Words.{apart, found}
use Rattle.folder_tails.specs.Sides.{lock_of, tail_of}
use Rattle.folder_tails.specs.Tails.{is_owners, line_of}
use Rattle.folder_tails.specs.Rows.{At, HasNoTail, IsForeign, IsLock, IsPlain, IsSafe, IsSound}
use Rattle.folder_tails.specs.Rows.{IsTailFile, KeepsFront, Row}
use Rattle.folder_tails.specs.Others.{MayDo, with_action}
use Rattle.folder_tails.specs.Recovery.{Idle}
use Rattle.folder_tails.specs.Stages.{AnyFile, AnyState}
use Rattle.folder_tails.specs.Taking.{Locking, NoTail, Quiet, Taken, Unclaimed}
use Rattle.folder_tails.proofs.Files.{synced_is}
use Rattle.folder_tails.proofs.Images.{safe}
use Rattle.folder_tails.proofs.Names.{first_name, lock-path, removed_name, root-lock, tail-lock}
use Rattle.folder_tails.proofs.Recovering.{no_tail_after, one_file, safe_stable}
use Rattle.folder_tails.proofs.Same.{IsSameIn, at_same, foreign_same, no_tail_same, row_same}
use Rattle.folder_tails.proofs.Same.{same_action, same_in, sound_action}
use Rattle.folder_tails.proofs.Stages.{more_rows}
use Rattle.folder_tails.proofs.Steps.{flat, kept_grown, same_set}

-- an empty lock is nobody's
pub empty_line : (owner : List ℕ) → is_owners owner [] ≡ false
empty_line owner =
    let differs : bytes_eq [] (line_of owner) ≡ false =
    apart [] (line_of owner) (λ e. let size = ap length e in
    absurd (omega (arith, size, length-append owner (10 ∷ [])))) in
    right_false (not (length owner == 0)) (bytes_eq [] (line_of owner)) differs
  where
    right_false : (a b : Bool) → b ≡ false → (a && b) ≡ false
    right_false true b is = is
    right_false false b is = refl

same_or : (k n : ℕ) → (k ≡ n) ⊎ (k ≢ n)
same_or k n = ⊎_elim
    (λ (lt : k < n). inr (λ e. absurd (omega (arith, lt, e))))
    (λ (le : n ≤ k). ⊎_elim
    (λ (lt : n < k). inr (λ e. absurd (omega (arith, lt, e))))
    (λ (le' : k ≤ n). inl (omega (arith, le, le')))
    (cases_lt n k))
    (cases_lt k n)

module _ (path : List ℕ) (ours : List ℕ → Bool) where
  -- a row in which no tail counts is plain
  pub plain_row : (bytes : List ℕ) (files : List File) (names : List Name)
      → HasNoTail path names ⊎ IsForeign path ours files names
      → Row path ours bytes files names → IsPlain path ours bytes files names
  plain_row bytes files names idle (inl plain) = plain
  plain_row bytes files names (inl none) (inr tailed) =
      let is = ap is_file tailed.3.tail.1 in absurd (cc (none, is))
  plain_row bytes files names (inr (inl none)) (inr tailed) =
      let is = ap is_file tailed.3.lock.1 in absurd (cc (none, is))
  plain_row bytes files names (inr (inr other)) (inr tailed) =
      let lock = tailed.3.lock in
      let its = one_file path ours (lock_of path) (IsLock ours true) (IsLock ours false) files names
      lock other in
      let e : its.0 ≡ lock.2.0 = sym its.1.holds ∙ lock.2.1.holds in
      let yes = ap ours e ∙ lock.2.2 in let never = its.2 in absurd (cc (yes, never))

  -- Others leave the stages.

  pub locking_stable : (Is : File → Type 0) (Beside : State → Type 0)
      → ((action : Action) (s : State) → MayDo path action s → IsSound s → Beside s
      → Beside (barrier (after_action action s)))
      → (action : Action) (may : List ℕ → Bool) (s : State) → MayDo path action s
      → Locking path ours Is Beside may s
      → Locking path ours Is Beside (with_action path action s may)
      (barrier (after_action action s))
  locking_stable Is Beside moves action may s may_do x =
      let e = same_action (lock_of path) action s may_do.0.1.1.0 x.safe.sound in
      let is = e.name ∙ x.at in
      let after = sound_action action s x.safe.sound in
      record {
        safe = safe_stable path ours action may s may_do x.safe;
        number = x.number;
        at = is;
        mine = λ row y in_rows in_row file. ⊎_elim
            (λ (here : row ≡ (after_action action s).names). (
              here,
              after.shared y (named (lock_of path) x.number) x.number (subst (Among y) here in_row)
                  (found (lock_of path) _ x.number is) file refl,
            ))
            (λ (never : ⊥). absurd never)
            in_rows;
        is = subst Is (sym (e.file x.number x.at)) x.is;
        beside = moves action s may_do x.safe.sound x.beside;
      }

  pub unclaimed_stable : (action : Action) (may : List ℕ → Bool) (s : State) → MayDo path action s
      → Unclaimed path ours may s
      → Unclaimed path ours (with_action path action s may) (barrier (after_action action s))
  unclaimed_stable action may s may_do x = record {
    safe = safe_stable path ours action may s may_do x.safe;
    idle = ⊎_elim
        (λ (none : HasNoTail path s.names).
        inl (no_tail_after path ours action s may_do x.safe.sound none))
        (λ (foreign : IsForeign path ours s.files s.names).
        inr (foreign_same path ours _ _ _ _
        (same_action (lock_of path) action s may_do.0.1.1.0 x.safe.sound) foreign))
        x.idle;
  }

  pub quiet_stable : (action : Action) (may : List ℕ → Bool) (s : State) → MayDo path action s
      → Quiet path ours may s
      → Quiet path ours (with_action path action s may) (barrier (after_action action s))
  quiet_stable action may s may_do x = record {
    safe = safe_stable path ours action may s may_do x.safe;
    none = no_tail_after path ours action s may_do x.safe.sound x.none;
    only = refl;
  }

  pub taken_stable : (line : List ℕ) (action : Action) (may : List ℕ → Bool) (s : State)
      → MayDo path action s → Taken path ours line may s
      → Taken path ours line (with_action path action s may) (barrier (after_action action s))
  taken_stable line action may s may_do x = record {
    safe = safe_stable path ours action may s may_do x.safe;
    none = no_tail_after path ours action s may_do x.safe.sound x.none;
    lock = at_same (lock_of path) (IsDurable line) _ _ _ _
        (same_action (lock_of path) action s may_do.0.1.1.0 x.safe.sound) x.lock;
  }

  -- The lock is made.

  made_row : (bytes : List ℕ) (s : State) → ours [] ≡ false → IsSound s
      → ((y : Name) → Among y s.names → y.path ≢ lock_of path)
      → Row path ours bytes s.files s.names
      → IsPlain path ours bytes (with_made (lock_of path) [] s).files
      (with_made (lock_of path) [] s).names
  made_row bytes s never sound free (inr tailed) =
      let lock = tailed.3.lock in
      absurd (free (named (lock_of path) lock.0) (found (lock_of path) s.names lock.0 lock.1) refl)
  made_row bytes s never sound free (inl plain) =
      let t : State = with_made (lock_of path) [] s in
      record {
        mail = at_same path (IsDurable bytes) s.files s.names t.files t.names
            (same_in path s t (same_made path (λ p. false) (lock_of path) [] s (lock-path path)
            sound))
            plain.mail;
        idle = ⊎_elim
            (λ (none : HasNoTail path s.names). inl (no_tail_same path s.files s.names t.files
            t.names
            (same_in (tail_of path) s t (same_made (tail_of path) (λ p. false) (lock_of path) [] s
            (λ e. tail-lock path (sym e)) sound)) none))
            (λ (foreign : IsForeign path ours s.files s.names). inr (inr (
              length s.files,
              first_name (lock_of path) (Some (length s.files)) s.names (root-lock path),
              (
                [],
                subst (IsDurable []) (sym (file_last s.files (durable [] s.clock)))
                    (is_durable [] s.clock),
                never,
              ),
            )))
            plain.idle;
      }

  pub lock_made : ours [] ≡ false → (may : List ℕ → Bool) (s : State)
      → ((y : Name) → Among y s.names → y.path ≢ lock_of path) → IsSafe path ours may s
      → Locking path ours (IsDurable []) AnyState may (after_done (Create (lock_of path)) s)
  lock_made never may s free x =
      let t : State = with_made (lock_of path) [] s in
      let at = at_made flat (lock_of path) refl (root-lock path) s x.sound in
      let row = x.rows s.names (inl refl) in
      record {
        safe = safe path ours may t (sound_made (λ p. false) (lock_of path) [] s x.sound)
            (more_rows path ours may t.files t.names (s.names ∷ s.earlier)
            (row.0, row.1, inl (made_row row.0 s never x.sound free row.2))
            (λ old in_rows. let was = x.rows old in_rows in (
              was.0,
              was.1,
              row_same path ours s.files old t.files old was.0
                  (kept_grown path (durable [] s.clock) old s in_rows x.sound) was.2,
            )));
        number = length s.files;
        at = at.at;
        mine = λ old y in_rows in_row file. ⊎_elim
            (λ (here : old ≡ t.names). (here, at.only old y (inl here) in_row file))
            (λ (was : Among old (s.names ∷ s.earlier)). absurd
            (let lt = x.sound.below old y (length s.files) was in_row file in omega (arith, lt)))
            in_rows;
        is = subst (IsDurable []) (sym (file_last s.files (durable [] s.clock)))
            (is_durable [] s.clock);
        beside = tt;
      }

  -- Its bytes change, while no tail file is there.

  set_at : (at : List ℕ) (Is : File → Type 0) (n : ℕ) (file : File) (files : List File)
      (row : List Name) → (x : At at Is files row) → x.0 ≢ n → At at Is (slice_set files n file) row
  set_at at Is n file files row x ne =
      (x.0, x.1, subst Is (sym (get_or-set_other files n x.0 file (durable [] 0) ne)) x.2)

  set_row : (Is : File → Type 0) (file : File) (bytes : List ℕ) (may : List ℕ → Bool) (s : State)
      → (x : Locking path ours Is (NoTail path) may s) → (row : List Name)
      → Among row (s.names ∷ s.earlier) → Row path ours bytes s.files row
      → Row path ours bytes (slice_set s.files x.number file) row
  set_row Is file bytes may s x row in_rows (inl plain) =
      let n = x.number in
      let only : (y : Name) → Among y row → y.file ≡ Some n → y.path ≡ lock_of path =
      λ y in_row has. (x.mine row y in_rows in_row has).1 in
      let mail = at_same path (IsDurable bytes) s.files row (slice_set s.files n file) row
      (same_set path (lock_of path) n file s.files row (lock-path path) only) plain.mail in
      inl (record { mail = mail; idle = idle plain.idle })
    where
      idle : HasNoTail path row ⊎ IsForeign path ours s.files row
          → HasNoTail path row ⊎ IsForeign path ours (slice_set s.files x.number file) row
      idle (inl none) = inl none
      idle (inr (inl none)) = inr (inl none)
      idle (inr (inr other)) = ⊎_elim
          (λ (e : other.0 ≡ x.number).
          let here : row ≡ s.names =
          (x.mine row (named (lock_of path) other.0) in_rows
          (found (lock_of path) row other.0 other.1) (ap Some e)).0 in
          inl (subst (HasNoTail path) (sym here) x.beside))
          (λ (ne : other.0 ≢ x.number). inr (inr
          (set_at (lock_of path) (IsLock ours false) x.number file s.files row other ne)))
          (same_or other.0 x.number)
  set_row Is file bytes may s x row in_rows (inr tailed) =
      let n = x.number in
      let only : (y : Name) → Among y row → y.file ≡ Some n → y.path ≡ lock_of path =
      λ y in_row has. (x.mine row y in_rows in_row has).1 in
      let t = tailed.3 in
      inr (
        tailed.0,
        tailed.1,
        tailed.2,
        record {
          mail = at_same path (KeepsFront tailed.0) s.files row (slice_set s.files n file) row
              (same_set path (lock_of path) n file s.files row (lock-path path) only) t.mail;
          tail = at_same (tail_of path) (IsTailFile tailed.0 tailed.1) s.files row
              (slice_set s.files n file) row
              (same_set (tail_of path) (lock_of path) n file s.files row
              (λ e. tail-lock path (sym e)) only) t.tail;
          lock = set_at (lock_of path) (IsLock ours true) n file s.files row t.lock (λ e.
              let here : row ≡ s.names =
              (x.mine row (named (lock_of path) t.lock.0) in_rows
              (found (lock_of path) row t.lock.0 t.lock.1) (ap Some e)).0 in
              let none : HasNoTail path row = subst (HasNoTail path) (sym here) x.beside in
              let is = ap is_file t.tail.1 in absurd (cc (none, is)));
        },
      )

  lock_set : (Is Then : File → Type 0) (file : File) (clock : ℕ) (may : List ℕ → Bool) (s : State)
      → (x : Locking path ours Is (NoTail path) may s) → Then file
      → Locking path ours Then (NoTail path) may (with_file_at x.number file clock s)
  lock_set Is Then file clock may s x is =
      let n = x.number in
      let below = x.safe.sound.below s.names (named (lock_of path) n) n (inl refl)
      (found (lock_of path) s.names n x.at) refl in
      record {
        safe = safe path ours may (with_file_at n file clock s)
            (sound_set (λ p. false) n file clock s x.safe.sound)
            (λ row in_rows. let was = x.safe.rows row in_rows in
            (was.0, was.1, set_row Is file was.0 may s x row in_rows was.2));
        number = n;
        at = x.at;
        mine = x.mine;
        is = subst Then (sym (get_or-set_same s.files n file (durable [] 0) below)) is;
        beside = x.beside;
      }

  lock_changed : (Is Then : File → Type 0) (change : ℕ → File → File)
      → ((stamp : ℕ) (file : File) → Is file → Then (change stamp file))
      → (may : List ℕ → Bool) (s : State) → Locking path ours Is (NoTail path) may s
      → Locking path ours Then (NoTail path) may (changed (name_at s.names (lock_of path)) change s)
  lock_changed Is Then change gives may s x =
      subst (λ (o : Option (Option ℕ)). Locking path ours Then (NoTail path) may
      (changed o change s))
      (sym x.at)
      (lock_set Is Then (change s.clock (file_at s.files x.number)) (s.clock + 1) may s x
      (gives s.clock (file_at s.files x.number) x.is))

  pub line_written : (line : List ℕ) (may : List ℕ → Bool) (s : State)
      → Locking path ours (λ file. file.bytes ≡ []) (NoTail path) may s
      → Locking path ours (λ file. file.bytes ≡ line) (NoTail path) may
      (after_done (WriteAt (lock_of path) 0 line) s)
  line_written line = lock_changed (λ file. file.bytes ≡ []) (λ file. file.bytes ≡ line)
      (written 0 line)
      (λ stamp file is. ap (λ (l : List ℕ). line ++ drop (0 + length line) l) is
      ∙ ap (λ (l : List ℕ). line ++ l) (drop_all (0 + length line) [] (omega arith))
      ∙ append-nil line)

  pub any_file : (Is : File → Type 0) (Beside : State → Type 0) (may : List ℕ → Bool) (s : State)
      → Locking path ours Is Beside may s → Locking path ours AnyFile Beside may s
  any_file Is Beside may s x = record {
    safe = x.safe;
    number = x.number;
    at = x.at;
    mine = x.mine;
    is = tt;
    beside = x.beside;
  }

  pub line_torn : (Is : File → Type 0) (line : List ℕ) (wrote : ℕ) (may : List ℕ → Bool) (s : State)
      → Locking path ours Is (NoTail path) may s
      → Locking path ours AnyFile (NoTail path) may
      (after_refused (WriteAt (lock_of path) 0 line) wrote s)
  line_torn Is line wrote may s x = ⊎_elim
      (λ (e : (wrote == 0) ≡ true).
      subst (Locking path ours AnyFile (NoTail path) may) (sym (cond-true (wrote == 0) _ _ e))
      (any_file Is (NoTail path) may s x))
      (λ (e : (wrote == 0) ≡ false).
      subst (Locking path ours AnyFile (NoTail path) may) (sym (cond-false (wrote == 0) _ _ e))
      (lock_changed Is AnyFile (written 0 (take wrote line)) (λ stamp file is. tt) may s x))
      (cases_Bool (wrote == 0))

  pub line_synced : (line : List ℕ) (may : List ℕ → Bool) (s : State)
      → Locking path ours (λ file. file.bytes ≡ line) (NoTail path) may s
      → Locking path ours (IsDurable line) (NoTail path) may (after_done (Sync (lock_of path)) s)
  line_synced line may s x =
      subst (λ (o : Option (Option ℕ)). Locking path ours (IsDurable line) (NoTail path) may
      (settled o s))
      (sym x.at)
      (lock_set (λ file. file.bytes ≡ line) (IsDurable line) (synced (file_at s.files x.number))
      s.clock
      may s x (synced_is line (file_at s.files x.number) x.is))

  pub line_taken : (line : List ℕ) (may : List ℕ → Bool) (s : State)
      → Locking path ours (IsDurable line) (NoTail path) may s → Taken path ours line may s
  line_taken line may s x =
      record { safe = x.safe; none = x.beside; lock = (x.number, x.at, x.is) }

  -- The lock is given back.

  pub fresh_unclaimed : (Beside : State → Type 0) → ours [] ≡ false → (may : List ℕ → Bool)
      (s : State)
      → Locking path ours (IsDurable []) Beside may s → Unclaimed path ours may s
  fresh_unclaimed Beside never may s x =
      record { safe = x.safe; idle = inr (inr (x.number, x.at, ([], x.is, never))) }

  pub filled_unclaimed : (Is : File → Type 0) (may : List ℕ → Bool) (s : State)
      → Locking path ours Is (NoTail path) may s → Unclaimed path ours may s
  filled_unclaimed Is may s x = record { safe = x.safe; idle = inl x.beside }

  pub lock_dropped : (may : List ℕ → Bool) (s : State) → Unclaimed path ours may s
      → Unclaimed path ours may (after_done (Remove (lock_of path)) s)
  lock_dropped may s x =
      let names' = without (lock_of path) s.names in
      let same : (q : List ℕ) → lock_of path ≢ q → IsSameIn q s.files s.names s.files names' =
      λ q ne. record { name = name_without (lock_of path) q s.names ne; file = λ n e. refl } in
      let row = x.safe.rows s.names (inl refl) in
      let plain = plain_row row.0 s.files s.names x.idle row.2 in
      let mail = at_same path (IsDurable row.0) s.files s.names s.files names'
      (same path (lock-path path)) plain.mail in
      let gone : HasNoTail path names' ⊎ IsForeign path ours s.files names' =
      inr (inl (ap is_file (removed_name (lock_of path) s.names (root-lock path)))) in
      record {
        safe = safe path ours may (after_done (Remove (lock_of path)) s)
            (sound_less (λ p. false) (lock_of path) s x.safe.sound)
            (more_rows path ours may s.files names' (s.names ∷ s.earlier)
            (row.0, row.1, inl (record { mail = mail; idle = gone })) x.safe.rows);
        idle = gone;
      }

  pub unclaimed_kept : (dir : List ℕ) (may : List ℕ → Bool) (s : State) → Unclaimed path ours may s
      → Unclaimed path ours may (after_done (SyncDir dir) s)
  unclaimed_kept dir may s x = record {
    safe = safe path ours may (barrier s) (sound_barrier (λ p. false) s x.safe.sound)
        (more_rows path ours may s.files s.names [] (x.safe.rows s.names (inl refl))
        (λ row never. absurd never));
    idle = x.idle;
  }

  -- A lock is taken over, with no tail file there.

  pub idle_quiet : (dir : List ℕ) (may : List ℕ → Bool) (s : State) → Idle path ours may s
      → Quiet path ours may (after_done (SyncDir dir) s)
  idle_quiet dir may s x = record {
    safe = safe path ours may (barrier s) (sound_barrier (λ p. false) s x.safe.sound)
        (more_rows path ours may s.files s.names [] (x.safe.rows s.names (inl refl))
        (λ row never. absurd never));
    none = x.none;
    only = refl;
  }

  pub quiet_locking : (Is : File → Type 0) (may : List ℕ → Bool) (s : State)
      → At (lock_of path) Is s.files s.names → Quiet path ours may s
      → Locking path ours Is (NoTail path) may s
  quiet_locking Is may s at x = record {
    safe = x.safe;
    number = at.0;
    at = at.1;
    mine = λ row y in_rows in_row file. ⊎_elim
        (λ (here : row ≡ s.names). (
          here,
          x.safe.sound.shared y (named (lock_of path) at.0) at.0 (subst (Among y) here in_row)
              (found (lock_of path) s.names at.0 at.1) file refl,
        ))
        (λ (was : Among row s.earlier). absurd (subst (Among row) x.only was))
        in_rows;
    is = at.2;
    beside = x.none;
  }

  pub lock_cut : (may : List ℕ → Bool) (s : State) → Locking path ours AnyFile (NoTail path) may s
      → Locking path ours (λ file. file.bytes ≡ []) (NoTail path) may
      (after_done (Cut (lock_of path) 0) s)
  lock_cut = lock_changed AnyFile (λ file. file.bytes ≡ []) (cut_to 0) (λ stamp file is. refl)

-- a call that wants a file was done: one is there

file_by : (files : List File) (path : List ℕ) (at : Option (Option ℕ)) (v : Unit {0})
    → Ok v ≡ answer_by (file_refusal (node_by files path at)) tt
    → (n : ℕ) × (at ≡ Some (Some n))
file_by files path None v is = absurd (cc)
file_by files path (Some None) v is = absurd (cc)
file_by files path (Some (Some n)) v is = (n, refl)

pub cut_file : (s : State) (path : List ℕ) (size : ℕ) (v : Unit {0})
    → Ok v ≡ done_by (Cut path size) (tree_of s) → At path AnyFile s.files s.names
cut_file s path size v is =
    let at = file_by s.files path (name_at s.names path) v
    (is ∙ ap (λ (o : Option TreeNode). answer_by (file_refusal o) tt) (node_at-tree_of s path)) in
    (at.0, at.1, tt)
