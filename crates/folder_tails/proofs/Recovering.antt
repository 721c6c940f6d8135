-- The stages of a recovery: others leave each as it is, and each call leads from one to the next.
use Rattle.std.proofs.Common.{Bool, Err, List, None, Ok, Option, Some, [], ap, false}
use Rattle.std.proofs.Common.{if◌then◌else◌, inl, inr, length, nat_lt, refl, subst, sym, true, ℕ}
use Rattle.std.proofs.Common.{⊎_elim, ◌++◌, ◌∙◌, ◌∷◌, ◌≡◌, ◌≢◌, ◌⊎◌}
use Rattle.disk_model.specs.Tree.{TreeNode}
use Rattle.disk_model.specs.Journal.{Action, Appends, Puts, Remove, Removes, Renames, SyncDir}
use Rattle.disk_model.specs.Journal.{Writes}
use Rattle.disk_model.specs.State.{File, Name, State, after_action, after_done, barrier, file_at}
use Rattle.disk_model.specs.State.{is_file, name_at, tree_of, without}
use Rattle.disk_model.specs.Judge.{read_at, read_of, stat_at, stat_of}
use Rattle.disk_model.specs.declared.answers.DiskError.TheVariants.{Long, Missing}
use Rattle.disk_model.specs.declared.answers.Stat.{Stat}
use Rattle.disk_model.proofs.Trees.{node_at-tree_of, node_by}
use Rattle.folder_stops.specs.Others.{SparesPath}
use Rattle.folder_stops.specs.Rows.{IsDurable}
use Rattle.folder_stops.proofs.Sides.{name_without}
use Rattle.folder_stops.proofs.Sounds.{sound_barrier, sound_less}
use Rattle.folder_stops.proofs.Words.{cases_path}
use Rattle.folder_tails.specs.Sides.{lock_of, tail_of}
use Rattle.folder_tails.specs.Tails.{read_tail}
use Rattle.folder_tails.specs.Rows.{At, HasNoTail, IsForeign, IsLock, IsPlain, IsSafe, IsSound}
use Rattle.folder_tails.specs.Rows.{Row}
use Rattle.folder_tails.specs.Others.{MayDo, with_action}
use Rattle.folder_tails.specs.Recovery.{Entered, Found, Idle, IsRight, Right}
use Rattle.folder_tails.proofs.Images.{safe}
use Rattle.folder_tails.proofs.Same.{IsSameIn, at_same, may_same, no_tail_same}
use Rattle.folder_tails.proofs.Same.{same_action, sound_action}
use Rattle.folder_tails.proofs.Stages.{kept_action, mail_appended, more_rows, one_row, spared_test}
use Rattle.folder_tails.proofs.Stages.{test_appended}

module _ (path : List ℕ) (ours : List ℕ → Bool) where
  -- where no lock is there, the row is plain
  unlocked_row : (bytes : List ℕ) (s : State) → name_at s.names (lock_of path) ≡ None
      → Row path ours bytes s.files s.names → IsPlain path ours bytes s.files s.names
  unlocked_row bytes s none (inl plain) = plain
  unlocked_row bytes s none (inr tailed) = let is = tailed.3.lock.1 in absurd (cc (none, is))

  spared_safe : (action : Action) (may : List ℕ → Bool) (s : State) → SparesPath path action
      → SparesPath (tail_of path) action → SparesPath (lock_of path) action
      → IsSafe path ours may s
      → IsSafe path ours (with_action path action s may) (barrier (after_action action s))
  spared_safe action may s mail tail lock x =
      let kept = kept_action path action s mail tail lock x.sound in
      subst (λ (m : List ℕ → Bool). IsSafe path ours m (barrier (after_action action s)))
      (sym (spared_test path action s may mail))
      (safe path ours may (barrier (after_action action s))
      (sound_barrier (λ path. false) (after_action action s) (sound_action action s x.sound))
      (one_row path ours may (after_action action s)
      (may_same path ours _ _ _ _ may kept (x.rows s.names (inl refl)))))

  appended_safe : (at piece : List ℕ) (may : List ℕ → Bool) (s : State) → at ≡ path
      → SparesPath (tail_of path) (Appends at piece) → SparesPath (lock_of path) (Appends at piece)
      → name_at s.names (lock_of path) ≡ None → IsSafe path ours may s
      → IsSafe path ours (with_action path (Appends at piece) s may)
      (barrier (after_action (Appends at piece) s))
  appended_safe at piece may s here tail lock none x =
      let after : State = after_action (Appends at piece) s in
      let row = x.rows s.names (inl refl) in
      let plain = unlocked_row row.0 s none row.2 in
      let tail_kept = same_action (tail_of path) (Appends at piece) s tail x.sound in
      let lock_kept = same_action (lock_of path) (Appends at piece) s lock x.sound in
      safe path ours (with_action path (Appends at piece) s may) (barrier after)
      (sound_barrier (λ path. false) after (sound_action (Appends at piece) s x.sound))
      (one_row path ours (with_action path (Appends at piece) s may) after (
        row.0 ++ piece,
        test_appended path at piece row.0 s here x.sound plain.mail may,
        inl (record {
          mail = mail_appended path at piece row.0 s here x.sound plain.mail;
          idle = idle_kept after tail_kept lock_kept plain.idle;
        }),
      ))
    where
      idle_kept : (t : State) → IsSameIn (tail_of path) s.files s.names t.files t.names
          → IsSameIn (lock_of path) s.files s.names t.files t.names
          → HasNoTail path s.names ⊎ IsForeign path ours s.files s.names
          → HasNoTail path t.names ⊎ IsForeign path ours t.files t.names
      idle_kept t kept kept' (inl is) = inl (no_tail_same path _ _ _ _ kept is)
      idle_kept t kept kept' (inr (inl is)) = inr (inl (ap is_file kept'.name ∙ is))
      idle_kept t kept kept' (inr (inr at)) =
          inr (inr (at_same (lock_of path) (IsLock ours false) _ _ _ _ kept' at))

  pub safe_stable : (action : Action) (may : List ℕ → Bool) (s : State) → MayDo path action s
      → IsSafe path ours may s
      → IsSafe path ours (with_action path action s may) (barrier (after_action action s))
  safe_stable (Appends at piece) may s may_do x = ⊎_elim
      (λ (ne : at ≢ path). spared_safe (Appends at piece) may s ne may_do.0.0 may_do.0.1.1.0 x)
      (λ (none : name_at s.names (lock_of path) ≡ None). ⊎_elim
      (λ (here : at ≡ path).
      appended_safe at piece may s here may_do.0.0 may_do.0.1.1.0 none x)
      (λ (ne : at ≢ path). spared_safe (Appends at piece) may s ne may_do.0.0 may_do.0.1.1.0 x)
      (cases_path at path))
      may_do.1
  safe_stable (Puts at bytes) may s may_do x =
      spared_safe (Puts at bytes) may s may_do.1 may_do.0.0 may_do.0.1.1.0 x
  safe_stable (Renames from to) may s may_do x =
      spared_safe (Renames from to) may s may_do.1 may_do.0.0 may_do.0.1.1.0 x
  safe_stable (Removes at) may s may_do x =
      spared_safe (Removes at) may s may_do.1 may_do.0.0 may_do.0.1.1.0 x
  safe_stable (Writes at bytes) may s may_do x =
      spared_safe (Writes at bytes) may s may_do.1 may_do.0.0 may_do.0.1.1.0 x

  pub no_tail_after : (action : Action) (s : State) → MayDo path action s → IsSound s
      → HasNoTail path s.names → HasNoTail path (barrier (after_action action s)).names
  no_tail_after action s may_do sound none =
      no_tail_same path _ _ _ _ (same_action (tail_of path) action s may_do.0.0 sound) none

  right_after : (action : Action) (s : State) → MayDo path action s → IsSound s
      → IsRight path ours s → IsRight path ours (barrier (after_action action s))
  right_after action s may_do sound (inl none) = inl (no_tail_after action s may_do sound none)
  right_after action s may_do sound (inr lock) =
      inr (at_same (lock_of path) (IsLock ours true) _ _ _ _
      (same_action (lock_of path) action s may_do.0.1.1.0 sound) lock)

  pub entered_stable : (held : Bool) (action : Action) (may : List ℕ → Bool) (s : State)
      → MayDo path action s → Entered path ours held may s
      → Entered path ours held (with_action path action s may) (barrier (after_action action s))
  entered_stable held action may s may_do x = record {
    safe = safe_stable action may s may_do x.safe;
    right = λ is. right_after action s may_do x.safe.sound (x.right is);
  }

  pub right_stable : (action : Action) (may : List ℕ → Bool) (s : State) → MayDo path action s
      → Right path ours may s
      → Right path ours (with_action path action s may) (barrier (after_action action s))
  right_stable action may s may_do x = record {
    safe = safe_stable action may s may_do x.safe;
    right = right_after action s may_do x.safe.sound x.right;
  }

  pub idle_stable : (action : Action) (may : List ℕ → Bool) (s : State) → MayDo path action s
      → Idle path ours may s
      → Idle path ours (with_action path action s may) (barrier (after_action action s))
  idle_stable action may s may_do x = record {
    safe = safe_stable action may s may_do x.safe;
    none = no_tail_after action s may_do x.safe.sound x.none;
  }

  -- A name goes that is neither the mailbox nor its tail file.

  idle_row : (bytes : List ℕ) (s : State) → HasNoTail path s.names
      → Row path ours bytes s.files s.names → At path (IsDurable bytes) s.files s.names
  idle_row bytes s none (inl plain) = plain.mail
  idle_row bytes s none (inr tailed) =
      let is = ap is_file tailed.3.tail.1 in absurd (cc (none, is))

  pub idle_cleared : (at : List ℕ) → at ≢ path → at ≢ tail_of path → (may : List ℕ → Bool)
      (s : State)
      → Idle path ours may s → Idle path ours may (after_done (Remove at) s)
  idle_cleared at ne ne' may s x =
      let names' = without at s.names in
      let same : (q : List ℕ) → at ≢ q → IsSameIn q s.files s.names s.files names' =
      λ q ne. record { name = name_without at q s.names ne; file = λ n e. refl } in
      let row = x.safe.rows s.names (inl refl) in
      let none = no_tail_same path s.files s.names s.files names' (same (tail_of path) ne') x.none
      in
      let mail = at_same path (IsDurable row.0) s.files s.names s.files names' (same path ne)
      (idle_row row.0 s x.none row.2) in
      record {
        safe = safe path ours may (after_done (Remove at) s)
            (sound_less (λ p. false) at s x.safe.sound)
            (more_rows path ours may s.files names' (s.names ∷ s.earlier)
            (row.0, row.1, inl (record { mail = mail; idle = inl none })) x.safe.rows);
        none = none;
      }

  pub idle_kept_names : (dir : List ℕ) (may : List ℕ → Bool) (s : State) → Idle path ours may s
      → Idle path ours may (after_done (SyncDir dir) s)
  idle_kept_names dir may s x = record {
    safe = safe path ours may (barrier s) (sound_barrier (λ p. false) s x.safe.sound)
        (more_rows path ours may s.files s.names [] (x.safe.rows s.names (inl refl))
        (λ row never. absurd never));
    none = x.none;
  }

-- What a look tells of the names.

chosen : (long : Bool) (size : ℕ) (one other : Stat × List ℕ)
    → Ok one ≡ (if long then Err (Long size) else Ok other) → other.1 ≡ one.1
chosen true size one other is = absurd (cc)
chosen false size one other is = let e : one ≡ other = cc in
    ap (λ (p : Stat × List ℕ). p.1) (sym e)

read_by : (files : List File) (path : List ℕ) (at : Option (Option ℕ)) (limit : ℕ) (stat : Stat)
    (bytes : List ℕ) → Ok (stat, bytes) ≡ read_at (node_by files path at) limit
    → (n : ℕ) × (at ≡ Some (Some n)) × ((file_at files n).bytes ≡ bytes)
read_by files path None limit stat bytes is = absurd (cc)
read_by files path (Some None) limit stat bytes is = absurd (cc)
read_by files path (Some (Some n)) limit stat bytes is =
    (n, refl, chosen (nat_lt limit (length (file_at files n).bytes)) _ (stat, bytes) _ is)

-- a file was read
pub file_read : (s : State) (path : List ℕ) (limit : ℕ) (stat : Stat) (bytes : List ℕ)
    → Ok (stat, bytes) ≡ read_of (tree_of s) path limit
    → At path (λ file. file.bytes ≡ bytes) s.files s.names
file_read s path limit stat bytes is =
    read_by s.files path (name_at s.names path) limit stat bytes
    (is ∙ ap (λ (o : Option TreeNode). read_at o limit) (node_at-tree_of s path))

unchosen : (long : Bool) (size : ℕ) (value : Stat × List ℕ)
    → Err Missing ≡ (if long then Err (Long size) else Ok value) → ⊥
unchosen true size value is = cc
unchosen false size value is = cc

unread_by : (files : List File) (path : List ℕ) (at : Option (Option ℕ)) (limit : ℕ)
    → Err Missing ≡ read_at (node_by files path at) limit → is_file at ≡ false
unread_by files path None limit is = refl
unread_by files path (Some None) limit is = refl
unread_by files path (Some (Some n)) limit is =
    absurd (unchosen (nat_lt limit (length (file_at files n).bytes)) _ _ is)

-- none was there to be read
pub no_file_read : (s : State) (path : List ℕ) (limit : ℕ)
    → Err Missing ≡ read_of (tree_of s) path limit → is_file (name_at s.names path) ≡ false
no_file_read s path limit is =
    unread_by s.files path (name_at s.names path) limit
    (is ∙ ap (λ (o : Option TreeNode). read_at o limit) (node_at-tree_of s path))

unseen_by : (files : List File) (path : List ℕ) (at : Option (Option ℕ))
    → Err Missing ≡ stat_at (node_by files path at) → is_file at ≡ false
unseen_by files path None is = refl
unseen_by files path (Some None) is = refl
unseen_by files path (Some (Some n)) is = absurd (cc)

-- nothing was there to be seen
pub no_file_seen : (s : State) (path : List ℕ) → Err Missing ≡ stat_of (tree_of s) path
    → is_file (name_at s.names path) ≡ false
no_file_seen s path is =
    unseen_by s.files path (name_at s.names path)
    (is ∙ ap stat_at (node_at-tree_of s path))

module _ (path : List ℕ) (ours : List ℕ → Bool) where
  same_number : (n k : ℕ) (at : Option (Option ℕ)) → at ≡ Some (Some n) → at ≡ Some (Some k) → n ≡ k
  same_number n k at e f = let g : Some (Some n) ≡ Some (Some k) = sym e ∙ f in cc

  -- two things that are known of the file at a path are known of one file
  pub one_file : (at : List ℕ) (One Other : File → Type 0) (files : List File) (names : List Name)
      → (one : At at One files names) → At at Other files names → Other (file_at files one.0)
  one_file at One Other files names one other =
      subst (λ (n : ℕ). Other (file_at files n))
      (same_number other.0 one.0 (name_at names at) other.1 one.1) other.2

  line_row : (line bytes : List ℕ) (s : State) → ours line ≡ true
      → At (lock_of path) (λ file. file.bytes ≡ line) s.files s.names
      → Row path ours bytes s.files s.names → IsRight path ours s
  line_row line bytes s own at (inr tailed) = inr tailed.3.lock
  line_row line bytes s own at (inl plain) = ⊎_elim
      (λ (none : HasNoTail path s.names). inl none)
      (λ (foreign : IsForeign path ours s.files s.names). ⊎_elim
      (λ (no_lock : is_file (name_at s.names (lock_of path)) ≡ false).
      let is = ap is_file at.1 in absurd (cc (no_lock, is)))
      (λ (other : At (lock_of path) (IsLock ours false) s.files s.names).
      let its = one_file (lock_of path) (λ file. file.bytes ≡ line) (IsLock ours false) s.files
      s.names
      at other in
      let e : its.0 ≡ line = sym its.1.holds ∙ at.2 in
      let no_own = ap ours (sym e) ∙ its.2 in absurd (cc (own, no_own)))
      foreign)
      plain.idle

  -- the owner line was read in the lock
  pub line_found : (line : List ℕ) → ours line ≡ true → (may : List ℕ → Bool) (s : State)
      → At (lock_of path) (λ file. file.bytes ≡ line) s.files s.names → IsSafe path ours may s
      → Right path ours may s
  line_found line own may s at x =
      let row = x.rows s.names (inl refl) in
      record { safe = x; right = line_row line row.0 s own at row.2 }

  pub tail_missed : (may : List ℕ → Bool) (s : State) → is_file (name_at s.names (tail_of path)) ≡
      false
      → Right path ours may s → Idle path ours may s
  tail_missed may s none x = record { safe = x.safe; none = none }

  tail_row : (text bytes : List ℕ) (may : List ℕ → Bool) (s : State) → may bytes ≡ true
      → At (tail_of path) (λ file. file.bytes ≡ text) s.files s.names → IsRight path ours s
      → IsSafe path ours may s → Row path ours bytes s.files s.names → Found path ours text may s
  tail_row text bytes may s passes found right x (inl plain) = ⊎_elim
      (λ (none : HasNoTail path s.names).
      let is = ap is_file found.1 in absurd (cc (none, is)))
      (λ (foreign : IsForeign path ours s.files s.names). ⊎_elim
      (λ (none : HasNoTail path s.names).
      let is = ap is_file found.1 in absurd (cc (none, is)))
      (λ (lock : At (lock_of path) (IsLock ours true) s.files s.names). ⊎_elim
      (λ (no_lock : is_file (name_at s.names (lock_of path)) ≡ false).
      let is = ap is_file lock.1 in absurd (cc (no_lock, is)))
      (λ (other : At (lock_of path) (IsLock ours false) s.files s.names).
      let its = one_file (lock_of path) (IsLock ours true) (IsLock ours false) s.files s.names lock
      other in
      let e : its.0 ≡ lock.2.0 = sym its.1.holds ∙ lock.2.1.holds in
      let yes = ap ours e ∙ lock.2.2 in let no_own = its.2 in absurd (cc (yes, no_own)))
      foreign)
      right)
      plain.idle
  tail_row text bytes may s passes found right x (inr tailed) =
      let tail = tailed.3.tail in
      let text_is : (file_at s.files tail.0).bytes ≡ text =
      one_file (tail_of path) (λ file. Unit {0}) (λ file. file.bytes ≡ text) s.files s.names
      (tail.0, tail.1, tt) found in (
        (tailed.0, tailed.1, ap read_tail (sym text_is ∙ tail.2.1.holds) ∙ tail.2.2),
        record {
          sound = x.sound;
          rows = x.rows;
          now = tailed.3;
          new = ap may (sym tailed.2) ∙ passes;
        },
      )

  -- a tail file was read under our lock: a stop was behind its naming
  pub tail_found : (text : List ℕ) (may : List ℕ → Bool) (s : State)
      → At (tail_of path) (λ file. file.bytes ≡ text) s.files s.names → Right path ours may s
      → Found path ours text may s
  tail_found text may s found x =
      let row = x.safe.rows s.names (inl refl) in
      tail_row text row.0 may s row.1 found x.right x.safe row.2
