-- Where no mailbox in one file is, one begins: what each stop leaves of it.
use Rattle.std.proofs.Common.{◌≡◌, ◌≢◌, ◌∷◌, ◌++◌, ◌∙◌, [], ℕ, Bool, true, false, List, None}
use Rattle.std.proofs.Common.{Option, Ok, Err, Result, Some, ap, inl, inr, length, refl, subst, sym}
use Rattle.std.proofs.Common.{◌⊎◌, ⊎_elim}
use Rattle.std.specs.Prelude.{IfSome, OnOk}
use Rattle.disk_model.specs.Images.{IsImage, IsOneOf}
use Rattle.disk_model.specs.Journal.{Action, Appends, Create, Past, Puts, Removes, Renames, Writes}
use Rattle.disk_model.specs.Lawful.{IsLawful}
use Rattle.disk_model.specs.Refusals.{refusal}
use Rattle.disk_model.specs.State.{File, Name, State, after_action, barrier, durable, is_file}
use Rattle.disk_model.specs.State.{name_at, tree_of, with_made}
use Rattle.disk_model.specs.Tree.{TreeNode, node_at}
use Rattle.disk_model.proofs.Trees.{node_at-tree_of, node_by}
use Rattle.folder_changes.specs.declared.sync_error.SyncError.{SyncError}
use Rattle.folder_stops.specs.Along.{Grown}
use Rattle.folder_stops.specs.Others.{SparesPath}
use Rattle.folder_stops.specs.Rows.{IsDurable}
use Rattle.folder_stops.specs.Words.{Among}
use Rattle.folder_stops.proofs.Along.{grown_both}
use Rattle.folder_stops.proofs.Sides.{same_made}
use Rattle.folder_stops.proofs.Sounds.{sound_barrier, sound_made}
use Rattle.folder_stops.proofs.Steps.{file_last, is_durable}
use Rattle.folder_stops.proofs.Words.{cases_path}
use Rattle.folder_tails.specs.Others.{with_action}
use Rattle.folder_tails.specs.Rows.{At, HasNoTail, IsSafe, IsSound, MayRow}
use Rattle.folder_tails.specs.Settled.{held_by, settled_bytes, settled_from}
use Rattle.folder_tails.specs.Sides.{lock_of, tail_of}
use Rattle.folder_tails.proofs.Images.{plain_image, safe}
use Rattle.folder_tails.proofs.Names.{first_name, image_none, tail-path}
use Rattle.folder_tails.proofs.Same.{IsSameIn, at_same, no_tail_same, same_action, same_in}
use Rattle.folder_tails.proofs.Same.{sound_action}
use Rattle.folder_tails.proofs.Stages.{mail_appended, spared_test, test_appended}
use Rattle.folder_tails.proofs.Steps.{same_grown}
use Rattle.folder_drivers.specs.MboxMade.{BeginsMailbox, IsVacant, MayDoThere, MayStand}
use Rattle.folder_drivers.specs.MboxMade.{StandsBegun}
use Rattle.folder_makes.specs.Parts.{EndsKept, IsAt, IsKeptAt, MakesBy, Nowhere}
use Rattle.folder_makes.proofs.MboxMade.{free_there, no_root_there}
use Rattle.folder_makes.proofs.MboxStops.{all_marks}
use Rattle.folder_makes.proofs.Placing.{grown_lawful}

true_false : ◌≡◌ {A = Bool} true false → ⊥
true_false e = cc

-- a file is on the disk, and its bytes pass the test
abbrev Passes : (List ℕ → Bool) → File → Type 0
Passes may file = (bytes : List ℕ) × IsDurable bytes file × (may bytes ≡ true)

-- the mailbox is such a file
abbrev Mail : List ℕ → (List ℕ → Bool) → List File → List Name → Type 0
Mail path may files names = At path (Passes may) files names

-- No tail file is there, and no mailbox or one that passes the test, which an empty one does where
-- none is there.
record Begun (path : List ℕ) (may : List ℕ → Bool) (s : State) : Type 0 where
  pub sound : IsSound s
  pub rows : (names : List Name) → Among names (s.names ∷ s.earlier)
      → HasNoTail path names
      × ((is_file (name_at names path) ≡ false) ⊎ Mail path may s.files names)
  pub empty : is_file (name_at s.names path) ≡ false → may [] ≡ true

one_of : (names : List Name) (all : List (List Name)) → IsOneOf names all → Among names all
one_of names [] is = absurd is
one_of names (first ∷ all) (inl is) = inl is
one_of names (first ∷ all) (inr later) = inr (one_of names all later)

no_file : (files : List File) (path : List ℕ) (at : Option (Option ℕ))
    → node_by files path at ≡ None → is_file at ≡ false
no_file files path None is = refl
no_file files path (Some file) is = absurd (cc)

module _ (path : List ℕ) where
  row_same : (may : List ℕ → Bool) (files : List File) (names : List Name) (files' : List File)
      (names' : List Name) → IsSameIn path files names files' names'
      → IsSameIn (tail_of path) files names files' names'
      → HasNoTail path names × ((is_file (name_at names path) ≡ false) ⊎ Mail path may files names)
      → HasNoTail path names'
      × ((is_file (name_at names' path) ≡ false) ⊎ Mail path may files' names')
  row_same may files names files' names' mail tail row =
      (no_tail_same path files names files' names' tail row.0, by row.1)
    where
      by : (is_file (name_at names path) ≡ false) ⊎ Mail path may files names
          → (is_file (name_at names' path) ≡ false) ⊎ Mail path may files' names'
      by (inl none) = inl (ap is_file mail.name ∙ none)
      by (inr there) = inr (at_same path (Passes may) files names files' names' mail there)

  -- what others do elsewhere
  spared : (action : Action) (may : List ℕ → Bool) (s : State) → SparesPath path action
      → SparesPath (tail_of path) action → Begun path may s
      → Begun path (with_action path action s may) (barrier (after_action action s))
  spared action may s mail tail x =
      let same = same_action path action s mail x.sound in
      subst (λ (m : List ℕ → Bool). Begun path m (barrier (after_action action s)))
      (sym (spared_test path action s may mail))
      (record {
        sound = sound_barrier (λ p. false) (after_action action s) (sound_action action s x.sound);
        rows = λ names in_rows. ⊎_elim
            (λ (is : names ≡ (after_action action s).names).
            subst (λ (l : List Name). HasNoTail path l
            × ((is_file (name_at l path) ≡ false) ⊎ Mail path may (after_action action s).files l))
            (sym is)
            (row_same may s.files s.names _ _ same (same_action (tail_of path) action s tail
            x.sound) (x.rows s.names (inl refl))))
            (λ (never : ⊥). absurd never)
            in_rows;
        empty = λ none. x.empty (ap is_file (sym same.name) ∙ none);
      })

  -- what they put at its end
  behind : (at piece : List ℕ) (may : List ℕ → Bool) (s : State) → at ≡ path
      → SparesPath (tail_of path) (Appends at piece) → is_file (name_at s.names path) ≡ true
      → Begun path may s
      → Begun path (with_action path (Appends at piece) s may)
      (barrier (after_action (Appends at piece) s))
  behind at piece may s here tail there x = by (x.rows s.names (inl refl)).1
    where
      after : State
      after = after_action (Appends at piece) s

      new : List ℕ → Bool
      new = with_action path (Appends at piece) s may

      put : (mail : Mail path may s.files s.names) → Begun path new (barrier after)
      put mail =
          let old : At path (IsDurable mail.2.0) s.files s.names = (mail.0, mail.1, mail.2.1) in
          let now = mail_appended path at piece mail.2.0 s here x.sound old in
          let passes = test_appended path at piece mail.2.0 s here x.sound old may in
          let none = no_tail_same path s.files s.names after.files after.names
          (same_action (tail_of path) (Appends at piece) s tail x.sound)
          (x.rows s.names (inl refl)).0 in
          record {
            sound = sound_barrier (λ p. false) after (sound_action (Appends at piece) s x.sound);
            rows = λ names in_rows. ⊎_elim
                (λ (is : names ≡ after.names).
                subst (λ (l : List Name). HasNoTail path l
                × ((is_file (name_at l path) ≡ false) ⊎ Mail path new after.files l)) (sym is)
                (none, inr (now.0, now.1, (mail.2.0 ++ piece, now.2, passes))))
                (λ (never : ⊥). absurd never)
                in_rows;
            empty = λ gone. absurd (true_false (sym (ap is_file now.1) ∙ gone));
          }

      by : (is_file (name_at s.names path) ≡ false) ⊎ Mail path may s.files s.names
          → Begun path new (barrier after)
      by (inl none) = absurd (true_false (sym there ∙ none))
      by (inr mail) = put mail

  acted : (action : Action) (may : List ℕ → Bool) (s : State) → MayDoThere path action s
      → Begun path may s
      → Begun path (with_action path action s may) (barrier (after_action action s))
  acted (Appends at piece) may s may_do x = ⊎_elim
      (λ (here : at ≡ path). ⊎_elim
      (λ (ne : at ≢ path). absurd (ne here))
      (λ (there : is_file (name_at s.names path) ≡ true).
      behind at piece may s here may_do.0.0.0 there x)
      may_do.1)
      (λ (ne : at ≢ path). spared (Appends at piece) may s ne may_do.0.0.0 x)
      (cases_path at path)
  acted (Puts at bytes) may s may_do x = spared (Puts at bytes) may s may_do.0.1 may_do.0.0.0 x
  acted (Renames from to) may s may_do x = spared (Renames from to) may s may_do.0.1 may_do.0.0.0 x
  acted (Removes at) may s may_do x = spared (Removes at) may s may_do.0.1 may_do.0.0.0 x
  acted (Writes at bytes) may s may_do x = spared (Writes at bytes) may s may_do.0.1 may_do.0.0.0 x

  -- an empty one is made
  begun_created : (may : List ℕ → Bool) (s : State) → refusal (Create path) (tree_of s) ≡ None
      → Begun path may s → Begun path may (with_made path [] s)
  begun_created may s free x =
      let t : State = with_made path [] s in
      let none = no_file s.files path (name_at s.names path)
      (sym (node_at-tree_of s path) ∙ free_there path (tree_of s) free) in
      let at = first_name path (Some (length s.files)) s.names
      (no_root_there path (tree_of s) free) in
      record {
        sound = sound_made (λ p. false) path [] s x.sound;
        rows = λ names in_rows. ⊎_elim
            (λ (is : names ≡ t.names).
            subst (λ (l : List Name). HasNoTail path l
            × ((is_file (name_at l path) ≡ false) ⊎ Mail path may t.files l)) (sym is) (
              no_tail_same path s.files s.names t.files t.names
                  (same_in (tail_of path) s t (same_made (tail_of path) (λ p. false) path [] s
                  (λ e. tail-path path (sym e)) x.sound))
                  (x.rows s.names (inl refl)).0,
              inr (
                length s.files,
                at,
                (
                  [],
                  subst (IsDurable []) (sym (file_last s.files (durable [] s.clock)))
                      (is_durable [] s.clock),
                  x.empty none,
                ),
              ),
            ))
            (λ (was : Among names (s.names ∷ s.earlier)).
            row_same may s.files names t.files names
            (same_grown path (durable [] s.clock) names s was x.sound)
            (same_grown (tail_of path) (durable [] s.clock) names s was x.sound)
            (x.rows names was))
            in_rows;
        empty = λ gone. absurd (true_false (sym (ap is_file at) ∙ gone));
      }

  begun_kept : (may : List ℕ → Bool) (s : State) → Begun path may s → Begun path may (barrier s)
  begun_kept may s x = record {
    sound = sound_barrier (λ p. false) s x.sound;
    rows = λ names in_rows. ⊎_elim
        (λ (is : names ≡ s.names). x.rows names (inl is))
        (λ (never : ⊥). absurd never)
        in_rows;
    empty = x.empty;
  }

  vacant_begun : (may : List ℕ → Bool) (s : State) → IsVacant path may s → Begun path may s
  vacant_begun may s x = record {
    sound = x.sound;
    rows = λ names in_rows. let row = x.rows names in_rows in (row.1, inl row.0);
    empty = λ none. x.empty;
  }

module _ (path : List ℕ) (ours : List ℕ → Bool) where
  begun_stands : (may : List ℕ → Bool) (s : State) → Begun path may s
      → MayStand path ours may s
  begun_stands may s x = record {
    sound = x.sound;
    rows = λ names in_rows. let row = x.rows names in_rows in by_row names row.0 row.1;
    images = λ tree image.
        let row = x.rows image.names (one_of image.names (s.names ∷ s.earlier) image.stand) in
        by_image tree image row.0 row.1;
  }
    where
      by_row : (names : List Name) → HasNoTail path names
          → (is_file (name_at names path) ≡ false) ⊎ Mail path may s.files names
          → (is_file (name_at names path) ≡ false) ⊎ MayRow path ours may s.files names
      by_row names no_tail (inl none) = inl none
      by_row names no_tail (inr mail) = inr (
        mail.2.0,
        mail.2.2,
        inl (record { mail = (mail.0, mail.1, mail.2.1); idle = inl no_tail }),
      )

      by_image : (tree : List TreeNode) (image : IsImage s tree) → HasNoTail path image.names
          → (is_file (name_at image.names path) ≡ false) ⊎ Mail path may s.files image.names
          → (settled_bytes ours path tree ≡ None)
          ⊎ ((bytes : List ℕ) × (may bytes ≡ true) × (settled_bytes ours path tree ≡ Some bytes))
      by_image tree image no_tail (inl none) =
          inl (ap (λ (mail : Option (List ℕ)). settled_from ours mail
          (held_by (node_at tree (tail_of path))) (held_by (node_at tree (lock_of path))))
          (image_none path s.files image.names tree none image.contents))
      by_image tree image no_tail (inr mail) = inr (
        mail.2.0,
        mail.2.2,
        plain_image path ours s.files image.names tree image.contents mail.2.0
            (record { mail = (mail.0, mail.1, mail.2.1); idle = inl no_tail }),
      )

  pub begins : (marks : ℕ) (a b : Option Past) → IfSome b (IsLawful marks)
      → MakesBy Nowhere (IsAt path) a b → Grown a b (BeginsMailbox path ours)
  begins marks a b lawful by =
      grown_lawful marks a b _ _ lawful by.grown (λ s es tree sturdy are own may all x.
      let marked = all_marks path (MayDoThere path) (MayStand path ours) (Begun path) begun_stands
      (acted path) (begun_created path) (begun_kept path) es s may own are all
      (vacant_begun path may s x) in
      (marked.0, begun_stands _ _ marked.1))

  -- all names are on the disk, the mailbox's among them
  kept_safe : (may : List ℕ → Bool) (s : State) → IsKeptAt path s → Begun path may s
      → IsSafe path ours may s
  kept_safe may s kept x = safe path ours may s x.sound (λ names in_rows. ⊎_elim
      (λ (is : names ≡ s.names). subst (MayRow path ours may s.files) (sym is)
      (by (x.rows s.names (inl refl)).0 (x.rows s.names (inl refl)).1))
      (λ (was : Among names s.earlier). absurd (subst (Among names) kept.1 was))
      in_rows)
    where
      by : HasNoTail path s.names
          → (is_file (name_at s.names path) ≡ false) ⊎ Mail path may s.files s.names
          → MayRow path ours may s.files s.names
      by no_tail (inl none) = absurd (true_false (sym kept.0 ∙ none))
      by no_tail (inr mail) = (
        mail.2.0,
        mail.2.2,
        inl (record { mail = (mail.0, mail.1, mail.2.1); idle = inl no_tail }),
      )

  stands : (marks : ℕ) (a b : Option Past) → IfSome b (IsLawful marks)
      → MakesBy Nowhere (IsAt path) a b → Grown a b (EndsKept path)
      → Grown a b (StandsBegun path ours)
  stands marks a b lawful by kept =
      grown_lawful marks a b _ _ lawful (grown_both a b _ _ by.grown kept)
      (λ s es tree sturdy are own may all x.
      let marked = all_marks path (MayDoThere path) (MayStand path ours) (Begun path) begun_stands
      (acted path) (begun_created path) (begun_kept path) es s may own.0 are all
      (vacant_begun path may s x) in (
        marked.0,
        kept_safe _ _ (own.1 (x.rows s.names (inl refl)).0 x.sound all) marked.1,
      ))

-- what a making that was answered Ok leaves
pub stands_if : (path : List ℕ) (result : Result (Unit {0}) SyncError) (marks : ℕ)
    (a b : Option Past) → IfSome b (IsLawful marks) → MakesBy Nowhere (IsAt path) a b
    → OnOk result (Grown a b (EndsKept path))
    → OnOk result ((ours : List ℕ → Bool) → Grown a b (StandsBegun path ours))
stands_if path (Ok done) marks a b lawful by kept =
    λ ours. stands path ours marks a b lawful by kept
stands_if path (Err why) marks a b lawful by kept = tt
