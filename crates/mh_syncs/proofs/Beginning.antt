-- Why new sequences were not put in place.
use Rattle.std.proofs.Common.{◌≡◌, ◌≤◌, ◌||◌, ◌∙◌, ℕ, Bool, true, false, List, Option, Some, None}
use Rattle.std.proofs.Common.{Result, Ok, Err, ap, arith, codes, length, refl, subst, sym}
use Rattle.std.specs.Prelude.{IfErr}
use Rattle.disk_model.specs.Journal.{Answer, Call, Create, Cut, ListDir, MakeDir, Own, Past}
use Rattle.disk_model.specs.Journal.{ReadAll, ReadFront, Remove, Rename, StatPath, Sync, SyncDir}
use Rattle.disk_model.specs.Journal.{WriteAt}
use Rattle.disk_model.specs.Judge.{GoesOn, IsLonger, StepBy, done_by}
use Rattle.disk_model.specs.State.{State, after_entry, state_at, tree_at, tree_of}
use Rattle.disk_model.specs.Tree.{TreeNode, folder_of, node_at}
use Rattle.disk_model.specs.declared.answers.DiskError.{DiskError}
use Rattle.disk_model.proofs.Marks.{length_longer}
use Rattle.folder_core.specs.Mh.{sequences_path}
use Rattle.folder_core.proofs.NamesIn.{path_is_in}
use Rattle.folder_changes.specs.Calls.{GoesBy}
use Rattle.folder_changes.specs.Refused.{IsBetween, IsOfTree, OnChanged, StepRefused, refuses}
use Rattle.folder_changes.specs.declared.sync_error.SyncError.{SyncError}
use Rattle.folder_changes.specs.declared.sync_error.SyncError.TheVariants.{Changed as IsChanged}
use Rattle.folder_changes.specs.declared.sync_error.SyncError.TheVariants.{Fault, Locked, NoMemory}
use Rattle.folder_changes.specs.declared.sync_error.SyncError.TheVariants.{NotFolder, TooLarge}
use Rattle.folder_changes.specs.declared.sync_error.SyncError.TheVariants.{TooMany, Unfinished}
use Rattle.folder_changes.proofs.TraceLemmas.{IsUnmade, Traced, calls_one, met_refusal}
use Rattle.folder_changes.proofs.TraceLemmas.{traced_earlier, traced_here}
use Rattle.folder_drivers.specs.MhLeft.{IsFolderCall}
use Rattle.folder_drivers.specs.MhNames.{append_path, new_sequences_path}
use Rattle.folder_drivers.proofs.MhCalls.{no_folder as path_no_folder}
use Rattle.folder_drivers.proofs.Touching.{Misses}
use Rattle.mh_syncs.specs.Causes.{CallCause, IsClearing, IsPutting}
use Rattle.mh_syncs.proofs.Calling.{goes_both}
use Rattle.mh_syncs.proofs.NodeKinds.{Leaves, LeavesThree, OnKinds, created_file, file_refused}
use Rattle.mh_syncs.proofs.NodeKinds.{is_folder, on_file, on_rename, kind_at, missed_left, no_file}
use Rattle.mh_syncs.proofs.NodeKinds.{no_folder, rename_refused, synced_left, unmade, written_left}
use Rattle.mh_syncs.proofs.Marking.{longer_then, step_mark, step_next}
use Rattle.mh_syncs.proofs.Paths.{append_side, differ_in, new_side}
use Rattle.mh_syncs.proofs.Tracing.{met_behind, traced_as, traced_over, traced_step}
use Rattle.mh_syncs.proofs.Unmade.{clearing_miss, clearing_no_create}

true_false : ◌≡◌ {A = Bool} true false → ⊥
true_false e = cc

-- Told pasts, one part behind another.

pub between_two : {P Q : Past → Past → Type 0} (T : ℕ → ℕ → Past → Type 0) (a b c : Option Past)
    → ((p q r : Past) → P p q → Q q r → T (length p.journal) (length r.journal) r)
    → GoesOn P a b → GoesOn Q b c → IsBetween T a c
between_two T None b c by first next = tt
between_two T (Some a) None c by first next = absurd first
between_two T (Some a) (Some b) None by first next = absurd next
between_two T (Some a) (Some b) (Some c) by first next = by a b c first next

between_three : {P Q R : Past → Past → Type 0} (T : ℕ → ℕ → Past → Type 0)
    (a b c d : Option Past)
    → ((p q r s : Past) → P p q → Q q r → R r s → T (length p.journal) (length s.journal) s)
    → GoesOn P a b → GoesOn Q b c → GoesOn R c d → IsBetween T a d
between_three T None b c d by first next last = tt
between_three T (Some a) None c d by first next last = absurd first
between_three T (Some a) (Some b) None d by first next last = absurd next
between_three T (Some a) (Some b) (Some c) None by first next last = absurd last
between_three T (Some a) (Some b) (Some c) (Some d) by first next last = by a b c d first next last

-- what a refusal that something changed tells of two marks
pub told_between : (P : ℕ → ℕ → Past → Type 0) (told : SyncError) (old new : Option Past)
    → OnChanged told (IsBetween P old new)
    → IsBetween (λ m n past. OnChanged told (P m n past)) old new
told_between P told None new is = tt
told_between P told (Some old) None is = tt
told_between P (IsChanged spot) (Some old) (Some new) is = is
told_between P Locked (Some old) (Some new) is = tt
told_between P Unfinished (Some old) (Some new) is = tt
told_between P (TooMany count) (Some old) (Some new) is = tt
told_between P (TooLarge bytes) (Some old) (Some new) is = tt
told_between P Fault (Some old) (Some new) is = tt
told_between P NoMemory (Some old) (Some new) is = tt
told_between P NotFolder (Some old) (Some new) is = tt

-- what follows from a refusal that something changed
pub on_changed : {P Q : Type 0} (told : SyncError) → (P → Q) → OnChanged told P → OnChanged told Q
on_changed (IsChanged spot) by p = by p
on_changed Locked by p = tt
on_changed Unfinished by p = tt
on_changed (TooMany count) by p = tt
on_changed (TooLarge bytes) by p = tt
on_changed Fault by p = tt
on_changed NoMemory by p = tt
on_changed NotFolder by p = tt

-- Calls that fill a file.

abbrev pub IsFilling : List ℕ → Call → Type 0
IsFilling at (WriteAt to place piece) = to ≡ at
IsFilling at (Sync to) = to ≡ at
IsFilling at call = ⊥

filling_left : (at q : List ℕ) (call : Call) → IsFilling at call → Leaves q call
filling_left at q (WriteAt to place piece) is = written_left to place piece q
filling_left at q (Sync to) is = synced_left to q
filling_left at q (ListDir dir) is = absurd is
filling_left at q (StatPath to) is = absurd is
filling_left at q (ReadFront to size) is = absurd is
filling_left at q (ReadAll to limit) is = absurd is
filling_left at q (Create to) is = absurd is
filling_left at q (Cut to size) is = absurd is
filling_left at q (Rename from to) is = absurd is
filling_left at q (Remove to) is = absurd is
filling_left at q (SyncDir dir) is = absurd is
filling_left at q (MakeDir to) is = absurd is

filling_unmade : (at : List ℕ) (is_so : List TreeNode → Bool) (a b c : List ℕ)
    → OnKinds is_so a b c → IsUnmade (IsFilling at) is_so
filling_unmade at is_so a b c on = unmade (IsFilling at) is_so a b c on (λ call is. record {
  first = filling_left at a call is;
  second = filling_left at b call is;
  third = filling_left at c call is;
})

pub fill_called : (at : List ℕ) (result : Result (Unit {0}) DiskError) (call : Call)
    (old new : Option Past) → IsFilling at call
    → GoesOn (StepBy result call (done_by call)) old new → GoesOn (GoesBy (IsFilling at)) old new
fill_called at result call old new is step =
    calls_one (IsFilling at) result call (done_by call) old new is step

pub put_called : (path : List ℕ) (result : Result (Unit {0}) DiskError) (call : Call)
    (old new : Option Past) → IsPutting path call
    → GoesOn (StepBy result call (done_by call)) old new → GoesOn (GoesBy (IsPutting path)) old new
put_called path result call old new is step =
    calls_one (IsPutting path) result call (done_by call) old new is step

module _ (path : List ℕ) where
  abbrev side : List ℕ
  side = new_sequences_path path

  abbrev seqs : List ℕ
  seqs = sequences_path path

  -- the sequences may not be put in place, whatever stands beside them
  abbrev pub is_blocked : List TreeNode → Bool
  is_blocked tree = no_folder (kind_at tree path) || is_folder (kind_at tree seqs)

  on_blocked : OnKinds is_blocked path seqs seqs
  on_blocked old new folder at third = (λ i. no_folder (folder i) || is_folder (at i))

  blocked_left : (call : Call) → Misses path call → Misses seqs call
      → LeavesThree path seqs seqs call
  blocked_left call folder at = record {
    first = missed_left path call folder;
    second = missed_left seqs call at;
    third = missed_left seqs call at;
  }

  new_in : side ≡ path → ⊥
  new_in = path_no_folder path (codes ".mh_sequences.new") refl

  append_in : append_path path ≡ path → ⊥
  append_in = path_no_folder path (codes ".mutt_append") refl

  new_seqs : side ≡ seqs → ⊥
  new_seqs = differ_in path (codes ".mh_sequences.new") (codes ".mh_sequences")
      new_side.no_sequences

  append_seqs : append_path path ≡ seqs → ⊥
  append_seqs = differ_in path (codes ".mutt_append") (codes ".mh_sequences")
      append_side.no_sequences

  clearing_no_block : IsUnmade (IsClearing path) is_blocked
  clearing_no_block = unmade (IsClearing path) is_blocked path seqs seqs on_blocked
      (λ call is. blocked_left call (clearing_miss path path new_in append_in call is)
      (clearing_miss path seqs new_seqs append_seqs call is))

  create_no_block : IsUnmade (λ call. call ≡ Create side) is_blocked
  create_no_block = unmade (λ call. call ≡ Create side) is_blocked path seqs seqs on_blocked
      (λ call is. blocked_left call (subst (Misses path) (sym is) new_in)
      (subst (Misses seqs) (sym is) new_seqs))

  folder_is : folder_of seqs ≡ path
  folder_is = (path_is_in path (codes ".mh_sequences") refl).folder

  rename_is : (tree : List TreeNode) → refuses (Rename side seqs) tree
      ≡ (no_file (kind_at tree side) || no_folder (kind_at tree path)
      || is_folder (kind_at tree seqs))
  rename_is tree =
      rename_refused (node_at tree side) (node_at tree (folder_of seqs)) (node_at tree seqs)
      ∙ ap (λ (p : List ℕ). no_file (kind_at tree side) || no_folder (kind_at tree p)
      || is_folder (kind_at tree seqs)) folder_is

  -- where the file stands beside them, they are refused as they are blocked
  rename_blocked : (tree : List TreeNode) → no_file (kind_at tree side) ≡ false
      → refuses (Rename side seqs) tree ≡ true → is_blocked tree ≡ true
  rename_blocked tree there refused =
      ap (λ (b : Bool). b || no_folder (kind_at tree path) || is_folder (kind_at tree seqs))
      (sym there)
      ∙ sym (rename_is tree) ∙ refused

  blocked_rename : (tree : List TreeNode) → is_blocked tree ≡ true
      → refuses (Rename side seqs) tree ≡ true
  blocked_rename tree blocked = rename_is tree ∙ by (no_file (kind_at tree side))
    where
      by : (b : Bool) → (b || no_folder (kind_at tree path) || is_folder (kind_at tree seqs)) ≡ true
      by true = refl
      by false = blocked

  -- A file was begun beside the sequences, where an earlier side file may have been taken away.
  pub record Begun (old mid : Past) : Type 0 where
    pub low : length old.journal ≤ length mid.journal
    pub stands : (past : Past) → IsLonger mid past
        → no_file (kind_at (tree_at past (length mid.journal)) side) ≡ false
    pub blocked : (n : ℕ) (past : Past) → IsLonger mid past → length mid.journal ≤ n
        → is_blocked (tree_at past (length mid.journal)) ≡ true
        → Traced is_blocked (length old.journal) n (length mid.journal) past

  goes_longer : (Is : Call → Type 0) (p q : Past) → GoesBy Is p q → IsLonger p q
  goes_longer Is p q goes = record {
    same_first = goes.same_first;
    more = goes.more;
    journal = goes.journal;
  }

  begun : (p q r : Past) → GoesBy (IsClearing path) p q
      → StepBy {A = Unit {0}} (Ok tt) (Create side) (done_by (Create side)) q r → Begun p r
  begun p q r goes step = record {
    low = omega (
      arith,
      length_longer p q (goes_longer (IsClearing path) p q goes),
      length_longer q r created,
    );
    stands = λ past on. there past on;
    blocked = λ n past on high so.
        traced_earlier (IsClearing path) is_blocked p q past n (length r.journal)
        clearing_no_block goes (longer_then q r past created on)
        (traced_earlier (λ call. call ≡ Create side) is_blocked q r past n (length r.journal)
        create_no_block making on (traced_here is_blocked (length r.journal) n past high so));
  }
    where
      making : GoesBy (λ call. call ≡ Create side) q r
      making = calls_one (λ call. call ≡ Create side) (Ok tt) (Create side)
          (done_by (Create side)) (Some q) (Some r) refl step

      created : IsLonger q r
      created = goes_longer (λ call. call ≡ Create side) q r making

      there : (past : Past) → IsLonger r past
          → no_file (kind_at (tree_at past (length r.journal)) side) ≡ false
      there past on =
          let at = step_mark (Ok tt) (Create side) (done_by (Create side)) q r past step on in
          ap (λ (k : ℕ). no_file (kind_at (tree_at past k) side)) at.next
          ∙ ap (λ (s : State). no_file (kind_at (tree_of s) side)) (step_next at)
          ∙ ap (λ (a : Answer). no_file (kind_at
          (tree_of (after_entry (state_at past at.at) (Own (Create side) a))) side)) step.answered
          ∙ ap no_file (created_file side (state_at past at.at)
          (path_is_in path (codes ".mh_sequences.new") refl).no_root)

  -- the file could not be begun
  uncreated : (why : DiskError) (p q r : Past) → IsOfTree why → GoesBy (IsClearing path) p q
      → StepBy {A = Unit {0}} (Err why) (Create side) (done_by (Create side)) q r
      → StepRefused (IsFolderCall path) (length p.journal) (length r.journal) r
  uncreated why p q r of_tree goes step =
      let met = met_refusal why (Create side) q r of_tree step in
      traced_step (IsFolderCall path) why (Create side) q r (length p.journal) refl met
      (met_behind (IsClearing path) why (Create side) p q r (clearing_no_create path) goes
      (goes_longer (λ call. call ≡ Create side) q r (calls_one
      (λ call. call ≡ Create side) (Err why) (Create side) (done_by (Create side)) (Some q) (Some r)
      refl step)) met)

  -- a call that was refused once the file was begun
  behind_begun : (why : DiskError) (call : Call) (a b c : List ℕ) (p q r s : Past) → IsOfTree why
      → IsFolderCall path call → OnKinds (refuses call) a b c
      → ((tree : List TreeNode) → no_file (kind_at tree side) ≡ false → refuses call tree ≡ true
      → (is_blocked tree ≡ true) × ((other : List TreeNode) → is_blocked other ≡ true
      → refuses call other ≡ true))
      → Begun p q → GoesBy (IsFilling side) q r
      → StepBy {A = Unit {0}} (Err why) call (done_by call) r s
      → StepRefused (IsFolderCall path) (length p.journal) (length s.journal) s
  behind_begun why call a b c p q r s of_tree needs on blocks begun goes step =
      let met = met_refusal why call r s of_tree step in
      traced_step (IsFolderCall path) why call r s (length p.journal) needs met
      (traced_over (refuses call) (length p.journal) (length q.journal) (length s.journal) met.mark
      s begun.low
      (met_behind (IsFilling side) why call q r s (filling_unmade side (refuses call) a b c on) goes
      called met)
      (λ so. let blocked = blocks (tree_at s (length q.journal)) (begun.stands s whole) so in
      traced_as is_blocked (refuses call) (length p.journal) (length s.journal)
      (length q.journal) s blocked.1
      (begun.blocked (length s.journal) s whole (length_longer q s whole) blocked.0)))
    where
      called : IsLonger r s
      called = goes_longer (λ other. other ≡ call) r s (calls_one
          (λ other. other ≡ call) (Err why) call (done_by call) (Some r) (Some s) refl step)

      whole : IsLonger q s
      whole = longer_then q r s (goes_longer (IsFilling side) q r goes) called

  -- Refusals of new sequences.

  pub create_cause : (why : DiskError) (before old new : Option Past)
      → GoesOn (GoesBy (IsClearing path)) before old
      → GoesOn (StepBy {A = Unit {0}} (Err why) (Create side) (done_by (Create side))) old new
      → IsOfTree why → IsBetween (StepRefused (IsFolderCall path)) before new
  create_cause why before old new goes step of_tree =
      between_two (StepRefused (IsFolderCall path)) before old new
      (λ p q r x y. uncreated why p q r of_tree x y) goes step

  module _ (before old mid late new : Option Past)
      (goes : GoesOn (GoesBy (IsClearing path)) before old)
      (made : GoesOn (StepBy {A = Unit {0}} (Ok tt) (Create side) (done_by (Create side))) old mid)
      (fills : GoesOn (GoesBy (IsFilling side)) mid late) where
    was_begun : GoesOn Begun before mid
    was_begun = goes_both before old mid (λ p q r x y. begun p q r x y) goes made

    -- a file is not there any more
    file_blocks : (call : Call)
        → ((tree : List TreeNode) → refuses call tree ≡ no_file (kind_at tree side))
        → (tree : List TreeNode) → no_file (kind_at tree side) ≡ false
        → refuses call tree ≡ true → (is_blocked tree ≡ true)
        × ((other : List TreeNode) → is_blocked other ≡ true → refuses call other ≡ true)
    file_blocks call is tree there refused =
        absurd (true_false (sym refused ∙ is tree ∙ there))

    pub write_cause : (why : DiskError) (place : ℕ) (piece : List ℕ)
        → GoesOn (StepBy {A = Unit {0}} (Err why) (WriteAt side place piece)
        (done_by (WriteAt side place piece))) late new
        → IsOfTree why → IsBetween (StepRefused (IsFolderCall path)) before new
    write_cause why place piece step of_tree =
        between_three (StepRefused (IsFolderCall path)) before mid late new
        (λ p q r s x y z. behind_begun why (WriteAt side place piece) side side side p q r s of_tree
        refl (on_file side)
        (file_blocks (WriteAt side place piece) (λ tree. file_refused (node_at tree side))) x y z)
        was_begun fills step

    pub sync_cause : (why : DiskError)
        → GoesOn (StepBy {A = Unit {0}} (Err why) (Sync side) (done_by (Sync side))) late new
        → IsOfTree why → IsBetween (StepRefused (IsFolderCall path)) before new
    sync_cause why step of_tree =
        between_three (StepRefused (IsFolderCall path)) before mid late new
        (λ p q r s x y z. behind_begun why (Sync side) side side side p q r s of_tree
        refl (on_file side)
        (file_blocks (Sync side) (λ tree. file_refused (node_at tree side))) x y z)
        was_begun fills step

    pub rename_cause : (why : DiskError)
        → GoesOn (StepBy {A = Unit {0}} (Err why) (Rename side seqs) (done_by (Rename side seqs)))
        late new
        → IsOfTree why → IsBetween (StepRefused (IsFolderCall path)) before new
    rename_cause why step of_tree =
        between_three (StepRefused (IsFolderCall path)) before mid late new
        (λ p q r s x y z. behind_begun why (Rename side seqs) side (folder_of seqs) seqs p q r s
        of_tree (refl, refl) (on_rename side seqs)
        (λ tree there refused. (rename_blocked tree there refused, blocked_rename)) x y z)
        was_begun fills step

    -- the same of what the call answers
    pub rename_if : (result : Result (Unit {0}) DiskError)
        → GoesOn (StepBy result (Rename side seqs) (done_by (Rename side seqs))) late new
        → IfErr result (λ why. IsOfTree why
        → IsBetween (StepRefused (IsFolderCall path)) before new)
    rename_if (Ok done) step = tt
    rename_if (Err why) step = rename_cause why step

  -- what the refusal of a call tells
  pub put_cause : (told : SyncError) (why : DiskError) (before new : Option Past)
      → (IsOfTree why → IsBetween (StepRefused (IsFolderCall path)) before new)
      → OnChanged told (IsOfTree why) → IsBetween (CallCause (IsFolderCall path) told) before new
  put_cause told why before new cause changed =
      told_between (StepRefused (IsFolderCall path)) told before new
      (on_changed told cause changed)
