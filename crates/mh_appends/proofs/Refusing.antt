-- Why the adding of a message to an MH folder was refused.
use Rattle.std.proofs.Common.{◌≡◌, ◌≢◌, ◌||◌, ◌∙◌, [], ℕ, Bool, true, false, List, Option, Some}
use Rattle.std.proofs.Common.{None, Result, Ok, Err, ap, codes, if◌then◌else◌, inl, inr, is_none}
use Rattle.std.proofs.Common.{is_some, nat_lt, length, refl, subst, sym}
use Rattle.std.specs.Prelude.{IfErr}
use Rattle.std.specs.Result.{IsErrAnd}
use Rattle.std.specs.Fmt.{decimal}
use Rattle.std.specs.String.{string_bytes}
use Rattle.mail_base.specs.declared.flags.Flags.{Flags}
use Rattle.disk_model.specs.Journal.{Answer, Call, Create, Past, ReadAll, Remove, Rename, Sync}
use Rattle.disk_model.specs.Journal.{SyncDir, WriteAt}
use Rattle.disk_model.specs.Judge.{Called, GoesOn, Grows, StepBy, bytes_of, read_at}
use Rattle.disk_model.specs.Judge.{answer_by, stat_node}
use Rattle.disk_model.specs.Refusals.{below_refusal, file_refusal, first_refusal, folder_refusal}
use Rattle.disk_model.specs.Refusals.{free_refusal, length_refusal, long_refusal, missing_refusal}
use Rattle.disk_model.specs.Refusals.{refusal, target_refusal}
use Rattle.disk_model.specs.Tree.{TreeNode, folder_of, is_root, node_at}
use Rattle.disk_model.specs.declared.answers.DiskError.{DiskError}
use Rattle.disk_model.specs.declared.answers.DiskError.TheVariants as disk
use Rattle.disk_model.specs.declared.answers.Stat.{Stat}
use Rattle.folder_core.specs.Directory.{is_name, path_in}
use Rattle.folder_core.proofs.KindsLemmas.{number_is_name}
use Rattle.folder_core.proofs.NamesIn.{path_is_in}
use Rattle.folder_core.proofs.SeenLemmas.{goes_as}
use Rattle.folder_changes.specs.Refused.{IsBetween, IsOfTree, refused_by}
use Rattle.folder_changes.specs.declared.sync_error.SyncError.{SyncError}
use Rattle.folder_changes.specs.declared.sync_error.SyncError.TheVariants.{Fault, NoMemory}
use Rattle.folder_changes.proofs.TraceLemmas.{asked_by}
use Rattle.folder_drivers.specs.MhAppend.{IsAppendCall, MhAppendRefused, sequences_with}
use Rattle.folder_drivers.specs.MhNames.{IsSidePath, append_path, new_sequences_path}
use Rattle.folder_drivers.proofs.MhCalls.{no_folder}
use Rattle.folder_drivers.proofs.Touching.{Misses}
use Rattle.mh_appends.specs.Leftovers.{MakesReady}
use Rattle.mh_appends.specs.Placing.{AreChosen, IsPlaced}
use Rattle.disk_model.specs.Judge.{list_of}
use Rattle.disk_model.specs.State.{tree_at}
use Rattle.disk_model.specs.Tree.{is_folder_node}
use Rattle.folder_core.specs.Directory.{is_folder_at}
use Rattle.folder_core.proofs.LookedLemmas.{list_tells}
use Rattle.folder_drivers.specs.MaildirAppend.{is_there}
use Rattle.folder_drivers.specs.MhAppend.{IsLater, MissesStep, StopsStep}
use Rattle.mh_appends.specs.Leftovers.{MetNone, MetNot}
use Rattle.mh_appends.specs.Replacing.{WasNotDone}
use Rattle.mh_appends.proofs.Hushing.{no_folder_made}
use Rattle.mh_appends.proofs.Meeting.{held_free}
use Rattle.mh_appends.proofs.Tracing.{AllNew, NoneNew, new_reason, old_reason, traces_met}
use Rattle.mh_appends.proofs.Tracing.{traces_own}
use Rattle.mh_appends.specs.Putting.{FailsFilling, FailsNaming, FailsSequences, NotHeld, OnlyHeld}
use Rattle.mh_appends.specs.Putting.{PutSequences}
use Rattle.mh_appends.specs.Replacing.{FailsReplacing, FailsWriting, NotRead, WasDone}
use Rattle.mh_appends.specs.Replacing.{WroteFile}
use Rattle.mh_appends.specs.declared.places.Places.{Places}
use Rattle.folder_stops.specs.Along.{Grown}
use Rattle.folder_stops.specs.Does.{AllOwn}
use Rattle.mh_appends.proofs.Hushing.{At, missed, missed_file}
use Rattle.mh_appends.proofs.Hushing.{ready_hushed}
use Rattle.mh_appends.proofs.Hushing.{misses_hushes, no_file, no_room, no_target, remove_hushes}
use Rattle.mh_appends.proofs.Hushing.{stands_made, stands_whole, stands_written}
use Rattle.mh_appends.proofs.Paths.{not_number, sequences_differ, sides_differ}
use Rattle.mh_appends.proofs.Tracing.{HasReasons, Hushes, Reason, Traceable, Traces}
use Rattle.mh_appends.proofs.Tracing.{goes_both, refused_for, traces_then}
use Rattle.mh_appends.proofs.Tracing.{two_reasons}
use Rattle.mh_appends.proofs.Working.{no_sequences, sequences_beside}

-- By the calls.

true_false : ◌≡◌ {A = Bool} true false → ⊥
true_false e = cc

abbrev no_below : Option TreeNode → Bool
no_below node = is_some (below_refusal node)

abbrev no_folder_there : Option TreeNode → Bool
no_folder_there node = is_some (folder_refusal node)

folder_stands : (node : Option TreeNode) → is_folder_node node ≡ true
    → (no_below node ≡ false) × (no_folder_there node ≡ false)
folder_stands None is = absurd (true_false (sym is))
folder_stands (Some node) is = by (is_none node.bytes) is
  where
    by : (folder : Bool) → folder ≡ true
        → (is_some (if folder then None else Some disk.Missing) ≡ false)
        × (is_some (if folder then None else Some disk.WrongNode) ≡ false)
    by true e = (refl, refl)
    by false e = absurd (true_false (sym e))

room_there : (node : Option TreeNode) → is_some node ≡ false → no_room node ≡ false
room_there None is = refl
room_there (Some node) is = is

no_target_folder : (node : Option TreeNode) → no_target node ≡ true → is_folder_node node ≡ true
no_target_folder None is = absurd (true_false (sym is))
no_target_folder (Some node) is = by (is_none node.bytes) is
  where
    by : (folder : Bool) → is_some (if folder then Some disk.WrongNode else None) ≡ true
        → folder ≡ true
    by true e = refl
    by false e = absurd (true_false (sym e))

abbrev too_long : ℕ → Option TreeNode → Bool
too_long limit node = is_some (long_refusal limit node)

rename_refused : (from below to : Option TreeNode)
    → is_some (first_refusal (missing_refusal from) (first_refusal (below_refusal below)
    (first_refusal (file_refusal from) (target_refusal to))))
    ≡ (no_file from || (no_below below || no_target to))
rename_refused None below to = refl
rename_refused (Some f) below to = by (is_none f.bytes) (below_refusal below)
  where
    by : (folder : Bool) (why : Option DiskError)
        → is_some (first_refusal why
        (first_refusal (if folder then Some disk.WrongNode else None) (target_refusal to)))
        ≡ (is_some (if folder then Some disk.WrongNode else None) || (is_some why || no_target to))
    by true None = refl
    by true (Some e) = refl
    by false None = refl
    by false (Some e) = refl

left_or : (a b : Bool) → a ≡ true → (a || b) ≡ true
left_or true b is = refl
left_or false b is = absurd (cc)

right_or : (a b : Bool) → b ≡ true → (a || b) ≡ true
right_or true b is = refl
right_or false b is = is

-- of three, the last of which others may have made long ago
module _ (asks : List TreeNode → Option DiskError) (IsNew : List TreeNode → Type 0)
    (one two three : List TreeNode → Bool)
    (split : (tree : List TreeNode) → is_some (asks tree) ≡ (one tree || (two tree || three tree)))
    (last_new : Bool)
    (old : (tree : List TreeNode) → three tree ≡ true → last_new ≡ false → IsNew tree → ⊥) where
  by_three : (a b : Past) (tree : List TreeNode) → Traceable true one a b
      → Traceable true two a b → Traceable last_new three a b → (s t : Bool) → one tree ≡ s
      → two tree ≡ t → (s || (t || three tree)) ≡ true → Reason asks IsNew tree a b
  by_three a b tree first next last true t here there some = record {
    is_so = one;
    holds = here;
    refuses_so = λ other so. split other ∙ left_or (one other) (two other || three other) so;
    is_new = true;
    traceable = first;
    new_is = λ e new. true_false e;
  }
  by_three a b tree first next last false true here there some = record {
    is_so = two;
    holds = there;
    refuses_so = λ other so. split other ∙ right_or (one other) (two other || three other)
        (left_or (two other) (three other) so);
    is_new = true;
    traceable = next;
    new_is = λ e new. true_false e;
  }
  by_three a b tree first next last false false here there some = record {
    is_so = three;
    holds = some;
    refuses_so = λ other so. split other ∙ right_or (one other) (two other || three other)
        (right_or (two other) (three other) so);
    is_new = last_new;
    traceable = last;
    new_is = old tree some;
  }

  three_reasons : (a b : Option Past) → Traces true one a b → Traces true two a b
      → Traces last_new three a b → HasReasons asks IsNew a b
  three_reasons a b first next last = goes_both a b
      (λ p q f l tree why is. by_three p q tree f.0 f.1 l (one tree) (two tree) refl refl
      (sym (split tree) ∙ ap is_some is))
      (goes_both {R = λ p q. Traceable true one p q × Traceable true two p q} a b
      (λ p q f n. (f, n)) first next) last

-- what `read_all` gives
abbrev read_value : Option TreeNode → Stat × List ℕ
read_value None = (stat_node None 0, [])
read_value (Some node) = (stat_node node.bytes node.stamp, bytes_of node.bytes)

read_asked : (node : Option TreeNode) (limit : ℕ) → read_at node limit
    ≡ answer_by (first_refusal (file_refusal node) (long_refusal limit node)) (read_value node)
read_asked None limit = refl
read_asked (Some node) limit = by node.bytes
  where
    by_long : (bytes : List ℕ) (long : Bool)
        → ◌≡◌ {A = Result (Stat × List ℕ) DiskError}
        (if long then Err (disk.Long (length bytes))
        else Ok (stat_node (Some bytes) node.stamp, bytes))
        (answer_by (if long then Some (disk.Long (length bytes)) else None)
        (stat_node (Some bytes) node.stamp, bytes))
    by_long bytes true = refl
    by_long bytes false = refl

    by : (bytes : Option (List ℕ)) → read_at (Some (record node { bytes = bytes })) limit
        ≡ answer_by (first_refusal (if is_none bytes then Some disk.WrongNode else None)
        (length_refusal limit bytes)) (stat_node bytes node.stamp, bytes_of bytes)
    by None = refl
    by (Some bytes) = by_long bytes (nat_lt limit (length bytes))

-- What is told of a refusal.

free_between : (P : ℕ → ℕ → Past → Type 0) (a c : Option Past)
    → ((m n : ℕ) (past : Past) → P m n past) → IsBetween P a c
free_between P None c free = tt
free_between P (Some a) None free = tt
free_between P (Some a) (Some c) free = free (length a.journal) (length c.journal) c

module _ (path : List ℕ) where
  by_refusal : (why : DiskError) (a c : Option Past)
      → (IsOfTree why → IsBetween (MissesStep path) a c)
      → IsBetween (MhAppendRefused path (refused_by why)) a c
  by_refusal disk.Missing a c cause = cause tt
  by_refusal disk.WrongNode a c cause = cause tt
  by_refusal disk.Exists a c cause = cause tt
  by_refusal (disk.Long size) a c cause = cause tt
  by_refusal disk.Fault a c cause =
      free_between (MhAppendRefused path Fault) a c (λ m n past. tt)
  by_refusal disk.NoMemory a c cause =
      free_between (MhAppendRefused path NoMemory) a c (λ m n past. tt)

  pub told_by : (told : SyncError) (why : DiskError) (a c : Option Past) → told ≡ refused_by why
      → (IsOfTree why → IsBetween (MissesStep path) a c)
      → IsBetween (MhAppendRefused path told) a c
  told_by told why a c is cause =
      subst (λ (e : SyncError). IsBetween (MhAppendRefused path e) a c) (sym is)
      (by_refusal why a c cause)

  pub told_memory : (told : SyncError) (a c : Option Past) → told ≡ NoMemory
      → IsBetween (MhAppendRefused path told) a c
  told_memory told a c is =
      subst (λ (e : SyncError). IsBetween (MhAppendRefused path e) a c) (sym is)
      (free_between (MhAppendRefused path NoMemory) a c (λ m n past. tt))

  pub told_none : {T : Type 0} (result : Result T SyncError) (a c : Option Past)
      → IsErrAnd result (λ told. told ≡ NoMemory)
      → IfErr result (λ told. IsBetween (MhAppendRefused path told) a c)
  told_none (Ok given) a c is = tt
  told_none (Err told) a c is = told_memory told a c is

  pub told_call : (call : Call) → IsAppendCall path call → (IsNew : List TreeNode → Type 0)
      → ((tree : List TreeNode) → IsLater path call tree → IsNew tree) → (told : SyncError)
      → (why : DiskError) → told ≡ refused_by why → StopsStep call why → {A : Type 0}
      (value : List TreeNode → A) → (a b c : Option Past) → HasReasons (refusal call) IsNew a b
      → GoesOn (StepBy {A = A} (Err why) call (asked_by call value)) b c
      → IsBetween (MhAppendRefused path told) a c
  told_call call needs IsNew later told why is stops value a b c reasons step =
      told_by told why a c is (λ of_tree. refused_for (IsAppendCall path) call needs value why
      of_tree IsNew (MissesStep path) a b c (λ m n past refused same that new. record {
        step = refused;
        stops = subst (λ (other : Call). StopsStep other refused.why) (sym that)
            (subst (StopsStep call) (sym same) stops);
        later = λ l. new (later (tree_at past refused.refused.mark)
            (subst (λ (other : Call). IsLater path other (tree_at past refused.refused.mark)) that
            l));
      }) reasons step)

  -- of a call behind the look
  later_call : (call : Call) → IsAppendCall path call → (told : SyncError) (why : DiskError)
      → told ≡ refused_by why → StopsStep call why → (a b c : Option Past)
      → HasReasons (refusal call) AllNew a b → WasNotDone why call b c
      → IsBetween (MhAppendRefused path told) a c
  later_call call needs told why is stops a b c reasons not =
      told_call call needs AllNew (λ tree l. tt) told why is stops (λ tree. tt {0}) a b c reasons
      not.goes

-- By what came before.

module _ (path core : List ℕ) (places : Places) (flags : Flags) (is : IsPlaced path places core)
    (old : Option Past) where
  abbrev held_at : List ℕ
  held_at = string_bytes places.held

  abbrev beside_at : List ℕ
  beside_at = string_bytes places.beside

  abbrev side_at : List ℕ
  side_at = string_bytes places.side

  abbrev sequences_there : List ℕ
  sequences_there = string_bytes places.sequences

  -- The paths.

  abbrev IsHere : List ℕ → List ℕ → Type 0
  IsHere name at = at ≡ path_in path name

  held_name : is_name (decimal places.number) ≡ true
  held_name = number_is_name (decimal places.number) is.numbered

  held_path : held_at ≢ path
  held_path e = no_folder path (decimal places.number) held_name (sym is.of.held ∙ e)

  beside_path : beside_at ≢ path
  beside_path e = no_folder path (codes ".mutt_append") refl (sym is.of.beside ∙ e)

  side_path : side_at ≢ path
  side_path e = no_folder path (codes ".mh_sequences.new") refl (sym is.of.side ∙ e)

  sequences_folder : sequences_there ≢ path
  sequences_folder e = no_folder path (codes ".mh_sequences") refl (sym is.of.sequences ∙ e)

  beside_held : beside_at ≢ held_at
  beside_held e = not_number path (decimal places.number) (codes ".mutt_append") is.numbered refl
      (sym is.of.beside ∙ e ∙ is.of.held)

  side_held : side_at ≢ held_at
  side_held e = not_number path (decimal places.number) (codes ".mh_sequences.new") is.numbered
      refl (sym is.of.side ∙ e ∙ is.of.held)

  sequences_held : sequences_there ≢ held_at
  sequences_held e = not_number path (decimal places.number) (codes ".mh_sequences") is.numbered
      refl (sym is.of.sequences ∙ e ∙ is.of.held)

  side_beside : side_at ≢ beside_at
  side_beside e = sides_differ path (sym is.of.side ∙ e ∙ is.of.beside)

  sequences_not_beside : sequences_there ≢ beside_at
  sequences_not_beside e = sequences_differ path (sym is.of.sequences ∙ e ∙ is.of.beside)

  side_sequences : side_at ≢ sequences_there
  side_sequences e = no_sequences path (codes ".mh_sequences.new") sequences_beside
      (sym is.of.side ∙ e ∙ is.of.sequences)

  in_folder : (name at : List ℕ) → is_name name ≡ true → at ≡ path_in path name
      → folder_of at ≡ path
  in_folder name at named here = ap folder_of here ∙ (path_is_in path name named).folder

  no_root : (name at : List ℕ) → is_name name ≡ true → at ≡ path_in path name
      → is_root at ≡ false
  no_root name at named here = ap is_root here ∙ (path_is_in path name named).no_root

  beside_side : IsSidePath path beside_at
  beside_side = inr is.of.beside

  side_side : IsSidePath path side_at
  side_side = inl is.of.side

  -- What is traced to the call's start.

  abbrev Upto : Bool → (Option TreeNode → Bool) → List ℕ → Option Past → Type 0
  Upto is_new f q x = Traces is_new (At f q) old x

  on_call : (is_new : Bool) (f : Option TreeNode → Bool) (q : List ℕ) {T : Type 0}
      (result : Result T DiskError) {call : Call} {wanted : List TreeNode → Result T DiskError}
      (b c : Option Past) → Upto is_new f q b → Misses q call → Called result call wanted b c
      → Upto is_new f q c
  on_call is_new f q result b c upto misses took =
      traces_then (At f q) is_new old b c upto (missed f q result b c misses took)

  on_file : (is_new : Bool) (f : Option TreeNode → Bool) (q at bytes : List ℕ) (b c : Option Past)
      → Upto is_new f q b → at ≢ q → WroteFile at bytes b c → Upto is_new f q c
  on_file is_new f q at bytes b c upto other wrote =
      traces_then (At f q) is_new old b c upto (missed_file f q at bytes b c other wrote)

  grows_to : (is_new : Bool) (f : Option TreeNode → Bool) (q : List ℕ) (b : Option Past)
      → Upto is_new f q b → Grows old b
  grows_to is_new f q b upto = goes_as old b (λ p r traceable. traceable.longer) upto

  -- The folder, which stood as it was listed, and the sequences.
  record Around (x : Option Past) : Type 0 where
    below : Upto true no_below path x
    folder : Upto true no_folder_there path x
    sequences : (f : Option TreeNode → Bool) → Upto false f sequences_there x

  around_call : {T : Type 0} (result : Result T DiskError) {call : Call}
      {wanted : List TreeNode → Result T DiskError} (b c : Option Past) → Around b
      → Misses path call → Misses sequences_there call → Called result call wanted b c → Around c
  around_call result b c so folder sequences took = record {
    below = on_call true no_below path result b c so.below folder took;
    folder = on_call true no_folder_there path result b c so.folder folder took;
    sequences = λ f. on_call false f sequences_there result b c (so.sequences f) sequences took;
  }

  around_file : (at bytes : List ℕ) (b c : Option Past) → Around b → at ≢ path
      → at ≢ sequences_there → WroteFile at bytes b c → Around c
  around_file at bytes b c so folder sequences wrote = record {
    below = on_file true no_below path at bytes b c so.below folder wrote;
    folder = on_file true no_folder_there path at bytes b c so.folder folder wrote;
    sequences = λ f. on_file false f sequences_there at bytes b c (so.sequences f) sequences wrote;
  }

  -- Before the message is written.
  record Clear (x : Option Past) : Type 0 where
    around : Around x
    target : Upto true no_target held_at x
    beside : Upto true no_room beside_at x
    side : Upto true no_room side_at x

  -- Behind that.
  record Written (x : Option Past) : Type 0 where
    around : Around x
    target : Upto true no_target held_at x
    side : Upto true no_room side_at x
    message : Upto true no_file beside_at x

  -- New sequences are written beside.
  record Filed (x : Option Past) : Type 0 where
    around : Around x
    target : Upto true no_target held_at x
    message : Upto true no_file beside_at x
    side : Upto true no_file side_at x

  -- They are put in place.
  record Settled (x : Option Past) : Type 0 where
    below : Upto true no_below path x
    folder : Upto true no_folder_there path x
    target : Upto true no_target held_at x
    message : Upto true no_file beside_at x

  module _ (mid : Option Past) (ready : MakesReady path old mid)
      (chosen : AreChosen path old mid places) where
    removes : (f : Option TreeNode → Bool) (q : List ℕ) → new_sequences_path path ≢ q
        → append_path path ≢ q → (at : List ℕ) → IsSidePath path at → (answer : Answer)
        → Hushes (At f q) (Remove at) answer
    removes f q one two at (inl here) answer =
        misses_hushes f q (Remove at) (λ same. one (sym here ∙ same)) answer
    removes f q one two at (inr here) answer =
        misses_hushes f q (Remove at) (λ same. two (sym here ∙ same)) answer

    removes_beside : (at : List ℕ) → IsSidePath path at → (answer : Answer)
        → Hushes (At no_room beside_at) (Remove at) answer
    removes_beside at (inl here) answer = misses_hushes no_room beside_at (Remove at)
        (λ same. side_beside (is.of.side ∙ sym here ∙ same)) answer
    removes_beside at (inr here) answer =
        subst (λ (p : List ℕ). Hushes (At no_room beside_at) (Remove p) answer)
        (is.of.beside ∙ sym here)
        (remove_hushes beside_at (no_root (codes ".mutt_append") beside_at refl is.of.beside)
        answer)

    removes_side : (at : List ℕ) → IsSidePath path at → (answer : Answer)
        → Hushes (At no_room side_at) (Remove at) answer
    removes_side at (inl here) answer =
        subst (λ (p : List ℕ). Hushes (At no_room side_at) (Remove p) answer)
        (is.of.side ∙ sym here)
        (remove_hushes side_at (no_root (codes ".mh_sequences.new") side_at refl is.of.side) answer)
    removes_side at (inr here) answer = misses_hushes no_room side_at (Remove at)
        (λ same. side_beside (sym same ∙ here ∙ sym is.of.beside)) answer

    hush_at : (f : Option TreeNode → Bool) (q : List ℕ) → side_at ≢ q → beside_at ≢ q
        → Grown old mid (λ s es. AllOwn (Hushes (At f q)) es)
    hush_at f q one two = ready_hushed f q path
        (removes f q (λ e. one (is.of.side ∙ e)) (λ e. two (is.of.beside ∙ e))) old mid ready

    -- nothing of ours is put under the number
    pub ready_hush : Grown old mid (λ s es. AllOwn (Hushes (At is_some held_at)) es)
    ready_hush = hush_at is_some held_at side_held beside_held

    -- what the listing has met
    listed_so : (f : Option TreeNode → Bool) (q : List ℕ) → side_at ≢ q → beside_at ≢ q
        → ((tree : List TreeNode) → Ok chosen.names ≡ list_of tree path → At f q tree ≡ false)
        → Upto true f q mid
    listed_so f q one two tells = traces_met (At f q) old mid (hush_at f q one two)
        (goes_as old mid (λ p r saw. record {
          mark = saw.mark;
          from = saw.from;
          to = saw.to;
          is = tells (tree_at r saw.mark) saw.tells;
        }) chosen.met)

    folder_met : (tree : List TreeNode) → Ok chosen.names ≡ list_of tree path
        → (At no_below path tree ≡ false) × (At no_folder_there path tree ≡ false)
    folder_met tree met =
        folder_stands (node_at tree path) (list_tells tree path chosen.names met).0

    number_met : (tree : List TreeNode) → Ok chosen.names ≡ list_of tree path
        → At no_room held_at tree ≡ false
    number_met tree met = room_there (node_at tree held_at)
        (held_free path core places is chosen.names tree chosen.next met)

    -- the number is held
    ready_around : Around mid
    ready_around = record {
      below = listed_so no_below path side_path beside_path (λ tree met. (folder_met tree met).0);
      folder = listed_so no_folder_there path side_path beside_path
          (λ tree met. (folder_met tree met).1);
      sequences = λ f. traces_own (At f sequences_there) old mid (hush_at f sequences_there
          side_sequences (λ e. sequences_not_beside (sym e)));
    }

    -- what was left over is gone
    emptied : (q p : List ℕ) → q ≡ p → MetNone p old mid
        → GoesOn (MetNot (At no_room q)) old mid
    emptied q p same met = goes_as old mid (λ a b m. record {
      mark = m.mark;
      from = m.from;
      to = m.to;
      is = room_there (node_at (tree_at b m.mark) q)
          (ap (λ (r : List ℕ). is_there r (tree_at b m.mark)) same ∙ m.is);
    }) met

    cleared : (h : Option Past) → WasDone (Create held_at) mid h → Clear h
    cleared h holds = record {
      around = around_call (Ok tt) mid h ready_around held_path (λ e. sequences_held (sym e)) holds;
      target = no_folder_made held_at
          (no_root (decimal places.number) held_at held_name is.of.held) old mid h
          (grows_to true no_below path mid ready_around.below) holds;
      beside = on_call true no_room beside_at (Ok tt) mid h
          (traces_met (At no_room beside_at) old mid
          (ready_hushed no_room beside_at path removes_beside old mid ready)
          (emptied beside_at (append_path path) is.of.beside chosen.empties.append))
          (λ e. beside_held (sym e)) holds;
      side = on_call true no_room side_at (Ok tt) mid h
          (traces_met (At no_room side_at) old mid
          (ready_hushed no_room side_at path removes_side old mid ready)
          (emptied side_at (new_sequences_path path) is.of.side chosen.empties.side))
          (λ e. side_held (sym e)) holds;
    }

  -- the message is written
  now_written : (b c : Option Past) → Clear b → WroteFile beside_at core b c → Written c
  now_written b c clear wrote = record {
    around = around_file beside_at core b c clear.around beside_path
        (λ e. sequences_not_beside (sym e)) wrote;
    target = on_file true no_target held_at beside_at core b c clear.target beside_held wrote;
    side = on_file true no_room side_at beside_at core b c clear.side (λ e. side_beside (sym e))
        wrote;
    message = stands_whole beside_at
        (no_root (codes ".mutt_append") beside_at refl is.of.beside) core old b c
        (grows_to true no_room beside_at b clear.beside) wrote;
  }

  -- the sequences are read
  now_read : {T : Type 0} (result : Result T DiskError) (limit : ℕ)
      {wanted : List TreeNode → Result T DiskError} (b c : Option Past) → Written b
      → Called result (ReadAll sequences_there limit) wanted b c → Written c
  now_read result limit b c so took = record {
    around = around_call result b c so.around tt tt took;
    target = on_call true no_target held_at result b c so.target tt took;
    side = on_call true no_room side_at result b c so.side tt took;
    message = on_call true no_file beside_at result b c so.message tt took;
  }

  -- new ones are written
  now_filed : (bytes : List ℕ) (b c : Option Past) → Written b → WroteFile side_at bytes b c
      → Filed c
  now_filed bytes b c so wrote = record {
    around = around_file side_at bytes b c so.around side_path side_sequences wrote;
    target = on_file true no_target held_at side_at bytes b c so.target side_held wrote;
    message = on_file true no_file beside_at side_at bytes b c so.message side_beside wrote;
    side = stands_whole side_at (no_root (codes ".mh_sequences.new") side_at refl is.of.side) bytes
        old b c (grows_to true no_room side_at b so.side) wrote;
  }

  -- and put in place
  now_settled : (b c : Option Past) → Filed b → WasDone (Rename side_at sequences_there) b c
      → Settled c
  now_settled b c so took = record {
    below = on_call true no_below path (Ok tt) b c so.around.below (side_path, sequences_folder)
        took;
    folder = on_call true no_folder_there path (Ok tt) b c so.around.folder
        (side_path, sequences_folder) took;
    target = on_call true no_target held_at (Ok tt) b c so.target (side_held, sequences_held) took;
    message = on_call true no_file beside_at (Ok tt) b c so.message
        (side_beside, sequences_not_beside) took;
  }

  now_put : (b c : Option Past) → Written b → PutSequences places flags b c → Settled c
  now_put b c so puts =
      now_settled puts.replaces.wrote c
      (now_filed (sequences_with places.number flags puts.bytes) puts.read puts.replaces.wrote
      (now_read puts.reads.answered puts.reads.limit b puts.read so puts.reads.called)
      puts.replaces.writes) puts.replaces.renames

  -- What was refused.

  abbrev Tells : SyncError → Option Past → Type 0
  Tells told new = IsBetween (MhAppendRefused path told) old new

  make_reasons : (at : List ℕ) (b : Option Past) → folder_of at ≡ path
      → Upto true no_below path b → Upto true no_room at b
      → HasReasons (refusal (Create at)) AllNew old b
  make_reasons at b here folder room =
      two_reasons (λ tree. below_refusal (node_at tree (folder_of at)))
      (λ tree. free_refusal (node_at tree at)) AllNew old b
      (new_reason (λ tree. below_refusal (node_at tree (folder_of at))) AllNew old b
      (subst (λ (q : List ℕ). Upto true no_below q b) (sym here) folder))
      (new_reason (λ tree. free_refusal (node_at tree at)) AllNew old b room)

  rename_reasons : (from to : List ℕ) (IsNew : List TreeNode → Type 0) (last_new : Bool)
      → ((tree : List TreeNode) → At no_target to tree ≡ true → last_new ≡ false → IsNew tree → ⊥)
      → (b : Option Past) → folder_of to ≡ path → Upto true no_file from b
      → Upto true no_below path b → Upto last_new no_target to b
      → HasReasons (refusal (Rename from to)) IsNew old b
  rename_reasons from to IsNew last_new older b here file folder target =
      three_reasons (refusal (Rename from to)) IsNew (At no_file from) (At no_below (folder_of to))
      (At no_target to)
      (λ tree. rename_refused (node_at tree from) (node_at tree (folder_of to)) (node_at tree to))
      last_new older old b file
      (subst (λ (q : List ℕ). Upto true no_below q b) (sym here) folder) target

  -- a file was not written
  not_written : (at bytes name : List ℕ) → is_name name ≡ true → at ≡ path_in path name
      → IsSidePath path at → (told : SyncError) (why : DiskError) → told ≡ refused_by why
      → (b c : Option Past) → Upto true no_below path b → Upto true no_room at b
      → FailsWriting at bytes why b c → Tells told c
  not_written at bytes name named here side told why same b c folder room (inl not) =
      later_call path (Create at) (inl side) told why same tt old b c
      (make_reasons at b (in_folder name at named here) folder room) not
  not_written at bytes name named here side told why same b c folder room (inr (inl not)) =
      later_call path (WriteAt at 0 bytes) side told why same tt old not.made c
      (new_reason (refusal (WriteAt at 0 bytes)) AllNew old not.made
      (stands_made at (no_root name at named here) old b not.made (grows_to true no_room at b room)
      not.creates)) not.fails
  not_written at bytes name named here side told why same b c folder room (inr (inr not)) =
      later_call path (Sync at) side told why same tt old not.wrote c
      (new_reason (refusal (Sync at)) AllNew old not.wrote
      (stands_written at (no_root name at named here) bytes old b not.made not.wrote
      (grows_to true no_room at b room) not.creates not.writes)) not.fails

  -- the sequences were not read
  not_read : (told : SyncError) (why : DiskError) → told ≡ refused_by why → (b c : Option Past)
      → Written b → NotRead sequences_there why b c → Tells told c
  not_read told why same b c so not =
      told_call path (ReadAll sequences_there not.limit) is.of.sequences NoneNew (λ tree l. l) told
      why same not.other (λ tree. read_value (node_at tree sequences_there)) old b c
      (two_reasons (λ tree. file_refusal (node_at tree sequences_there))
      (λ tree. long_refusal not.limit (node_at tree sequences_there)) NoneNew old b
      (old_reason (λ tree. file_refusal (node_at tree sequences_there)) old b
      (so.around.sequences no_file))
      (old_reason (λ tree. long_refusal not.limit (node_at tree sequences_there)) old b
      (so.around.sequences (too_long not.limit))))
      (subst (λ (asks : List TreeNode → Result (Stat × List ℕ) DiskError).
      GoesOn (StepBy (Err why) (ReadAll sequences_there not.limit) asks) b c)
      (λ i tree. read_asked (node_at tree sequences_there) not.limit i) not.called.goes)

  -- or new ones were not put in their place
  no_sequences_put : (told : SyncError) (b c : Option Past) → Written b
      → FailsSequences places flags told b c → Tells told c
  no_sequences_put told b c so (inl not) = not_read told not.why not.is b c so not.fails
  no_sequences_put told b c so (inr (inl only)) = told_memory path told old c only.is
  no_sequences_put told b c so (inr (inr not)) = by not.fails
    where
      read : Written not.read
      read = now_read not.reads.answered not.reads.limit b not.read so not.reads.called

      by : FailsReplacing side_at sequences_there (sequences_with places.number flags not.bytes)
          not.why not.read c → Tells told c
      by (inl fails) = not_written side_at (sequences_with places.number flags not.bytes)
          (codes ".mh_sequences.new") refl is.of.side side_side told not.why not.is not.read c
          read.around.below read.side fails
      by (inr fails) =
          let filed = now_filed (sequences_with places.number flags not.bytes) not.read fails.wrote
          read fails.writes in
          told_call path (Rename side_at sequences_there) (inl (is.of.side, is.of.sequences))
          (λ tree. is_folder_at tree sequences_there ≡ false) (λ tree l. l is.of.sequences) told
          not.why not.is tt (λ tree. tt {0}) old fails.wrote c
          (rename_reasons side_at sequences_there
          (λ tree. is_folder_at tree sequences_there ≡ false) false
          (λ tree folder old none. true_false (sym (no_target_folder (node_at tree sequences_there)
          folder) ∙ none)) fails.wrote
          (in_folder (codes ".mh_sequences") sequences_there refl is.of.sequences) filed.side
          filed.around.below (filed.around.sequences no_target)) fails.fails.goes

  -- the message did not get its name for good
  not_named : (told : SyncError) (why : DiskError) → told ≡ refused_by why → (b c : Option Past)
      → Settled b → FailsNaming path places why b c → Tells told c
  not_named told why same b c so (inl not) =
      later_call path (Rename beside_at held_at) (inr (is.of.beside, (places.number, is.of.held)))
      told why same tt old b c
      (rename_reasons beside_at held_at AllNew true (λ tree folder old new. true_false old) b
      (in_folder (decimal places.number) held_at held_name is.of.held) so.message so.below
      so.target) not
  not_named told why same b c so (inr not) =
      later_call path (SyncDir path) refl told why same tt old not.renamed c
      (new_reason (refusal (SyncDir path)) AllNew old not.renamed
      (on_call true no_folder_there path (Ok tt) b not.renamed so.folder
      (beside_path, held_path) not.renames)) not.fails

  not_filled : (told : SyncError) (b c : Option Past) → Clear b
      → FailsFilling path places flags core told b c → Tells told c
  not_filled told b c clear (inl not) =
      not_written beside_at core (codes ".mutt_append") refl is.of.beside beside_side told not.why
      not.is b c clear.around.below clear.beside not.fails
  not_filled told b c clear (inr (inl not)) =
      no_sequences_put told not.wrote c (now_written b not.wrote clear not.writes) not.fails
  not_filled told b c clear (inr (inr not)) =
      not_named told not.why not.is not.put c
      (now_put not.wrote not.put (now_written b not.wrote clear not.writes) not.puts) not.fails

  module _ (mid : Option Past) (ready : MakesReady path old mid)
      (chosen : AreChosen path old mid places) where
    -- the number was held, but the message was not put there
    pub only_held : (told : SyncError) (new : Option Past)
        → OnlyHeld path places flags core told mid new → Tells told new
    only_held told new only =
        not_filled told only.held new (cleared mid ready chosen only.held only.holds) only.fails

    -- it was not held, though nothing was in the way
    pub not_held : (told : SyncError) (new : Option Past) → NotHeld places told mid new
        → Tells told new
    not_held told new not =
        later_call path (Create held_at) (inr (places.number, is.of.held)) told not.why not.is
        tt old mid new
        (make_reasons held_at mid
        (in_folder (decimal places.number) held_at held_name is.of.held)
        (ready_around mid ready chosen).below
        (listed_so mid ready chosen no_room held_at side_held beside_held
        (number_met mid ready chosen))) not.fails
