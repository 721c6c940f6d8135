-- Calls of a disk that do what is wanted of the messages of a Maildir.
use Rattle.std.proofs.Common.{◌≡◌, ◌≢◌, ◌≤◌, ◌+◌, ◌++◌, ◌&&◌, ℕ, Bool, true, false, List}
use Rattle.std.proofs.Common.{[]}
use Rattle.std.proofs.Common.{◌∷◌, Option, Some, None, option_map, map, length, refl, sym, ◌∙◌, ap}
use Rattle.std.proofs.Common.{subst, arith, append_assoc, length-append, is_none, Result, Ok, take}
use Rattle.std.proofs.Common.{Err}
use Rattle.std.proofs.Common.{if◌then◌else◌}
use Rattle.std.proofs.lemmas.Bool.{and_parts}
use Rattle.std.proofs.lemmas.Slice.Eq.{bytes_eq-Decides}
use Rattle.std.proofs.Math.Seq.{take-append_seam}
use Rattle.std.specs.Prelude.{option_and_then}
use Rattle.mail_base.specs.Flags.{applied, stored}
use Rattle.mail_base.specs.declared.flags.Flags.{Flags}
use Rattle.mail_base.specs.declared.kind.Kind.TheVariants.{Maildir}
use Rattle.disk_model.specs.Journal.{Action, Answer, Call, Done, Entry, MakeDir, Others}
use Rattle.disk_model.specs.Journal.{Own, Past, Refused, Remove, Rename, SyncDir}
use Rattle.disk_model.specs.Judge.{IsLonger, OneStep, StepBy, answer_by, done_by}
use Rattle.disk_model.specs.Looking.{HasLooked, all_look, looks}
use Rattle.disk_model.specs.Refusals.{refusal}
use Rattle.disk_model.specs.State.{State, after_done, after_entry, name_in, run_entries, state_at}
use Rattle.disk_model.specs.State.{state_of, tree_at, tree_of, with_folder}
use Rattle.disk_model.specs.Tree.{TreeNode, is_folder_node, is_root, node_at}
use Rattle.disk_model.specs.declared.answers.DiskError.{DiskError}
use Rattle.disk_model.specs.declared.answers.DiskError.TheVariants.{Missing, WrongNode, Exists}
use Rattle.disk_model.specs.declared.answers.DiskError.TheVariants.{Long, Fault, NoMemory}
use Rattle.disk_model.proofs.Looking.{looked_same}
use Rattle.disk_model.proofs.Marks.{length_longer, look_keeps, refusal_keeps}
use Rattle.disk_model.proofs.Trees.{node_at-tree_of, node_by}
use Rattle.index_items.specs.Changes.{PlainChange, Alters, Discards}
use Rattle.folder_core.specs.Directory.{file_at, is_folder_at, node_file}
use Rattle.folder_core.specs.Maildir.{MaildirFile, base_of, directory, is_maildir, is_shown}
use Rattle.folder_core.specs.Maildir.{maildir_reads, message_at, path_of}
use Rattle.folder_changes.specs.Maildir.{DoesWanted, IsSingleNamed, OthersKeepSingle, WorksSingly}
use Rattle.folder_changes.specs.Maildir.{flags_named, maildir_at}
use Rattle.folder_changes.specs.Wanted.{change_at, wanted}
use Rattle.folder_changes.specs.Worked.{either, nothing_wanted}
use Rattle.folder_changes.proofs.MaildirLemmas.{alike_reads, alike_single, renamed_reads}
use Rattle.folder_changes.proofs.MaildirLemmas.{renamed_single, taken_reads, taken_single}
use Rattle.folder_changes.proofs.PathLemmas.{directories_differ, directory_no_folder}
use Rattle.folder_changes.proofs.PathLemmas.{path_no_directory}
use Rattle.folder_changes.proofs.StateLemmas.{at_root, at_same, differ, message_stays}
use Rattle.folder_changes.proofs.StateLemmas.{removal_takes, rename_renames}
use Rattle.folder_changes.proofs.WorkLemmas.{Each, LeavesMessages, one_work, stay, works_same}
use Rattle.folder_changes.proofs.WorkLemmas.{works_then}

true_false : ◌≡◌ {A = Bool} true false → ⊥
true_false e = cc

-- Pasts that go on.

longer_then : (a b c : Past) → IsLonger a b → IsLonger b c → IsLonger a c
longer_then a b c first next = record {
  same_first = next.same_first ∙ first.same_first;
  more = first.more ++ next.more;
  journal = next.journal ∙ ap (λ (l : List Entry). l ++ next.more) first.journal
      ∙ append_assoc a.journal first.more next.more;
}

-- others keep the names of a part of what they keep
others_part : (path : List ℕ) (m n k l : ℕ) (past : Past) → m ≤ k → l ≤ n
    → OthersKeepSingle path m n past → OthersKeepSingle path k l past
others_part path m n k l past low high others =
    λ mark from to is. others mark (omega (arith, low, from)) (omega (arith, high, to)) is

-- what a call does and what the next one does
pub does_then : (path : List ℕ) (a b : List ℕ → Option PlainChange) (old mid new : Past)
    → ((key : List ℕ) → a key ≢ None → b key ≡ None)
    → DoesWanted path a old mid → DoesWanted path b mid new → DoesWanted path (either a b) old new
does_then path a b old mid new apart first next = record {
  longer = longer_then old mid new first.longer next.longer;
  does = λ past on single others. by past on single others
      (first.does past (longer_then mid new past next.longer on) single
      (others_part path (length old.journal) (length new.journal) (length old.journal)
      (length mid.journal) past (omega arith) (length_longer mid new next.longer) others));
}
  where
    by : (past : Past) → IsLonger new past → IsSingleNamed path (tree_at past (length old.journal))
        → OthersKeepSingle path (length old.journal) (length new.journal) past
        → WorksSingly path a (length old.journal) (length mid.journal) past
        → WorksSingly path (either a b) (length old.journal) (length new.journal) past
    by past on single others done =
        works_then path past a b (length old.journal) (length mid.journal) (length new.journal)
        (length_longer old mid first.longer) (length_longer mid new next.longer) apart done
        (next.does past on
        (done.single (length mid.journal) (length_longer old mid first.longer) (omega arith))
        (others_part path (length old.journal) (length new.journal) (length mid.journal)
        (length new.journal) past (length_longer old mid first.longer) (omega arith) others))

-- Calls that leave the messages.

-- a journal that goes on by a segment in which our own entries leave the messages
segment_does : (path : List ℕ) (old new : Past) (longer : IsLonger old new)
    → Each (LeavesMessages path) longer.more → DoesWanted path nothing_wanted old new
segment_does path old new longer leaves = record {
  longer = longer;
  does = λ past on single others.
      let ends : length new.journal ≡ length old.journal + length longer.more =
      ap length longer.journal ∙ length-append old.journal longer.more in
      subst (λ (n : ℕ). WorksSingly path nothing_wanted (length old.journal) n past) (sym ends)
      (stay path past old.journal longer.more on.more
      (on.journal ∙ ap (λ (l : List Entry). l ++ on.more) longer.journal
      ∙ append_assoc old.journal longer.more on.more)
      leaves single
      (subst (λ (n : ℕ). OthersKeepSingle path (length old.journal) n past) ends others));
}

looks_leave : (path : List ℕ) (entry : Entry) → looks entry ≡ true → LeavesMessages path entry
looks_leave path (Own call Done) look state own single =
    let same = look_keeps call state look in (
      subst (λ (s : State). IsSingleNamed path (tree_of s)) (sym same) single,
      ap (λ (s : State). maildir_reads (tree_of s) path) same,
    )
looks_leave path (Own call (Refused why wrote)) look state own single =
    let same = refusal_keeps call wrote state look in (
      subst (λ (s : State). IsSingleNamed path (tree_of s)) (sym same) single,
      ap (λ (s : State). maildir_reads (tree_of s) path) same,
    )
looks_leave path (Others action) look state own single = absurd (true_false (sym own))

others_leave : (path : List ℕ) (action : Action) → LeavesMessages path (Others action)
others_leave path action state own single = absurd (true_false (sym own))

all_leave : (path : List ℕ) (entries : List Entry) → all_look entries ≡ true
    → Each (LeavesMessages path) entries
all_leave path [] look = tt
all_leave path (entry ∷ entries) look =
    let parts = and_parts (looks entry) (all_look entries) look in
    (looks_leave path entry parts.0, all_leave path entries parts.1)

-- looks leave the messages
pub looked_does : (path : List ℕ) (old new : Past) → HasLooked old new
    → DoesWanted path nothing_wanted old new
looked_does path old new looked =
    segment_does path old new (record {
      same_first = looked.same_first;
      more = looked.more;
      journal = looked.journal;
    }) (all_leave path looked.more looked.look)

step_leaves : (path : List ℕ) (actions : List Action) (entry : Entry) → LeavesMessages path entry
    → Each (LeavesMessages path) (map Others actions ++ entry ∷ [])
step_leaves path [] entry leaves = (leaves, tt)
step_leaves path (action ∷ actions) entry leaves =
    (others_leave path action, step_leaves path actions entry leaves)

-- a call that leaves the messages, whatever it is answered
pub call_does : {A : Type 0} (path : List ℕ) (result : Result A DiskError) (call : Call)
    (asked : List TreeNode → Result A DiskError) (old new : Past)
    → ((answer : Answer) → LeavesMessages path (Own call answer))
    → OneStep result call asked old new → DoesWanted path nothing_wanted old new
call_does path result call asked old new leaves step =
    segment_does path old new (record {
      same_first = step.same_first;
      more = map Others step.actions ++ Own call step.answer ∷ [];
      journal = step.journal;
    }) (step_leaves path step.actions (Own call step.answer) (leaves step.answer))

-- names that are put on the disk stay
pub sync_dir_leaves : (path dir : List ℕ) (answer : Answer)
    → LeavesMessages path (Own (SyncDir dir) answer)
sync_dir_leaves path dir Done state own single = (single, refl)
sync_dir_leaves path dir (Refused why wrote) state own single = (single, refl)

-- The directory `new` is made.

pub made_stays : (state : State) (dir q : List ℕ) → (dir ≡ q → ⊥)
    → node_at (tree_of (with_folder dir state)) q ≡ node_at (tree_of state) q
made_stays state dir q other =
    at_same state (record { path = dir; file = None } ∷ state.names) q
    (at_root (record { path = dir; file = None } ∷ state.names) state.names q
    (ap (λ (b : Bool). if b then Some None else name_in state.names q) (differ dir q other)))

made_folder : (state : State) (dir : List ℕ)
    → file_at (tree_of (with_folder dir state)) dir ≡ None
made_folder state dir =
    ap (option_and_then node_file)
    (node_at-tree_of (with_folder dir state) dir
    ∙ ap (node_by state.files dir) (by (is_root dir)))
  where
    by : (root : Bool) → (if root then Some None
        else name_in (record { path = dir; file = None } ∷ state.names) dir) ≡ Some None
    by true = refl
    by false = ap (λ (b : Bool). if b then Some None else name_in state.names dir)
        ((bytes_eq-Decides dir dir).1 refl)

pub make_new_leaves : (path : List ℕ) (answer : Answer)
    → LeavesMessages path (Own (MakeDir (directory false path)) answer)
make_new_leaves path (Refused why wrote) state own single = (single, refl)
make_new_leaves path Done state own single =
    let new = tree_of (with_folder (directory false path) state) in
    let stays = made_stays state (directory false path) in
    let folder : is_maildir new path ≡ true =
    (λ i. is_folder_node (stays path (directory_no_folder false path) i)
    && is_folder_node (stays (directory true path) (directories_differ path) i)
    && is_none (made_folder state (directory false path) i))
    ∙ no_file (is_folder_at (tree_of state) path) (is_folder_at (tree_of state)
    (directory true path)) (is_none (file_at (tree_of state) (directory false path)))
    single.folder in
    let alike : (file : MaildirFile) → is_shown file.name ≡ true
    → message_at new path file ≡ message_at (tree_of state) path file =
    λ file shown. message_stays path (tree_of state) new file
    (stays (path_of path file) (λ same. path_no_directory path file false shown (sym same))) in (
      alike_single path (tree_of state) new single folder alike,
      alike_reads path (tree_of state) new single folder alike,
    )
  where
    no_file : (a b c : Bool) → (a && b && c) ≡ true → (a && b && true) ≡ true
    no_file true true c is = refl
    no_file true false c is = is
    no_file false b c is = is

-- One call of our own on a file.

-- a call answered Ok that does what is wanted at the state that it meets
done_does : (path : List ℕ) (what : List ℕ → Option PlainChange) (call : Call) (old new : Past)
    → ((state : State) → IsSingleNamed path (tree_of state) → refusal call (tree_of state) ≡ None
    → IsSingleNamed path (tree_of (after_done call state))
    × (maildir_reads (tree_of (after_done call state)) path
    ≡ option_map (wanted Maildir what) (maildir_reads (tree_of state) path)))
    → OneStep (Ok tt) call (done_by call) old new
    → DoesWanted path what old new
done_does path what call old new does step = record {
  longer = record {
    same_first = step.same_first;
    more = map Others step.actions ++ Own call step.answer ∷ [];
    journal = step.journal;
  };
  does = λ past on single others. by past on single others;
}
  where
    before : List Entry
    before = old.journal ++ map Others step.actions

    by : (past : Past) → IsLonger new past
        → IsSingleNamed path (tree_at past (length old.journal))
        → OthersKeepSingle path (length old.journal) (length new.journal) past
        → WorksSingly path what (length old.journal) (length new.journal) past
    by past on single others =
        subst (λ (n : ℕ). WorksSingly path what (length old.journal) n past) (sym ends)
        (works_same path past (either nothing_wanted what) what (λ key. refl)
        (works_then path past nothing_wanted what (length old.journal)
        (length old.journal + length (map Others step.actions))
        (length old.journal + length (map Others step.actions) + 1)
        (omega arith) (omega arith) (λ key some. absurd (some refl)) waited own_work))
      where
        ends : length new.journal
            ≡ length old.journal + length (map Others step.actions) + 1
        ends = omega (
          arith,
          ap length step.journal,
          length-append old.journal (map Others step.actions ++ Own call step.answer ∷ []),
          length-append (map Others step.actions) (Own call step.answer ∷ []),
        )

        waited : WorksSingly path nothing_wanted (length old.journal)
            (length old.journal + length (map Others step.actions)) past
        waited = stay path past old.journal (map Others step.actions)
            (Own call step.answer ∷ on.more)
            (on.journal ∙ ap (λ (l : List Entry). l ++ on.more) step.journal
            ∙ append_assoc old.journal (map Others step.actions ++ Own call step.answer ∷ [])
            on.more
            ∙ ap (λ (l : List Entry). old.journal ++ l)
            (append_assoc (map Others step.actions) (Own call step.answer ∷ []) on.more))
            (others_all step.actions) single
            (others_part path (length old.journal) (length new.journal) (length old.journal)
            (length old.journal + length (map Others step.actions)) past (omega arith)
            (omega (arith, ends)) others)
          where
            others_all : (actions : List Action)
                → Each (LeavesMessages path) (map Others actions)
            others_all [] = tt
            others_all (action ∷ actions) = (others_leave path action, others_all actions)

        own_work : WorksSingly path what
            (length old.journal + length (map Others step.actions))
            (length old.journal + length (map Others step.actions) + 1) past
        own_work = subst (λ (m : ℕ). WorksSingly path what m (m + 1) past)
            (length-append old.journal (map Others step.actions))
            (one_work path what past before on.more (Own call step.answer) journal met
            (moved.0) (moved.1))
          where
            journal : past.journal ≡ before ++ Own call step.answer ∷ on.more
            journal = on.journal ∙ ap (λ (l : List Entry). l ++ on.more) step.journal
                ∙ ap (λ (l : List Entry). l ++ on.more)
                (sym (append_assoc old.journal (map Others step.actions)
                (Own call step.answer ∷ [])))
                ∙ append_assoc before (Own call step.answer ∷ []) on.more

            met : IsSingleNamed path (tree_at past (length before))
            met = subst (λ (m : ℕ). IsSingleNamed path (tree_at past m))
                (sym (length-append old.journal (map Others step.actions)))
                (waited.single (length old.journal + length (map Others step.actions))
                (omega arith) (omega arith))

            state_is : state_at past (length before)
                ≡ run_entries before (state_of old.first)
            state_is =
                ap (λ (tree : List TreeNode). run_entries (take (length before) past.journal)
                (state_of tree)) (on.same_first ∙ step.same_first)
                ∙ ap (λ (l : List Entry). run_entries l (state_of old.first))
                (ap (take (length before)) journal
                ∙ take-append_seam before (Own call step.answer ∷ on.more))

            judged : refusal call (tree_at past (length before)) ≡ None
            judged = ap (λ (state : State). refusal call (tree_of state)) state_is
                ∙ not_refused (refusal call (tree_of (run_entries before (state_of old.first))))
                step.judged
              where
                not_refused : (why : Option DiskError)
                    → ◌≡◌ {A = Result (Unit {0}) DiskError} (Ok tt) (answer_by why tt)
                    → why ≡ None
                not_refused None is = refl
                not_refused (Some why) is = absurd (cc)

            done : after_entry (state_at past (length before)) (Own call step.answer)
                ≡ after_done call (state_at past (length before))
            done = ap (λ (a : Answer). after_entry (state_at past (length before)) (Own call a))
                step.answered

            after : IsSingleNamed path
                (tree_of (after_done call (state_at past (length before))))
                × (maildir_reads (tree_of (after_done call (state_at past (length before)))) path
                ≡ option_map (wanted Maildir what)
                (maildir_reads (tree_at past (length before)) path))
            after = does (state_at past (length before)) met judged

            moved : IsSingleNamed path (tree_of (after_entry (state_at past (length before))
                (Own call step.answer)))
                × (maildir_reads (tree_of (after_entry (state_at past (length before))
                (Own call step.answer))) path
                ≡ option_map (wanted Maildir what) (maildir_at path past (length before)))
            moved = (
              subst (λ (s : State). IsSingleNamed path (tree_of s)) (sym done) after.0,
              ap (λ (s : State). maildir_reads (tree_of s) path) done ∙ after.1,
            )

-- a file gets another name
pub renamed_does : (path : List ℕ) (from to : MaildirFile) (added cleared : Flags)
    (old new : Past) → is_shown from.name ≡ true → is_shown to.name ≡ true
    → base_of to ≡ base_of from
    → flags_named to ≡ stored Maildir (applied (flags_named from) added cleared)
    → OneStep (Ok tt) (Rename (path_of path from) (path_of path to))
    (done_by (Rename (path_of path from) (path_of path to))) old new
    → DoesWanted path (change_at (base_of from) (Alters added cleared)) old new
renamed_does path from to added cleared old new shown_from shown_to same flags step =
    done_does path (change_at (base_of from) (Alters added cleared))
    (Rename (path_of path from) (path_of path to)) old new
    (λ state single done.
    let renames = rename_renames path from to added cleared state single shown_from shown_to same
    flags done in
    let next = tree_of (after_done (Rename (path_of path from) (path_of path to)) state) in (
      renamed_single path (base_of from) (tree_of state) next single (Alters added cleared)
          renames,
      renamed_reads path (base_of from) (tree_of state) next single (Alters added cleared)
          renames,
    )) step

-- a file goes
pub removed_does : (path : List ℕ) (file : MaildirFile) (old new : Past)
    → is_shown file.name ≡ true
    → OneStep (Ok tt) (Remove (path_of path file)) (done_by (Remove (path_of path file))) old new
    → DoesWanted path (change_at (base_of file) Discards) old new
removed_does path file old new shown step =
    done_does path (change_at (base_of file) Discards) (Remove (path_of path file)) old new
    (λ state single done.
    let takes = removal_takes path file state single shown done in
    let next = tree_of (after_done (Remove (path_of path file)) state) in (
      taken_single path (base_of file) (tree_of state) next single takes,
      taken_reads path (base_of file) (tree_of state) next single takes,
    )) step

-- a refused call that leaves the messages, whatever it wrote
pub refused_does : {A : Type 0} (path : List ℕ) (why : DiskError) (call : Call)
    (asked : List TreeNode → Result A DiskError) (old new : Past)
    → ((w : DiskError) (wrote : ℕ) → LeavesMessages path (Own call (Refused w wrote)))
    → StepBy (Err why) call asked old new → DoesWanted path nothing_wanted old new
refused_does {A} path why call asked old new leaves step = by why step
  where
    by_answer : (w v : DiskError) (wrote : ℕ) (step : OneStep {A = A} (Err w) call asked old new)
        → step.answer ≡ Refused v wrote → DoesWanted path nothing_wanted old new
    by_answer w v wrote step is = segment_does path old new (record {
      same_first = step.same_first;
      more = map Others step.actions ++ Own call step.answer ∷ [];
      journal = step.journal;
    }) (step_leaves path step.actions (Own call step.answer)
        (subst (λ (a : Answer). LeavesMessages path (Own call a)) (sym is) (leaves v wrote)))

    by : (w : DiskError) → StepBy {A = A} (Err w) call asked old new
        → DoesWanted path nothing_wanted old new
    by NoMemory same = subst (λ (p : Past). DoesWanted path nothing_wanted old p) (sym same)
        (looked_does path old old (looked_same old))
    by Fault step = by_answer Fault Fault step.answered.0 step step.answered.1
    by Missing step = by_answer Missing Missing 0 step step.answered
    by WrongNode step = by_answer WrongNode WrongNode 0 step step.answered
    by Exists step = by_answer Exists Exists 0 step step.answered
    by (Long size) step = by_answer (Long size) (Long size) 0 step step.answered
