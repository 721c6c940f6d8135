-- What the calls of a sync do not bring about.
use Rattle.std.proofs.Common.{◌≡◌, ◌&&◌, ◌∷◌, ◌∙◌, ℕ, Bool, true, false, not, List, []}
use Rattle.std.proofs.Common.{Option, Some}
use Rattle.std.proofs.Common.{None, ap, codes, if◌then◌else◌, is_none, is_some, refl, sym}
use Rattle.std.proofs.lemmas.Bool.{and_parts}
use Rattle.std.proofs.lemmas.Slice.Eq.{bytes_eq-Decides}
use Rattle.std.specs.List.{list_any}
use Rattle.std.specs.Prelude.{option_and_then}
use Rattle.std.specs.Str.{bytes_eq}
use Rattle.disk_model.specs.Journal.{Answer, Call, Done, MakeDir, Own, Refused, SyncDir}
use Rattle.disk_model.specs.Names.{more_names, name_of, names_in, put_name}
use Rattle.disk_model.specs.Refusals.{below_refusal, file_refusal, first_refusal, folder_refusal}
use Rattle.disk_model.specs.Refusals.{missing_refusal, target_refusal}
use Rattle.disk_model.specs.State.{State, after_entry, name_at, name_in, tree_of}
use Rattle.disk_model.specs.State.{moved, with_folder, without}
use Rattle.disk_model.specs.Tree.{TreeNode, folder_of, is_folder_node, is_root, node_at}
use Rattle.disk_model.specs.declared.answers.DiskError.{DiskError}
use Rattle.disk_model.specs.declared.answers.DiskError.TheVariants.{Missing, WrongNode}
use Rattle.disk_model.proofs.Trees.{node_at-tree_of, node_by}
use Rattle.index_items.specs.Changes.{Alters, Discards, PlainChange}
use Rattle.folder_core.specs.Directory.{file_at, is_folder_at, node_file}
use Rattle.folder_core.specs.Maildir.{MaildirFile, base_of, directory, files_in}
use Rattle.folder_core.specs.Maildir.{is_maildir, is_shown}
use Rattle.folder_core.specs.Maildir.{path_of}
use Rattle.folder_core.proofs.NamesIn.{path_is_in}
use Rattle.folder_changes.specs.Refused.{OnChanged, refuses}
use Rattle.folder_changes.specs.declared.sync_error.SyncError.{SyncError}
use Rattle.folder_changes.specs.declared.sync_error.SyncError.TheVariants.{Changed as IsChanged}
use Rattle.folder_changes.specs.declared.sync_error.SyncError.TheVariants.{Fault, Locked, NoMemory}
use Rattle.folder_changes.specs.declared.sync_error.SyncError.TheVariants.{NotFolder, TooLarge}
use Rattle.folder_changes.specs.declared.sync_error.SyncError.TheVariants.{TooMany, Unfinished}
use Rattle.folder_changes.proofs.CallLemmas.{made_stays}
use Rattle.folder_changes.proofs.PathLemmas.{directories_differ, directory_no_folder}
use Rattle.folder_changes.proofs.PathLemmas.{path_no_directory, path_once}
use Rattle.folder_changes.proofs.StateLemmas.{at_root, at_same, differ, still_named}
use Rattle.folder_changes.proofs.TraceLemmas.{IsUnmade}
use Rattle.folder_drivers.specs.MaildirSync.{has_no_file, is_no_maildir}
use Rattle.maildir_folder.specs.Causes.{IsMakeNew, IsStepCall}
use Rattle.maildir_folder.specs.Steps.{IsStep, IsStepOf, PlainStep, call_by, call_of}

true_false : ◌≡◌ {A = Bool} true false → ⊥
true_false e = cc

some_none : {A : Type 0} (x : A) → ◌≡◌ {A = Option A} (Some x) None → ⊥
some_none x e = cc

not_false : (b : Bool) → not b ≡ false → b ≡ true
not_false true is = refl
not_false false is = absurd (true_false is)

not_true : (b : Bool) → b ≡ true → not b ≡ false
not_true b is = ap not is

-- What a refusal that something changed tells.
pub on_changed : {P Q : Type 0} (told : SyncError) → (P → Q) → OnChanged told P → OnChanged told Q
on_changed (IsChanged spot) by p = by p
on_changed Locked by p = tt
on_changed Unfinished by p = tt
on_changed (TooMany count) by p = tt
on_changed (TooLarge bytes) by p = tt
on_changed Fault by p = tt
on_changed NoMemory by p = tt
on_changed NotFolder by p = tt

-- Refusals by what stands at the paths.

-- a directory is refused where no folder stands
dir_refused : (node : Option TreeNode) → is_some (folder_refusal node) ≡ not (is_folder_node node)
dir_refused None = refl
dir_refused (Some node) = by node.bytes
  where
    by : (bytes : Option (List ℕ)) → is_some (if is_none bytes then None
        else Some WrongNode) ≡ not (is_none bytes)
    by None = refl
    by (Some raw) = refl

below_none : (node : Option TreeNode) → is_folder_node node ≡ true → below_refusal node ≡ None
below_none None is = absurd (true_false (sym is))
below_none (Some node) is =
    ap (λ (b : Bool). if b then None else Some Missing) is

below_folder : (node : Option TreeNode) (rest : Option DiskError)
    → is_some (first_refusal (below_refusal node) rest) ≡ false
    → (is_folder_node node ≡ true) × (is_some rest ≡ false)
below_folder None rest is = absurd (true_false is)
below_folder (Some node) rest is = by (is_none node.bytes) refl is
  where
    by : (b : Bool) → is_none node.bytes ≡ b
        → is_some (first_refusal (if b then None else Some Missing) rest) ≡ false
        → (is_none node.bytes ≡ true) × (is_some rest ≡ false)
    by true at is = (at, is)
    by false at is = absurd (true_false is)

-- a file is moved as before, where its new directory is still a folder
move_kept : (from below new_below to : Option TreeNode)
    → (is_folder_node below ≡ true → is_folder_node new_below ≡ true)
    → is_some (first_refusal (missing_refusal from) (first_refusal (below_refusal below)
    (first_refusal (file_refusal from) (target_refusal to)))) ≡ false
    → is_some (first_refusal (missing_refusal from) (first_refusal (below_refusal new_below)
    (first_refusal (file_refusal from) (target_refusal to)))) ≡ false
move_kept None below new_below to kept is = absurd (true_false is)
move_kept (Some node) below new_below to kept is =
    let parts = below_folder below
    (first_refusal (file_refusal (Some node)) (target_refusal to)) is in
    ap (λ (w : Option DiskError). is_some (first_refusal w
    (first_refusal (file_refusal (Some node)) (target_refusal to))))
    (below_none new_below (kept parts.0)) ∙ parts.1

-- the call of a step is refused for nothing new, where its paths are as they were
step_kept : (from : List ℕ) (to : Option (List ℕ)) (old new : List TreeNode)
    → node_at new from ≡ node_at old from
    → ((t : List ℕ) → to ≡ Some t → (node_at new t ≡ node_at old t)
    × (is_folder_at old (folder_of t) ≡ true → is_folder_at new (folder_of t) ≡ true))
    → refuses (call_by from to) old ≡ false → refuses (call_by from to) new ≡ false
step_kept from None old new at others is =
    ap (λ (node : Option TreeNode). is_some (file_refusal node)) at ∙ is
step_kept from (Some to) old new at others is =
    (λ i. is_some (first_refusal (missing_refusal (at i))
    (first_refusal (below_refusal (node_at new (folder_of to)))
    (first_refusal (file_refusal (at i)) (target_refusal ((others to refl).0 i))))))
    ∙ move_kept (node_at old from) (node_at old (folder_of to)) (node_at new (folder_of to))
    (node_at old to) (others to refl).1 is

-- The paths of a step.

-- a path is that of a file of a base
record IsPathOf (path base at : List ℕ) : Type 0 where
  file : MaildirFile
  shown : is_shown file.name ≡ true
  named : base_of file ≡ base
  is : at ≡ path_of path file

-- the paths of a step are those of files of a base
record StepPaths (path base from : List ℕ) (to : Option (List ℕ)) : Type 0 where
  first : IsPathOf path base from
  behind : (t : List ℕ) → to ≡ Some t → IsPathOf path base t

paths_by : (path base : List ℕ) (file : MaildirFile) (change : PlainChange) (from : List ℕ)
    (to : Option (List ℕ)) → base_of file ≡ base
    → IsStep path file change (record { from = from; to = to }) → StepPaths path base from to
paths_by path base file (Alters added cleared) from None named is = absurd is.to
paths_by path base file Discards from (Some to) named is = absurd is.to
paths_by path base file Discards from None named is = record {
  first = record { file = file; shown = is.shown; named = named; is = is.from };
  behind = λ t e. absurd (some_none t (sym e));
}
paths_by path base file (Alters added cleared) from (Some to) named is = record {
  first = record { file = file; shown = is.shown; named = named; is = is.from };
  behind = λ t e. let same : to ≡ t = cc in record {
    file = is.to.target;
    shown = is.to.shown;
    named = is.to.base ∙ named;
    is = sym same ∙ is.to.goes;
  };
}

step_paths : (path base : List ℕ) (change : PlainChange) (step : PlainStep)
    → IsStepOf path base change step → StepPaths path base step.from step.to
step_paths path base change step is =
    paths_by path base is.file change step.from step.to is.named is.does

-- such a path is none of a directory
path_not_dir : (path base at : List ℕ) (in_cur : Bool) → IsPathOf path base at
    → at ≡ directory in_cur path → ⊥
path_not_dir path base at in_cur of same =
    path_no_directory path of.file in_cur of.shown (sym of.is ∙ same)

-- nor one of another base
path_apart : (path a b at other : List ℕ) → (a ≡ b → ⊥) → IsPathOf path a at
    → IsPathOf path b other → at ≡ other → ⊥
path_apart path a b at other apart of next same =
    apart (sym of.named
    ∙ ap base_of (path_once path of.file next.file of.shown next.shown
    (sym of.is ∙ same ∙ next.is)) ∙ next.named)

-- it is in a directory
path_in_dir : (path base at : List ℕ) (of : IsPathOf path base at)
    → folder_of at ≡ directory of.file.in_cur path
path_in_dir path base at of =
    ap folder_of of.is
    ∙ (path_is_in (directory of.file.in_cur path) of.file.name (and_parts _ _ of.shown).0).folder

-- What the directory `new` changes that is made.

made_folder : (state : State) (dir : List ℕ)
    → is_folder_at (tree_of (with_folder dir state)) dir ≡ true
made_folder state dir =
    ap is_folder_node (node_at-tree_of (with_folder dir state) dir
    ∙ ap (node_by state.files dir) (by (is_root dir)))
  where
    by : (root : Bool) → (if root then Some None
        else name_in (record { path = dir; file = None } ∷ state.names) dir) ≡ Some None
    by true = refl
    by false = ap (λ (b : Bool). if b then Some None else name_in state.names dir)
        ((bytes_eq-Decides dir dir).1 refl)

folder_no_file : (node : Option TreeNode) → is_folder_node node ≡ true
    → is_none (option_and_then node_file node) ≡ true
folder_no_file None is = absurd (true_false (sym is))
folder_no_file (Some node) is = is

-- other paths stay
made_other : (dir q : List ℕ) (answer : Answer) (state : State) → (dir ≡ q → ⊥)
    → node_at (tree_of (after_entry state (Own (MakeDir dir) answer))) q
    ≡ node_at (tree_of state) q
made_other dir q Done state other = made_stays state dir q other
made_other dir q (Refused why wrote) state other = refl

-- folders stay
made_dir : (path : List ℕ) (in_cur : Bool) (answer : Answer) (state : State)
    → is_folder_at (tree_of state) (directory in_cur path) ≡ true
    → is_folder_at (tree_of (after_entry state (Own (MakeDir (directory false path)) answer)))
    (directory in_cur path) ≡ true
made_dir path in_cur (Refused why wrote) state is = is
made_dir path false Done state is = made_folder state (directory false path)
made_dir path true Done state is =
    ap is_folder_node (made_other (directory false path) (directory true path) Done state
    (directories_differ path)) ∙ is

all_three : (a b c : Bool) → a ≡ true → b ≡ true → c ≡ true → (a && b && c) ≡ true
all_three a b c first next last = (λ i. first i && next i && last i)

made_maildir : (path : List ℕ) (answer : Answer) (state : State)
    → is_maildir (tree_of state) path ≡ true
    → is_maildir (tree_of (after_entry state (Own (MakeDir (directory false path)) answer))) path
    ≡ true
made_maildir path (Refused why wrote) state is = is
made_maildir path Done state is =
    let parts = and_parts (is_folder_at (tree_of state) path
    && is_folder_at (tree_of state) (directory true path))
    (is_none (file_at (tree_of state) (directory false path))) is in
    let inner = and_parts (is_folder_at (tree_of state) path)
    (is_folder_at (tree_of state) (directory true path)) parts.0 in
    all_three _ _ _
    (ap is_folder_node (made_other (directory false path) path Done state
    (directory_no_folder false path)) ∙ inner.0)
    (made_dir path true Done state inner.1)
    (folder_no_file _ (made_folder state (directory false path)))

made_names : (path : List ℕ) (in_cur : Bool) (answer : Answer) (state : State)
    → names_in (tree_of (after_entry state (Own (MakeDir (directory false path)) answer)))
    (directory in_cur path) ≡ names_in (tree_of state) (directory in_cur path)
made_names path in_cur (Refused why wrote) state = refl
made_names path in_cur Done state =
    ap (λ (b : Bool). more_names (if b then put_name (name_of (directory false path)) [] else [])
    (directory in_cur path) (tree_of state))
    (differ (folder_of (directory false path)) (directory in_cur path)
    (λ same. directory_no_folder in_cur path
    (sym same ∙ (path_is_in path (codes "new") refl).folder)))

-- A call by another one that is the same.
by_call : (is_so : List TreeNode → Bool) (call other : Call) (answer : Answer) (state : State)
    → call ≡ other → is_so (tree_of (after_entry state (Own other answer))) ≡ false
    → is_so (tree_of (after_entry state (Own call answer))) ≡ false
by_call is_so call other answer state same not =
    ap (λ (c : Call). is_so (tree_of (after_entry state (Own c answer)))) same ∙ not

-- that `new` is made takes no Maildir away
pub made_no_maildir : (path : List ℕ) → IsUnmade (IsMakeNew path) (is_no_maildir path)
made_no_maildir path call answer state is not =
    by_call (is_no_maildir path) call (MakeDir (directory false path)) answer state is
    (not_true _ (made_maildir path answer state (not_false _ not)))

-- nor files
pub made_no_file : (path base : List ℕ) (in_cur : Bool)
    → IsUnmade (IsMakeNew path) (has_no_file path base in_cur)
made_no_file path base in_cur call answer state is none =
    by_call (has_no_file path base in_cur) call (MakeDir (directory false path)) answer state is
    (ap (λ (names : List (List ℕ)). not (list_any (λ file. bytes_eq (base_of file) base)
    (files_in in_cur names))) (made_names path in_cur answer state) ∙ none)

dir_unmade : (at : List ℕ) (old new : List TreeNode)
    → (is_folder_at old at ≡ true → is_folder_at new at ≡ true)
    → refuses (SyncDir at) old ≡ false → refuses (SyncDir at) new ≡ false
dir_unmade at old new kept is =
    dir_refused (node_at new at)
    ∙ not_true (is_folder_at new at) (kept (not_false (is_folder_at old at)
    (sym (dir_refused (node_at old at)) ∙ is)))

-- nor directories
pub made_no_dir : (path : List ℕ) (in_cur : Bool)
    → IsUnmade (IsMakeNew path) (refuses (SyncDir (directory in_cur path)))
made_no_dir path in_cur call answer state is not =
    by_call (refuses (SyncDir (directory in_cur path))) call (MakeDir (directory false path)) answer
    state is (dir_unmade (directory in_cur path) (tree_of state) _
    (made_dir path in_cur answer state) not)

-- nor is a step refused for it
pub made_no_refusal : (path base : List ℕ) (change : PlainChange) (step : PlainStep)
    → IsStepOf path base change step → IsUnmade (IsMakeNew path) (refuses (call_of step))
made_no_refusal path base change step is call answer state made not =
    let paths = step_paths path base change step is in
    by_call (refuses (call_of step)) call (MakeDir (directory false path)) answer state made
    (step_kept step.from step.to (tree_of state) _
    (made_other (directory false path) step.from answer state
    (λ same. path_not_dir path base step.from false paths.first (sym same)))
    (λ t e. let of = paths.behind t e in (
      made_other (directory false path) t answer state
          (λ same. path_not_dir path base t false of (sym same)),
      λ folder. ap (is_folder_at _) (path_in_dir path base t of)
          ∙ made_dir path of.file.in_cur answer state
          (ap (is_folder_at (tree_of state)) (sym (path_in_dir path base t of)) ∙ folder),
    )) not)

-- What a step changes.

moved_other : (state : State) (at : Option (Option ℕ)) (from to q : List ℕ) → (from ≡ q → ⊥)
    → (to ≡ q → ⊥)
    → node_at (tree_of (moved at from to state)) q ≡ node_at (tree_of state) q
moved_other state None from to q not_from not_to = refl
moved_other state (Some None) from to q not_from not_to = refl
moved_other state (Some (Some n)) from to q not_from not_to =
    at_same state (record { path = to; file = Some n } ∷ without to (without from state.names)) q
    (at_root (record { path = to; file = Some n } ∷ without to (without from state.names))
    state.names q
    (ap (λ (b : Bool). if b then Some (Some n)
    else name_in (without to (without from state.names)) q) (differ to q not_to)
    ∙ still_named to q (without from state.names) not_to
    ∙ still_named from q state.names not_from))

-- other paths stay
step_other : (from : List ℕ) (to : Option (List ℕ)) (answer : Answer) (state : State)
    (q : List ℕ) → (from ≡ q → ⊥) → ((t : List ℕ) → to ≡ Some t → t ≡ q → ⊥)
    → node_at (tree_of (after_entry state (Own (call_by from to) answer))) q
    ≡ node_at (tree_of state) q
step_other from None (Refused why wrote) state q not_from not_to = refl
step_other from (Some to) (Refused why wrote) state q not_from not_to = refl
step_other from None Done state q not_from not_to =
    at_same state (without from state.names) q
    (at_root (without from state.names) state.names q
    (still_named from q state.names not_from))
step_other from (Some to) Done state q not_from not_to =
    moved_other state (name_at state.names from) from to q not_from (not_to to refl)

step_dir : (path base : List ℕ) (step : PlainStep) (in_cur : Bool) (answer : Answer)
    (state : State) → StepPaths path base step.from step.to
    → node_at (tree_of (after_entry state (Own (call_of step) answer))) (directory in_cur path)
    ≡ node_at (tree_of state) (directory in_cur path)
step_dir path base step in_cur answer state paths =
    step_other step.from step.to answer state (directory in_cur path)
    (path_not_dir path base step.from in_cur paths.first)
    (λ t e. path_not_dir path base t in_cur (paths.behind t e))

-- a step takes no directory away
pub step_no_dir : (path : List ℕ) (in_cur : Bool)
    → IsUnmade (IsStepCall path) (refuses (SyncDir (directory in_cur path)))
step_no_dir path in_cur call answer state is not =
    by_call (refuses (SyncDir (directory in_cur path))) call (call_of is.step) answer state is.by
    (dir_unmade (directory in_cur path) (tree_of state) _
    (λ folder. ap is_folder_node (step_dir path is.base is.step in_cur answer state
    (step_paths path is.base is.change is.step is.is)) ∙ folder) not)

-- the call of a step of a message of which nothing more is wanted
pub record IsStepApart (path : List ℕ) (what : List ℕ → Option PlainChange) (call : Call) : Type 0
  where
    pub step : IsStepCall path call
    pub none : what step.base ≡ None

-- a step is not refused for steps of other messages
pub step_no_refusal : (path base : List ℕ) (change : PlainChange) (step : PlainStep)
    (what : List ℕ → Option PlainChange) → IsStepOf path base change step
    → (what base ≡ None → ⊥) → IsUnmade (IsStepApart path what) (refuses (call_of step))
step_no_refusal path base change step what is some call answer state other not =
    let paths = step_paths path base change step is in
    let done = other.step in
    let others = step_paths path done.base done.change done.step done.is in
    let apart : done.base ≡ base → ⊥ = λ same. some (ap what (sym same) ∙ other.none) in
    by_call (refuses (call_of step)) call (call_of done.step) answer state done.by
    (step_kept step.from step.to (tree_of state) _
    (step_other done.step.from done.step.to answer state step.from
    (path_apart path done.base base done.step.from step.from apart others.first paths.first)
    (λ t e. path_apart path done.base base t step.from apart (others.behind t e) paths.first))
    (λ t e. let of = paths.behind t e in (
      step_other done.step.from done.step.to answer state t
          (path_apart path done.base base done.step.from t apart others.first of)
          (λ u f. path_apart path done.base base u t apart (others.behind u f) of),
      λ folder. ap (is_folder_at _) (path_in_dir path base t of)
          ∙ ap is_folder_node (step_dir path done.base done.step of.file.in_cur answer state others)
          ∙ ap (is_folder_at (tree_of state)) (sym (path_in_dir path base t of)) ∙ folder,
    )) not)

-- Names that are put on the disk change nothing.
pub synced_nothing : (dir : List ℕ) (is_so : List TreeNode → Bool)
    → IsUnmade (λ call. call ≡ SyncDir dir) is_so
synced_nothing dir is_so call answer state is not =
    by_call is_so call (SyncDir dir) answer state is (by answer)
  where
    by : (answer : Answer)
        → is_so (tree_of (after_entry state (Own (SyncDir dir) answer))) ≡ false
    by Done = not
    by (Refused why wrote) = not
