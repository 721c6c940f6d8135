-- While we only look, folders stay: others neither make folders nor take them away.
use Rattle.std.proofs.Common.{◌≡◌, ◌≤◌, ◌+◌, ◌-◌, ◌&&◌, ℕ, zero, suc, Bool, true, false, List, []}
use Rattle.std.proofs.Common.{◌∷◌, ◌++◌, Option, Some, None, take, length, not, if◌then◌else◌, refl}
use Rattle.std.proofs.Common.{sym, ◌∙◌, ap, arith}
use Rattle.std.specs.Str.{bytes_eq, is_utf8}
use Rattle.std.proofs.Math.Seq.{take-append-add}
use Rattle.std.proofs.lemmas.Bool.{and_parts}
use Rattle.disk_model.specs.Tree.{TreeNode, folder_of, is_folder_node, is_root, node_at}
use Rattle.disk_model.specs.Journal.{Action, Appends, Puts, Renames, Removes, Writes, Done, Refused}
use Rattle.disk_model.specs.Journal.{Past, Entry, Own, Others}
use Rattle.disk_model.specs.State.{File, Name, State, after_action, after_entry, appended, can_make}
use Rattle.disk_model.specs.State.{can_take, changed, is_file, is_folder, is_free, moved, name_at}
use Rattle.disk_model.specs.State.{name_in, replaced, run_entries, state_at, state_of, tree_at}
use Rattle.disk_model.specs.State.{tree_of, with_made, with_names, without}
use Rattle.disk_model.specs.Looking.{HasLooked, all_look, looks}
use Rattle.disk_model.proofs.LawsOfTrees.{folder_kept, still_no_folder}
use Rattle.disk_model.proofs.Marks.{look_keeps, refusal_keeps}
use Rattle.disk_model.proofs.Runs.{run_entries-append}
use Rattle.disk_model.proofs.Trees.{bytes_same, node_at-tree_of, node_by}

-- The names.

folder_without : (p q : List ℕ) (names : List Name) → is_folder (name_at names p) ≡ false
    → is_folder (name_at (without p names) q) ≡ is_folder (name_at names q)
folder_without p q names file = by_folder (is_folder (name_at names q)) refl
  where
    by_folder : (b : Bool) → is_folder (name_at names q) ≡ b
        → is_folder (name_at (without p names) q) ≡ is_folder (name_at names q)
    by_folder true is = folder_kept p q names file is ∙ sym is
    by_folder false is = still_no_folder p q names is ∙ sym is

folder_if : (path q : List ℕ) (number : ℕ) (names : List Name) (root same : Bool) → is_root q ≡ root
    → bytes_eq path q ≡ same → is_folder (name_at names path) ≡ false
    → is_folder (if root then Some None else (if same then Some (Some number) else name_in names q))
    ≡ is_folder (if root then Some None else name_in names q)
folder_if path q number names true same at is file = refl
folder_if path q number names false false at is file = refl
folder_if path q number names false true at is file =
    sym (ap (λ (b : Bool). is_folder (if b then Some None else name_in names q)) (sym at)
    ∙ ap (λ (l : List ℕ). is_folder (name_at names l)) (sym (bytes_same path q is)) ∙ file)

-- one file more, where no folder stands
folder_more : (path q : List ℕ) (number : ℕ) (names : List Name)
    → is_folder (name_at names path) ≡ false
    → is_folder (name_at (record { path = path; file = Some number } ∷ names) q)
    ≡ is_folder (name_at names q)
folder_more path q number names file =
    folder_if path q number names (is_root q) (bytes_eq path q) refl refl file

free_no_folder : (at : Option (Option ℕ)) → is_free at ≡ true → is_folder at ≡ false
free_no_folder None free = refl
free_no_folder (Some file) free = absurd (cc)

file_no_folder : (at : Option (Option ℕ)) → is_file at ≡ true → is_folder at ≡ false
file_no_folder None file = absurd (cc)
file_no_folder (Some None) file = absurd (cc)
file_no_folder (Some (Some number)) file = refl

not_true : (b : Bool) → not b ≡ true → b ≡ false
not_true true is = absurd (cc)
not_true false is = refl

-- The actions of others.

names_changed : (at : Option (Option ℕ)) (change : ℕ → File → File) (state : State)
    → (changed at change state).names ≡ state.names
names_changed None change state = refl
names_changed (Some None) change state = refl
names_changed (Some (Some number)) change state = refl

folder_put : (path bytes q : List ℕ) (state : State) (fits : Bool)
    → can_make state.names path ≡ fits
    → is_folder (name_at (if fits then with_made path bytes state else state).names q)
    ≡ is_folder (name_at state.names q)
folder_put path bytes q state false is = refl
folder_put path bytes q state true is =
    let one = and_parts (is_utf8 path && is_folder (name_at state.names (folder_of path)))
    (is_free (name_at state.names path)) is in
    folder_more path q (length state.files) state.names
    (free_no_folder (name_at state.names path) one.1)

folder_moved : (from to q : List ℕ) (state : State) (at : Option (Option ℕ))
    → name_at state.names from ≡ at
    → is_folder (name_at state.names to) ≡ false
    → is_folder (name_at (moved at from to state).names q) ≡ is_folder (name_at state.names q)
folder_moved from to q state None is target = refl
folder_moved from to q state (Some None) is target = refl
folder_moved from to q state (Some (Some number)) is target =
    let here : is_folder (name_at state.names from) ≡ false = ap is_folder is in
    let one : List Name = without from state.names in
    let gone : is_folder (name_at one to) ≡ false =
    folder_without from to state.names here ∙ target in
    folder_more to q number (without to one) (folder_without to to one gone ∙ gone)
    ∙ folder_without to q one gone ∙ folder_without from q state.names here

folder_renamed : (from to q : List ℕ) (state : State) (fits : Bool) → can_take state.names to ≡ fits
    → is_folder
    (name_at (if fits then moved (name_at state.names from) from to state else state).names q)
    ≡ is_folder (name_at state.names q)
folder_renamed from to q state false is = refl
folder_renamed from to q state true is =
    let parts = and_parts (is_utf8 to && is_folder (name_at state.names (folder_of to)))
    (not (is_folder (name_at state.names to))) is in
    folder_moved from to q state (name_at state.names from) refl
    (not_true (is_folder (name_at state.names to)) parts.1)

folder_removed : (path q : List ℕ) (state : State) (fits : Bool)
    → is_file (name_at state.names path) ≡ fits
    → is_folder
    (name_at (if fits then with_names (without path state.names) state else state).names q)
    ≡ is_folder (name_at state.names q)
folder_removed path q state false is = refl
folder_removed path q state true is =
    folder_without path q state.names (file_no_folder (name_at state.names path) is)

folder_acted : (action : Action) (state : State) (q : List ℕ)
    → is_folder (name_at (after_action action state).names q) ≡ is_folder (name_at state.names q)
folder_acted (Appends path piece) state q =
    ap (λ (l : List Name). is_folder (name_at l q))
    (names_changed (name_at state.names path) (appended piece) state)
folder_acted (Puts path bytes) state q =
    folder_put path bytes q state (can_make state.names path) refl
folder_acted (Renames from to) state q =
    folder_renamed from to q state (can_take state.names to) refl
folder_acted (Removes path) state q =
    folder_removed path q state (is_file (name_at state.names path)) refl
folder_acted (Writes path bytes) state q =
    ap (λ (l : List Name). is_folder (name_at l q))
    (names_changed (name_at state.names path) (replaced bytes) state)

-- Entries in which we changed nothing.

folder_entry : (entry : Entry) (state : State) (q : List ℕ) → looks entry ≡ true
    → is_folder (name_at (after_entry state entry).names q) ≡ is_folder (name_at state.names q)
folder_entry (Own call Done) state q look =
    ap (λ (s : State). is_folder (name_at s.names q)) (look_keeps call state look)
folder_entry (Own call (Refused why wrote)) state q look =
    ap (λ (s : State). is_folder (name_at s.names q)) (refusal_keeps call wrote state look)
folder_entry (Others action) state q look = folder_acted action state q

folder_run : (entries : List Entry) (count : ℕ) (state : State) (q : List ℕ)
    → all_look entries ≡ true
    → is_folder (name_at (run_entries (take count entries) state).names q)
    ≡ is_folder (name_at state.names q)
folder_run [] zero state q look = refl
folder_run [] (suc count) state q look = refl
folder_run (entry ∷ entries) zero state q look = refl
folder_run (entry ∷ entries) (suc count) state q look =
    let parts = and_parts (looks entry) (all_look entries) look in
    folder_run entries count (after_entry state entry) q parts.1
    ∙ folder_entry entry state q parts.0

node_folder : (files : List File) (q : List ℕ) (at : Option (Option ℕ))
    → is_folder_node (node_by files q at) ≡ is_folder at
node_folder files q None = refl
node_folder files q (Some None) = refl
node_folder files q (Some (Some number)) = refl

tree_folder : (state : State) (q : List ℕ)
    → is_folder_node (node_at (tree_of state) q) ≡ is_folder (name_at state.names q)
tree_folder state q =
    ap is_folder_node (node_at-tree_of state q) ∙ node_folder state.files q (name_at state.names q)

-- at each mark from the old end on the same folders stand
folder_from : (old new : Past) (mark : ℕ) (q : List ℕ) → HasLooked old new
    → length old.journal ≤ mark
    → is_folder_node (node_at (tree_at new mark) q)
    ≡ is_folder (name_at (run_entries old.journal (state_of old.first)).names q)
folder_from old new mark q h later =
    let count : ℕ = mark - length old.journal in
    let here : mark ≡ length old.journal + count = omega arith in
    let at : state_at new mark
    ≡ run_entries (take count h.more) (run_entries old.journal (state_of old.first)) =
    ap (λ (tree : List TreeNode). run_entries (take mark new.journal) (state_of tree)) h.same_first
    ∙ ap (λ (l : List Entry). run_entries (take mark l) (state_of old.first)) h.journal
    ∙ ap (λ (m : ℕ). run_entries (take m (old.journal ++ h.more)) (state_of old.first)) here
    ∙ ap (λ (l : List Entry). run_entries l (state_of old.first))
    (take-append-add old.journal h.more count)
    ∙ run_entries-append old.journal (take count h.more) (state_of old.first) in
    tree_folder (state_at new mark) q ∙ ap (λ (s : State). is_folder (name_at s.names q)) at
    ∙ folder_run h.more count (run_entries old.journal (state_of old.first)) q h.look

pub folder_stays : (old new : Past) (mark other : ℕ) (q : List ℕ) → HasLooked old new
    → length old.journal ≤ mark → length old.journal ≤ other
    → is_folder_node (node_at (tree_at new mark) q) ≡ is_folder_node (node_at (tree_at new other) q)
folder_stays old new mark other q h later too =
    folder_from old new mark q h later ∙ sym (folder_from old new other q h too)
