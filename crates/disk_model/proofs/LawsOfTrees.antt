-- The tree at each mark of a lawful past is a tree.
use Rattle.std.proofs.Common.{◌≡◌, ◌&&◌, ◌==◌, ◌∷◌, ◌∙◌, [], ℕ, zero, suc, Bool, true, false, not}
use Rattle.std.proofs.Common.{List, Option, Some, None, is_none, map}
use Rattle.std.proofs.Common.{take, if◌then◌else◌, refl, sym, ap}
use Rattle.std.proofs.lemmas.Bool.{and_from, and_parts}
use Rattle.std.proofs.lemmas.Slice.Eq.{bytes_eq-Decides}
use Rattle.std.specs.Str.{bytes_eq, is_utf8}
use Rattle.disk_model.specs.Tree.{TreeNode, are_distinct, are_placed, are_stamped, folder_of}
use Rattle.disk_model.specs.Tree.{is_first_tree, is_folder_node, is_placed, is_root, is_tree}
use Rattle.disk_model.specs.Tree.{node_at, node_in}
use Rattle.disk_model.specs.Journal.{Call, ListDir, StatPath, ReadFront, ReadAll, Create, WriteAt}
use Rattle.disk_model.specs.Journal.{Cut, Sync, Rename, Remove, SyncDir, MakeDir, Done, Refused}
use Rattle.disk_model.specs.Journal.{Action, Appends, Puts, Renames, Removes, Writes, Entry, Own}
use Rattle.disk_model.specs.Journal.{Others}
use Rattle.disk_model.specs.State.{File, Name, State, after_action, after_done, after_entry}
use Rattle.disk_model.specs.State.{after_refused, appended, can_make, can_take, changed, cut_to}
use Rattle.disk_model.specs.State.{is_file, is_folder, is_free, moved, name_at, name_in, node_of}
use Rattle.disk_model.specs.State.{replaced, run_entries, settled, state_at, state_of, tree_of}
use Rattle.disk_model.specs.State.{with_made, with_names, without, written}
use Rattle.disk_model.specs.Lawful.{AreLawful, IsLawfulAt}
use Rattle.disk_model.specs.Laws.{EachMarkHasATree}
use Rattle.disk_model.specs.Refusals.{below_refusal, file_refusal, first_refusal, free_refusal}
use Rattle.disk_model.specs.Refusals.{make_refusal, missing_refusal, rename_refusal, target_refusal}
use Rattle.disk_model.specs.declared.answers.DiskError.{DiskError}
use Rattle.disk_model.proofs.First.{tree_of-state_of}
use Rattle.disk_model.proofs.Trees.{bytes_same, node_at-tree_of, node_by, node_in-names}
use Rattle.disk_model.proofs.Trees.{path-node_of}

-- Names that are those of a tree.

-- no two have one path
abbrev pub Distinct : List Name → Type 0
Distinct [] = Unit {0}
Distinct (name ∷ names) = (name_in names name.path ≡ None) × Distinct names

-- a path that may be a name's, where these are the names
pub record IsPlacedIn (names : List Name) (path : List ℕ) : Type 0 where
  pub no_root : is_root path ≡ false
  pub text : is_utf8 path ≡ true
  pub folder : is_folder (name_at names (folder_of path)) ≡ true

abbrev pub Placed : List Name → List Name → Type 0
Placed all [] = Unit {0}
Placed all (name ∷ names) = IsPlacedIn all name.path × Placed all names

pub record AreTree (names : List Name) : Type 0 where
  pub distinct : Distinct names
  pub placed : Placed names names

-- Look-ups among fewer names.

name_if : (p q : List ℕ) (name : Name) (here there same : Bool) (rest found : Option (Option ℕ))
    → bytes_eq name.path p ≡ here → bytes_eq name.path q ≡ there → bytes_eq p q ≡ same
    → rest ≡ (if same then None else found)
    → (if here then rest else (if there then Some name.file else rest))
    ≡ (if same then None else (if there then Some name.file else found))
name_if p q name true there true rest found a b c is = is
name_if p q name true true false rest found a b c is =
    absurd (true_false (sym b ∙ ap (λ (l : List ℕ). bytes_eq l q) (bytes_same name.path p a) ∙ c))
  where
    true_false : ◌≡◌ {A = Bool} true false → ⊥
    true_false e = cc
name_if p q name true false false rest found a b c is = is
name_if p q name false true true rest found a b c is =
    absurd (false_true (sym a ∙ (bytes_eq-Decides name.path p).1
    (bytes_same name.path q b ∙ sym (bytes_same p q c))))
  where
    false_true : ◌≡◌ {A = Bool} false true → ⊥
    false_true e = cc
name_if p q name false false true rest found a b c is = is
name_if p q name false true false rest found a b c is = refl
name_if p q name false false false rest found a b c is = is

in_if : (b : Bool) (name : Name) (names : List Name) (q : List ℕ)
    → name_in (if b then names else name ∷ names) q
    ≡ (if b then name_in names q
    else (if bytes_eq name.path q then Some name.file else name_in names q))
in_if true name names q = refl
in_if false name names q = refl

none_if : (b : Bool) → ◌≡◌ {A = Option (Option ℕ)} None (if b then None else None)
none_if true = refl
none_if false = refl

name_in-without : (p : List ℕ) (names : List Name) (q : List ℕ)
    → name_in (without p names) q ≡ (if bytes_eq p q then None else name_in names q)
name_in-without p [] q = none_if (bytes_eq p q)
name_in-without p (name ∷ names) q =
    in_if (bytes_eq name.path p) name (without p names) q
    ∙ name_if p q name (bytes_eq name.path p) (bytes_eq name.path q) (bytes_eq p q)
    (name_in (without p names) q)
    (name_in names q) refl refl refl (name_in-without p names q)

-- a folder that is not taken away is there
folder_if : (p q : List ℕ) (names : List Name) (root same : Bool) → bytes_eq p q ≡ same
    → is_folder (name_at names p) ≡ false → is_root q ≡ root
    → is_folder (if root then Some None else name_in names q) ≡ true
    → is_folder (if root then Some None else (if same then None else name_in names q)) ≡ true
folder_if p q names true same is file at there = refl
folder_if p q names false false is file at there = there
folder_if p q names false true is file at there =
    absurd (false_true
    (sym file ∙ ap (λ (l : List ℕ). is_folder (name_at names l)) (bytes_same p q is)
    ∙ ap (λ (b : Bool). is_folder (if b then Some None else name_in names q)) at ∙ there))
  where
    false_true : ◌≡◌ {A = Bool} false true → ⊥
    false_true e = cc

pub folder_kept : (p q : List ℕ) (names : List Name) → is_folder (name_at names p) ≡ false
    → is_folder (name_at names q) ≡ true → is_folder (name_at (without p names) q) ≡ true
folder_kept p q names file there =
    ap (λ (r : Option (Option ℕ)). is_folder (if is_root q then Some None else r))
    (name_in-without p names q)
    ∙ folder_if p q names (is_root q) (bytes_eq p q) refl file refl there

-- Names are taken away.

placed_all : (one other names : List Name)
    → ((q : List ℕ) → is_folder (name_at one q) ≡ true → is_folder (name_at other q) ≡ true)
    → Placed one names → Placed other names
placed_all one other [] keeps h = tt
placed_all one other (name ∷ names) keeps h = (
  record {
    no_root = h.0.no_root;
    text = h.0.text;
    folder = keeps (folder_of name.path) h.0.folder;
  },
  placed_all one other names keeps h.1,
)

placed_if : (b : Bool) (all : List Name) (name : Name) (rest : List Name) → IsPlacedIn all name.path
    → Placed all rest
    → Placed all (if b then rest else name ∷ rest)
placed_if true all name rest here more = more
placed_if false all name rest here more = (here, more)

placed_without : (p : List ℕ) (all names : List Name) → Placed all names
    → Placed all (without p names)
placed_without p all [] h = tt
placed_without p all (name ∷ names) h =
    placed_if (bytes_eq name.path p) all name (without p names) h.0 (placed_without p all names h.1)

distinct_if : (b : Bool) (name : Name) (rest : List Name) → name_in rest name.path ≡ None
    → Distinct rest
    → Distinct (if b then rest else name ∷ rest)
distinct_if true name rest none more = more
distinct_if false name rest none more = (none, more)

distinct_without : (p : List ℕ) (names : List Name) → Distinct names → Distinct (without p names)
distinct_without p [] h = tt
distinct_without p (name ∷ names) h =
    distinct_if (bytes_eq name.path p) name (without p names)
    (name_in-without p names name.path
    ∙ ap (λ (r : Option (Option ℕ)). if bytes_eq p name.path then None else r) h.0
    ∙ sym (none_if (bytes_eq p name.path)))
    (distinct_without p names h.1)

tree_without : (p : List ℕ) (names : List Name) → is_folder (name_at names p) ≡ false
    → AreTree names
    → AreTree (without p names)
tree_without p names file h = record {
  distinct = distinct_without p names h.distinct;
  placed =
      placed_all names (without p names) (without p names)
      (λ q there. folder_kept p q names file there)
      (placed_without p names names h.placed);
}

-- A name is made.

at_none : (names : List Name) (path : List ℕ) → name_at names path ≡ None
    → (is_root path ≡ false) × (name_in names path ≡ None)
at_none names path none = by_root (is_root path) refl none
  where
    by_root : (b : Bool) → is_root path ≡ b → (if b then Some None else name_in names path) ≡ None
        → (is_root path ≡ false) × (name_in names path ≡ None)
    by_root true is none = absurd (some_none none)
      where
        some_none : ◌≡◌ {A = Option (Option ℕ)} (Some None) None → ⊥
        some_none e = cc
    by_root false is none = (is, none)

folder_more_if : (path q : List ℕ) (file : Option ℕ) (names : List Name) (root same : Bool)
    → is_root q ≡ root → bytes_eq path q ≡ same → name_in names path ≡ None
    → is_folder (if root then Some None else name_in names q) ≡ true
    → is_folder (if root then Some None else (if same then Some file else name_in names q)) ≡ true
folder_more_if path q file names true same at is none there = refl
folder_more_if path q file names false false at is none there = there
folder_more_if path q file names false true at is none there =
    absurd (false_true
    (sym (ap is_folder
    (sym (ap (λ (l : List ℕ). name_in names l) (bytes_same path q is)) ∙ none))
    ∙ there))
  where
    false_true : ◌≡◌ {A = Bool} false true → ⊥
    false_true e = cc

tree_more : (path : List ℕ) (file : Option ℕ) (names : List Name) → is_utf8 path ≡ true
    → is_folder (name_at names (folder_of path)) ≡ true → name_at names path ≡ None → AreTree names
    → AreTree (record { path = path; file = file } ∷ names)
tree_more path file names text folder none h =
    let free = at_none names path none in
    let more : List Name = record { path = path; file = file } ∷ names in
    let keeps = λ (q : List ℕ) (there : is_folder (name_at names q) ≡ true).
    folder_more_if path q file names (is_root q) (bytes_eq path q) refl refl free.1 there in
    record {
      distinct = (free.1, h.distinct);
      placed = (
        record { no_root = free.0; text = text; folder = keeps (folder_of path) folder },
        placed_all names more names keeps h.placed,
      );
    }

-- A file is moved.

file_no_folder : (at : Option (Option ℕ)) (number : ℕ) → at ≡ Some (Some number)
    → is_folder at ≡ false
file_no_folder at number is = ap is_folder is

-- what is taken away is not there
without_none : (p : List ℕ) (names : List Name) → is_root p ≡ false
    → name_at (without p names) p ≡ None
without_none p names root =
    ap (λ (b : Bool). if b then Some None else name_in (without p names) p) root
    ∙ name_in-without p names p
    ∙ ap (λ (b : Bool). if b then None else name_in names p) ((bytes_eq-Decides p p).1 refl)

no_folder_root : (names : List Name) (path : List ℕ) → is_folder (name_at names path) ≡ false
    → is_root path ≡ false
no_folder_root names path file = by_root (is_root path) refl file
  where
    by_root : (b : Bool) → is_root path ≡ b
        → is_folder (if b then Some None else name_in names path) ≡ false
        → is_root path ≡ false
    by_root true is file = absurd (true_false file)
      where
        true_false : ◌≡◌ {A = Bool} true false → ⊥
        true_false e = cc
    by_root false is file = is

-- no folder stands there behind a removal either
still_if : (p q : List ℕ) (names : List Name) (root same : Bool)
    → is_folder (if root then Some None else name_in names q) ≡ false
    → is_folder (if root then Some None else (if same then None else name_in names q)) ≡ false
still_if p q names true same file = file
still_if p q names false true file = refl
still_if p q names false false file = file

pub still_no_folder : (p q : List ℕ) (names : List Name) → is_folder (name_at names q) ≡ false
    → is_folder (name_at (without p names) q) ≡ false
still_no_folder p q names file =
    ap (λ (r : Option (Option ℕ)). is_folder (if is_root q then Some None else r))
    (name_in-without p names q)
    ∙ still_if p q names (is_root q) (bytes_eq p q) file

tree_moved : (from to : List ℕ) (number : ℕ) (names : List Name)
    → is_folder (name_at names from) ≡ false
    → is_utf8 to ≡ true → is_folder (name_at names (folder_of to)) ≡ true
    → is_folder (name_at names to) ≡ false
    → AreTree names
    → AreTree (record { path = to; file = Some number } ∷ without to (without from names))
tree_moved from to number names file text folder target h =
    let one : List Name = without from names in
    let gone : is_folder (name_at one to) ≡ false = still_no_folder from to names target in
    tree_more to (Some number) (without to one) text
    (folder_kept to (folder_of to) one gone (folder_kept from (folder_of to) names file folder))
    (without_none to one (no_folder_root names to target))
    (tree_without to one gone (tree_without from names file h))

-- What a call that is not refused tells of the names.

first_none : (one next : Option DiskError) → first_refusal one next ≡ None
    → (one ≡ None) × (next ≡ None)
first_none None next is = (refl, is)
first_none (Some why) next is = absurd (some_none is)
  where
    some_none : ◌≡◌ {A = Option DiskError} (Some why) None → ⊥
    some_none e = cc

some_none : (why : DiskError) → ◌≡◌ {A = Option DiskError} (Some why) None → ⊥
some_none why e = cc

below_told : (files : List File) (path : List ℕ) (at : Option (Option ℕ))
    → below_refusal (node_by files path at) ≡ None
    → is_folder at ≡ true
below_told files path None is = absurd (some_none _ is)
below_told files path (Some None) is = refl
below_told files path (Some (Some number)) is = absurd (some_none _ is)

free_told : (files : List File) (path : List ℕ) (at : Option (Option ℕ))
    → free_refusal (node_by files path at) ≡ None
    → at ≡ None
free_told files path None is = refl
free_told files path (Some file) is = absurd (some_none _ is)

target_told : (files : List File) (path : List ℕ) (at : Option (Option ℕ))
    → target_refusal (node_by files path at) ≡ None
    → is_folder at ≡ false
target_told files path None is = refl
target_told files path (Some None) is = absurd (some_none _ is)
target_told files path (Some (Some number)) is = refl

file_told : (files : List File) (path : List ℕ) (at : Option (Option ℕ))
    → file_refusal (node_by files path at) ≡ None
    → is_folder at ≡ false
file_told files path None is = absurd (some_none _ is)
file_told files path (Some None) is = absurd (some_none _ is)
file_told files path (Some (Some number)) is = refl

-- at the names of a state
told_at : (state : State) (path : List ℕ) (R : Option TreeNode → Option DiskError)
    → R (node_at (tree_of state) path) ≡ None
    → R (node_by state.files path (name_at state.names path)) ≡ None
told_at state path R is = sym (ap R (node_at-tree_of state path)) ∙ is

-- The names behind a call.

made_tree : (state : State) (path : List ℕ) (file : Option ℕ) → is_utf8 path ≡ true
    → make_refusal (tree_of state) path ≡ None → AreTree state.names
    → AreTree (record { path = path; file = file } ∷ state.names)
made_tree state path file text is h =
    let parts = first_none (below_refusal (node_at (tree_of state) (folder_of path)))
    (free_refusal (node_at (tree_of state) path)) is in
    tree_more path file state.names text
    (below_told state.files (folder_of path) (name_at state.names (folder_of path))
    (told_at state (folder_of path) below_refusal parts.0))
    (free_told state.files path (name_at state.names path)
    (told_at state path free_refusal parts.1)) h

changed_tree : (at : Option (Option ℕ)) (change : ℕ → File → File) (state : State)
    → AreTree state.names
    → AreTree (changed at change state).names
changed_tree None change state h = h
changed_tree (Some None) change state h = h
changed_tree (Some (Some number)) change state h = h

settled_tree : (at : Option (Option ℕ)) (state : State) → AreTree state.names
    → AreTree (settled at state).names
settled_tree None state h = h
settled_tree (Some None) state h = h
settled_tree (Some (Some number)) state h = h

moved_tree : (at : Option (Option ℕ)) (from to : List ℕ) (state : State)
    → name_at state.names from ≡ at
    → is_utf8 to ≡ true → is_folder (name_at state.names (folder_of to)) ≡ true
    → is_folder (name_at state.names to) ≡ false → AreTree state.names
    → AreTree (moved at from to state).names
moved_tree None from to state at text folder target h = h
moved_tree (Some None) from to state at text folder target h = h
moved_tree (Some (Some number)) from to state at text folder target h =
    tree_moved from to number state.names (file_no_folder (name_at state.names from) number at) text
    folder target h

renamed_tree : (state : State) (from to : List ℕ) → is_utf8 to ≡ true
    → rename_refusal (tree_of state) from to ≡ None
    → AreTree state.names → AreTree (moved (name_at state.names from) from to state).names
renamed_tree state from to text is h =
    let one = first_none (missing_refusal (node_at (tree_of state) from)) _ is in
    let two = first_none (below_refusal (node_at (tree_of state) (folder_of to))) _ one.1 in
    let three =
    first_none (file_refusal (node_at (tree_of state) from))
    (target_refusal (node_at (tree_of state) to))
    two.1 in
    moved_tree (name_at state.names from) from to state refl text
    (below_told state.files (folder_of to) (name_at state.names (folder_of to))
    (told_at state (folder_of to) below_refusal two.0))
    (target_told state.files to (name_at state.names to) (told_at state to target_refusal three.1))
    h

removed_tree : (state : State) (path : List ℕ) → file_refusal (node_at (tree_of state) path) ≡ None
    → AreTree state.names → AreTree (without path state.names)
removed_tree state path is h =
    tree_without path state.names
    (file_told state.files path (name_at state.names path) (told_at state path file_refusal is)) h

done_tree : (call : Call) (state : State) → IsLawfulAt (Own call Done) state → AreTree state.names
    → AreTree (after_done call state).names
done_tree (ListDir dir) state lawful h = h
done_tree (StatPath path) state lawful h = h
done_tree (ReadFront path size) state lawful h = h
done_tree (ReadAll path limit) state lawful h = h
done_tree (Create path) state lawful h = made_tree state path _ lawful.0 lawful.1 h
done_tree (WriteAt path at piece) state lawful h =
    changed_tree (name_at state.names path) (written at piece) state h
done_tree (Cut path size) state lawful h =
    changed_tree (name_at state.names path) (cut_to size) state h
done_tree (Sync path) state lawful h = settled_tree (name_at state.names path) state h
done_tree (Rename from to) state lawful h =
    renamed_tree state from to (and_parts (is_utf8 from) (is_utf8 to) lawful.0).1 lawful.1 h
done_tree (Remove path) state lawful h = removed_tree state path lawful.1 h
done_tree (SyncDir dir) state lawful h = h
done_tree (MakeDir path) state lawful h = made_tree state path None lawful.0 lawful.1 h

same_if : (b : Bool) (one other : State) → AreTree one.names → AreTree other.names
    → AreTree (if b then one else other).names
same_if true one other x y = x
same_if false one other x y = y

refused_tree : (call : Call) (wrote : ℕ) (state : State) → AreTree state.names
    → AreTree (after_refused call wrote state).names
refused_tree (ListDir dir) wrote state h = h
refused_tree (StatPath path) wrote state h = h
refused_tree (ReadFront path size) wrote state h = h
refused_tree (ReadAll path limit) wrote state h = h
refused_tree (Create path) wrote state h = h
refused_tree (WriteAt path at piece) wrote state h =
    same_if (wrote == 0) state
    (changed (name_at state.names path) (written at (take wrote piece)) state) h
    (changed_tree (name_at state.names path) (written at (take wrote piece)) state h)
refused_tree (Cut path size) wrote state h = h
refused_tree (Sync path) wrote state h = h
refused_tree (Rename from to) wrote state h = h
refused_tree (Remove path) wrote state h = h
refused_tree (SyncDir dir) wrote state h = h
refused_tree (MakeDir path) wrote state h = h

-- The names behind an action of others.

choice : (b : Bool) (next state : State) → AreTree state.names → (b ≡ true → AreTree next.names)
    → AreTree (if b then next else state).names
choice true next state h made = made refl
choice false next state h made = h

free_is : (at : Option (Option ℕ)) → is_free at ≡ true → at ≡ None
free_is None is = refl
free_is (Some file) is = absurd (false_true is)
  where
    false_true : ◌≡◌ {A = Bool} false true → ⊥
    false_true e = cc

not_is : (b : Bool) → not b ≡ true → b ≡ false
not_is true is = sym is
not_is false is = refl

file_is : (at : Option (Option ℕ)) → is_file at ≡ true → is_folder at ≡ false
file_is None is = refl
file_is (Some None) is = sym is
file_is (Some (Some number)) is = refl

action_tree : (action : Action) (state : State) → AreTree state.names
    → AreTree (after_action action state).names
action_tree (Appends path piece) state h =
    changed_tree (name_at state.names path) (appended piece) state h
action_tree (Puts path bytes) state h =
    choice (can_make state.names path) (with_made path bytes state) state h
    (λ can. let parts = and_parts (is_utf8 path && is_folder (name_at state.names (folder_of path)))
    (is_free (name_at state.names path)) can in
    let front =
    and_parts (is_utf8 path) (is_folder (name_at state.names (folder_of path))) parts.0 in
    tree_more path _ state.names front.0 front.1 (free_is (name_at state.names path) parts.1) h)
action_tree (Renames from to) state h =
    choice (can_take state.names to) (moved (name_at state.names from) from to state) state h
    (λ can. let parts = and_parts (is_utf8 to && is_folder (name_at state.names (folder_of to)))
    (not (is_folder (name_at state.names to))) can in
    let front = and_parts (is_utf8 to) (is_folder (name_at state.names (folder_of to))) parts.0 in
    moved_tree (name_at state.names from) from to state refl front.0 front.1
    (not_is (is_folder (name_at state.names to)) parts.1) h)
action_tree (Removes path) state h =
    choice (is_file (name_at state.names path)) (with_names (without path state.names) state) state
    h
    (λ can. tree_without path state.names (file_is (name_at state.names path) can) h)
action_tree (Writes path bytes) state h =
    changed_tree (name_at state.names path) (replaced bytes) state h

entry_tree : (entry : Entry) (state : State) → IsLawfulAt entry state → AreTree state.names
    → AreTree (after_entry state entry).names
entry_tree (Own call Done) state lawful h = done_tree call state lawful h
entry_tree (Own call (Refused why wrote)) state lawful h = refused_tree call wrote state h
entry_tree (Others action) state lawful h = action_tree action state h

pub run_tree : (entries : List Entry) (state : State) → AreLawful entries state
    → AreTree state.names
    → AreTree (run_entries entries state).names
run_tree [] state lawful h = h
run_tree (entry ∷ entries) state lawful h =
    run_tree entries (after_entry state entry) lawful.1 (entry_tree entry state lawful.0 h)

-- Names of a tree are those of a tree's nodes, and the other way round.

none_by : (files : List File) (path : List ℕ) (at : Option (Option ℕ))
    → is_none (node_by files path at) ≡ is_none at
none_by files path None = refl
none_by files path (Some file) = refl

folder_by : (files : List File) (path : List ℕ) (at : Option (Option ℕ))
    → is_folder_node (node_by files path at) ≡ is_folder at
folder_by files path None = refl
folder_by files path (Some None) = refl
folder_by files path (Some (Some number)) = refl

none_is : (at : Option (Option ℕ)) → is_none at ≡ true → at ≡ None
none_is None is = refl
none_is (Some file) is = absurd (false_true is)
  where
    false_true : ◌≡◌ {A = Bool} false true → ⊥
    false_true e = cc

-- the node of a name
abbrev node_for : List File → Name → TreeNode
node_for files name = node_of files name.path name.file

alone_is : (files : List File) (name : Name) (names : List Name)
    → is_none (node_in (map (node_for files) names) (node_for files name).path)
    ≡ is_none (name_in names name.path)
alone_is files name names =
    ap (λ (p : List ℕ). is_none (node_in (map (node_for files) names) p))
    (path-node_of files name.path name.file)
    ∙ ap is_none (node_in-names files names name.path)
    ∙ none_by files name.path (name_in names name.path)

distinct_nodes : (files : List File) (names : List Name) → Distinct names
    → are_distinct (map (node_for files) names) ≡ true
distinct_nodes files [] h = refl
distinct_nodes files (name ∷ names) h =
    and_from (is_none (node_in (map (node_for files) names) (node_for files name).path))
    (are_distinct (map (node_for files) names)) (alone_is files name names ∙ ap is_none h.0)
    (distinct_nodes files names h.1)

distinct_names : (files : List File) (names : List Name)
    → are_distinct (map (node_for files) names) ≡ true
    → Distinct names
distinct_names files [] h = tt
distinct_names files (name ∷ names) h =
    let parts =
    and_parts (is_none (node_in (map (node_for files) names) (node_for files name).path))
    (are_distinct (map (node_for files) names)) h in (
      none_is (name_in names name.path) (sym (alone_is files name names) ∙ parts.0),
      distinct_names
          files names parts.1,
    )

placed_is : (state : State) (path : List ℕ)
    → is_placed (tree_of state) path
    ≡ (not (is_root path) && is_utf8 path && is_folder (name_at state.names (folder_of path)))
placed_is state path =
    ap (λ (b : Bool). not (is_root path) && is_utf8 path && b)
    (ap is_folder_node (node_at-tree_of state (folder_of path))
    ∙ folder_by state.files (folder_of path) (name_at state.names (folder_of path)))

placed_node : (state : State) (path : List ℕ) → IsPlacedIn state.names path
    → is_placed (tree_of state) path ≡ true
placed_node state path h =
    placed_is state path
    ∙ and_from (not (is_root path) && is_utf8 path)
    (is_folder (name_at state.names (folder_of path)))
    (and_from (not (is_root path)) (is_utf8 path) (ap not h.no_root) h.text) h.folder

placed_name : (state : State) (path : List ℕ) → is_placed (tree_of state) path ≡ true
    → IsPlacedIn state.names path
placed_name state path h =
    let parts =
    and_parts (not (is_root path) && is_utf8 path)
    (is_folder (name_at state.names (folder_of path)))
    (sym (placed_is state path) ∙ h) in
    let front = and_parts (not (is_root path)) (is_utf8 path) parts.0 in
    record { no_root = not_is (is_root path) front.0; text = front.1; folder = parts.1 }

placed_nodes : (state : State) (names : List Name) → Placed state.names names
    → are_placed (tree_of state) (map (node_for state.files) names) ≡ true
placed_nodes state [] h = refl
placed_nodes state (name ∷ names) h =
    and_from (is_placed (tree_of state) (node_for state.files name).path)
    (are_placed (tree_of state) (map (node_for state.files) names))
    (ap (is_placed (tree_of state)) (path-node_of state.files name.path name.file)
    ∙ placed_node state name.path h.0)
    (placed_nodes state names h.1)

placed_names : (state : State) (names : List Name)
    → are_placed (tree_of state) (map (node_for state.files) names) ≡ true
    → Placed state.names names
placed_names state [] h = tt
placed_names state (name ∷ names) h =
    let parts = and_parts (is_placed (tree_of state) (node_for state.files name).path)
    (are_placed (tree_of state) (map (node_for state.files) names)) h in (
      placed_name state name.path
          (sym (ap (is_placed (tree_of state)) (path-node_of state.files name.path name.file))
          ∙ parts.0),
      placed_names state names parts.1,
    )

pub is_tree-names : (state : State) → AreTree state.names → is_tree (tree_of state) ≡ true
is_tree-names state h =
    and_from (are_distinct (tree_of state)) (are_placed (tree_of state) (tree_of state))
    (distinct_nodes state.files state.names h.distinct) (placed_nodes state state.names h.placed)

names-is_tree : (state : State) → is_tree (tree_of state) ≡ true → AreTree state.names
names-is_tree state h =
    let parts =
    and_parts (are_distinct (tree_of state)) (are_placed (tree_of state) (tree_of state)) h in
    record {
      distinct = distinct_names state.files state.names parts.0;
      placed = placed_names state state.names parts.1;
    }

-- the first names
pub first_names_tree : (first : List TreeNode) → is_first_tree first ≡ true
    → AreTree (state_of first).names
first_names_tree first good =
    names-is_tree (state_of first)
    (ap is_tree (tree_of-state_of first good)
    ∙ (and_parts (is_tree first) (are_stamped first) good).0)

-- The law.

take_lawful : (mark : ℕ) (entries : List Entry) (state : State) → AreLawful entries state
    → AreLawful (take mark entries) state
take_lawful zero entries state h = tt
take_lawful (suc mark) [] state h = tt
take_lawful (suc mark) (entry ∷ entries) state h =
    (h.0, take_lawful mark entries (after_entry state entry) h.1)

pub each_mark_has_a_tree : EachMarkHasATree
each_mark_has_a_tree past marks mark lawful =
    is_tree-names (state_at past mark)
    (run_tree (take mark past.journal) (state_of past.first)
    (take_lawful mark past.journal (state_of past.first) lawful.lawful)
    (first_names_tree past.first lawful.first))
