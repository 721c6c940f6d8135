-- The names of a lawful past are text.
use Rattle.std.proofs.Common.{◌≡◌, ◌<◌, ◌==◌, ◌∷◌, ◌∙◌, [], ℕ, zero, suc, Bool, true, false, List}
use Rattle.std.proofs.Common.{Option, Some, None, not, ◌&&◌, map, length, take, drop, get_or}
use Rattle.std.proofs.Common.{if◌then◌else◌, refl, sym, ap, subst, arith, add-one, length-drop}
use Rattle.std.proofs.Common.{drop-cons, eqb-true}
use Rattle.std.proofs.lemmas.Bool.{and_parts}
use Rattle.std.proofs.lemmas.Str.{IsCharBoundary-after_ascii, IsUtf8-drop, IsUtf8-from_is_utf8}
use Rattle.std.specs.List.{insert}
use Rattle.std.specs.Str.{IsCharBoundary, IsUtf8, bytes_eq, is_utf8}
use Rattle.mail_base.specs.Series.{Held}
use Rattle.disk_model.specs.Tree.{TreeNode, are_distinct, are_placed, are_stamped, folder_of}
use Rattle.disk_model.specs.Tree.{is_first_tree, is_folder_node, is_placed, is_root, is_tree}
use Rattle.disk_model.specs.Tree.{node_at}
use Rattle.disk_model.specs.Journal.{Call, ListDir, StatPath, ReadFront, ReadAll, Create, WriteAt}
use Rattle.disk_model.specs.Journal.{Cut, Sync, Rename, Remove, SyncDir, MakeDir, Done, Refused}
use Rattle.disk_model.specs.Journal.{Action, Appends, Puts, Renames, Removes, Writes, Entry, Own}
use Rattle.disk_model.specs.Journal.{Others}
use Rattle.disk_model.specs.State.{File, Name, State, after_action, after_done, after_entry}
use Rattle.disk_model.specs.State.{after_refused, can_make, can_take, changed, first_names, is_file}
use Rattle.disk_model.specs.State.{is_folder, is_free, moved, name_at, next_number, node_of}
use Rattle.disk_model.specs.State.{run_entries, settled, state_of, tree_of, with_made, with_names}
use Rattle.disk_model.specs.State.{without, written}
use Rattle.disk_model.specs.Lawful.{AreLawful, IsLawfulAt, is_text}
use Rattle.disk_model.specs.Names.{behind_slash, more_names, name_of, names_in, place_of, put_name}
use Rattle.disk_model.specs.Answers.{AreText}
use Rattle.disk_model.specs.Laws.{Each}
use Rattle.disk_model.proofs.Eaches.{each_without}

-- each of these names has a path of text
abbrev pub AllText : List Name → Type 0
AllText names = Each (λ (name : Name). is_utf8 name.path ≡ true) names

-- Names that are left, made and moved.

text_without : (path : List ℕ) (names : List Name) → AllText names → AllText (without path names)
text_without path names texts =
    each_without (λ (name : Name). is_utf8 name.path ≡ true) path names texts

text_changed : (at : Option (Option ℕ)) (change : ℕ → File → File) (state : State)
    → AllText state.names
    → AllText (changed at change state).names
text_changed None change state texts = texts
text_changed (Some None) change state texts = texts
text_changed (Some (Some number)) change state texts = texts

text_settled : (at : Option (Option ℕ)) (state : State) → AllText state.names
    → AllText (settled at state).names
text_settled None state texts = texts
text_settled (Some None) state texts = texts
text_settled (Some (Some number)) state texts = texts

text_moved : (at : Option (Option ℕ)) (from to : List ℕ) (state : State) → is_utf8 to ≡ true
    → AllText state.names
    → AllText (moved at from to state).names
text_moved None from to state text texts = texts
text_moved (Some None) from to state text texts = texts
text_moved (Some (Some number)) from to state text texts =
    (text, text_without to (without from state.names) (text_without from state.names texts))

text_done : (call : Call) (state : State) → is_text call ≡ true → AllText state.names
    → AllText (after_done call state).names
text_done (ListDir dir) state text texts = texts
text_done (StatPath path) state text texts = texts
text_done (ReadFront path size) state text texts = texts
text_done (ReadAll path limit) state text texts = texts
text_done (Create path) state text texts = (text, texts)
text_done (WriteAt path at piece) state text texts =
    text_changed (name_at state.names path) (written at piece) state texts
text_done (Cut path size) state text texts = text_changed (name_at state.names path) _ state texts
text_done (Sync path) state text texts = text_settled (name_at state.names path) state texts
text_done (Rename from to) state text texts =
    text_moved (name_at state.names from) from to state
    (and_parts (is_utf8 from) (is_utf8 to) text).1 texts
text_done (Remove path) state text texts = text_without path state.names texts
text_done (SyncDir dir) state text texts = texts
text_done (MakeDir path) state text texts = (text, texts)

text_choice : (b : Bool) (next state : State) → AllText state.names
    → (b ≡ true → AllText next.names)
    → AllText (if b then next else state).names
text_choice true next state texts made = made refl
text_choice false next state texts made = texts

text_none : (b : Bool) (next state : State) → AllText state.names → AllText next.names
    → AllText (if b then state else next).names
text_none true next state texts made = texts
text_none false next state texts made = made

text_refused : (call : Call) (wrote : ℕ) (state : State) → AllText state.names
    → AllText (after_refused call wrote state).names
text_refused (ListDir dir) wrote state texts = texts
text_refused (StatPath path) wrote state texts = texts
text_refused (ReadFront path size) wrote state texts = texts
text_refused (ReadAll path limit) wrote state texts = texts
text_refused (Create path) wrote state texts = texts
text_refused (WriteAt path at piece) wrote state texts =
    text_none (wrote == 0)
    (changed (name_at state.names path) (written at (take wrote piece)) state) state texts
    (text_changed (name_at state.names path) (written at (take wrote piece)) state texts)
text_refused (Cut path size) wrote state texts = texts
text_refused (Sync path) wrote state texts = texts
text_refused (Rename from to) wrote state texts = texts
text_refused (Remove path) wrote state texts = texts
text_refused (SyncDir dir) wrote state texts = texts
text_refused (MakeDir path) wrote state texts = texts

text_action : (action : Action) (state : State) → AllText state.names
    → AllText (after_action action state).names
text_action (Appends path piece) state texts = text_changed (name_at state.names path) _ state texts
text_action (Puts path bytes) state texts =
    text_choice (can_make state.names path) (with_made path bytes state) state texts
    (λ can. (
      (and_parts (is_utf8 path) (is_folder (name_at state.names (folder_of path)))
          (and_parts (is_utf8 path && is_folder (name_at state.names (folder_of path)))
          (is_free (name_at state.names path)) can).0).0,
      texts,
    ))
text_action (Renames from to) state texts =
    text_choice (can_take state.names to) (moved (name_at state.names from) from to state) state
    texts
    (λ can. text_moved (name_at state.names from) from to state
    (and_parts (is_utf8 to) (is_folder (name_at state.names (folder_of to)))
    (and_parts (is_utf8 to && is_folder (name_at state.names (folder_of to)))
    (not (is_folder (name_at state.names to))) can).0).0 texts)
text_action (Removes path) state texts =
    text_choice (is_file (name_at state.names path)) (with_names (without path state.names) state)
    state texts
    (λ can. text_without path state.names texts)
text_action (Writes path bytes) state texts = text_changed (name_at state.names path) _ state texts

text_entry : (entry : Entry) (state : State) → IsLawfulAt entry state → AllText state.names
    → AllText (after_entry state entry).names
text_entry (Own call Done) state lawful texts = text_done call state lawful.0 texts
text_entry (Own call (Refused why wrote)) state lawful texts = text_refused call wrote state texts
text_entry (Others action) state lawful texts = text_action action state texts

pub text_run : (entries : List Entry) (state : State) → AreLawful entries state
    → AllText state.names
    → AllText (run_entries entries state).names
text_run [] state lawful texts = texts
text_run (entry ∷ entries) state lawful texts =
    text_run entries (after_entry state entry) lawful.1 (text_entry entry state lawful.0 texts)

-- The first names.

text_first : (tree nodes : List TreeNode) (number : ℕ) → are_placed tree nodes ≡ true
    → AllText (first_names number nodes)
text_first tree [] number placed = tt
text_first tree (node ∷ nodes) number placed =
    let parts = and_parts (is_placed tree node.path) (are_placed tree nodes) placed in
    let here = and_parts (not (is_root node.path) && is_utf8 node.path)
    (is_folder_node (node_at tree (folder_of node.path))) parts.0 in (
      (and_parts (not (is_root node.path)) (is_utf8 node.path) here.0).1,
      text_first tree nodes (next_number node.bytes number) parts.1,
    )

pub text_begins : (first : List TreeNode) → is_first_tree first ≡ true
    → AllText (state_of first).names
text_begins first good =
    text_first first first 0
    (and_parts (are_distinct first) (are_placed first first)
    (and_parts (is_tree first) (are_stamped first) good).0).1

-- What stands behind the last slash of text is text.

behind_if : (b : Bool) (found rest : List ℕ) → IsUtf8 (behind_slash found rest)
    → (b ≡ true → IsUtf8 (behind_slash rest rest))
    → IsUtf8 (if b then behind_slash rest rest else behind_slash found rest)
behind_if true found rest old new = new refl
behind_if false found rest old new = old

some_left : (path rest : List ℕ) (k b : ℕ) → b ∷ rest ≡ drop k path → k < length path
some_left path rest k b is = omega (arith, ap length is, length-drop k path)

front_is : (path rest : List ℕ) (k b : ℕ) → b ∷ rest ≡ drop k path → b ≡ get_or path k 0
front_is path rest k b is =
    let h : k < length path = some_left path rest k b is in
    head_same b (get_or path k 0) rest (drop (suc k) path) (is ∙ drop-cons path k 0 h)
  where
    head_same : (x y : ℕ) (xs ys : List ℕ) → x ∷ xs ≡ y ∷ ys → x ≡ y
    head_same x y xs ys e = cc

rest_is : (path rest : List ℕ) (k b : ℕ) → b ∷ rest ≡ drop k path → rest ≡ drop (suc k) path
rest_is path rest k b is =
    let h : k < length path = some_left path rest k b is in
    tail_same b (get_or path k 0) rest (drop (suc k) path) (is ∙ drop-cons path k 0 h)
  where
    tail_same : (x y : ℕ) (xs ys : List ℕ) → x ∷ xs ≡ y ∷ ys → xs ≡ ys
    tail_same x y xs ys e = cc

slash_boundary : (path : List ℕ) → IsUtf8 path → (k : ℕ) → k < length path → get_or path k 0 ≡ 47
    → IsCharBoundary path (suc k)
slash_boundary path text k there slash =
    subst (λ (n : ℕ). IsCharBoundary path n) (add-one k)
    (IsCharBoundary-after_ascii path k text there (omega (arith, slash)))

behind_text : (path : List ℕ) → IsUtf8 path → (rest found : List ℕ) (k : ℕ) → rest ≡ drop k path
    → IsUtf8 found
    → IsUtf8 (behind_slash found rest)
behind_text path text [] found k is good = good
behind_text path text (b ∷ rest) found k is good =
    let next : rest ≡ drop (suc k) path = rest_is path rest k b is in
    behind_if (b == 47) found rest (behind_text path text rest found (suc k) next good)
    (λ slash. behind_text path text rest rest (suc k) next
    (subst (λ (l : List ℕ). IsUtf8 l) (sym next)
    (IsUtf8-drop path (suc k) text (slash_boundary path text k (some_left path rest k b is)
    (sym (front_is path rest k b is) ∙ eqb-true b 47 slash)))))

pub text_name : (path : List ℕ) → is_utf8 path ≡ true → IsUtf8 (name_of path)
text_name path text =
    let good : IsUtf8 path =
    IsUtf8-from_is_utf8 path text in behind_text path good path path 0 refl good

-- The names in a folder are text.

abbrev pub AllUtf8 : List (List ℕ) → Type 0
AllUtf8 names = Each IsUtf8 names

utf8_insert : (names : List (List ℕ)) (place : ℕ) (name : List ℕ) → AllUtf8 names → IsUtf8 name
    → AllUtf8 (insert names place name)
utf8_insert names zero name texts text = (text, texts)
utf8_insert [] (suc place) name texts text = (text, tt)
utf8_insert (other ∷ names) (suc place) name texts text =
    (texts.0, utf8_insert names place name texts.1 text)

utf8_if : (b : Bool) (found put : List (List ℕ)) → AllUtf8 found → AllUtf8 put
    → AllUtf8 (if b then put else found)
utf8_if true found put old new = new
utf8_if false found put old new = old

path-node_of : (files : List File) (path : List ℕ) (file : Option ℕ)
    → (node_of files path file).path ≡ path
path-node_of files path None = refl
path-node_of files path (Some number) = refl

utf8_more : (files : List File) (names : List Name) (dir : List ℕ) (found : List (List ℕ))
    → AllText names
    → AllUtf8 found
    → AllUtf8
    (more_names found dir (map (λ (name : Name). node_of files name.path name.file) names))
utf8_more files [] dir found texts old = old
utf8_more files (name ∷ names) dir found texts old =
    let path : List ℕ = (node_of files name.path name.file).path in
    utf8_more files names dir _ texts.1
    (utf8_if (bytes_eq (folder_of path) dir) found (put_name (name_of path) found) old
    (utf8_insert found (place_of (name_of path) found) (name_of path) old
    (text_name path (ap is_utf8 (path-node_of files name.path name.file) ∙ texts.0))))

pub utf8_names : (state : State) (dir : List ℕ) → AllText state.names
    → AllUtf8 (names_in (tree_of state) dir)
utf8_names state dir texts = utf8_more state.files state.names dir [] texts tt

pub text_names : (names : List (Held ℕ)) (plain : List (List ℕ))
    → map (λ (name : Held ℕ). name.items) names ≡ plain
    → AllUtf8 plain → AreText names
text_names names plain is texts = go names (subst (λ (l : List (List ℕ)). AllUtf8 l) (sym is) texts)
  where
    go : (l : List (Held ℕ)) → AllUtf8 (map (λ (name : Held ℕ). name.items) l) → AreText l
    go [] h = tt
    go (name ∷ l) h = (h.0, go l h.1)
