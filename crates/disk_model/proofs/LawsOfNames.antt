-- Names have files of their own, and files have stamps of their own.
use Rattle.std.proofs.Common.{◌≡◌, ◌&&◌, ◌||◌, ◌==◌, ◌<◌, ◌≤◌, ◌+◌, ◌++◌, ◌∷◌, ◌∙◌, [], ℕ, zero}
use Rattle.std.proofs.Common.{suc, Bool, true, false, not, List, Option, Some, None, is_some}
use Rattle.std.proofs.Common.{length, take, slice_set, if◌then◌else◌, refl, sym, subst, arith}
use Rattle.std.proofs.Common.{eq-eqb, length-append}
use Rattle.std.proofs.lemmas.Bool.{and_parts}
use Rattle.std.proofs.lemmas.List.{length-set}
use Rattle.std.specs.Str.{bytes_eq}
use Rattle.disk_model.specs.Tree.{TreeNode, are_stamped, has_stamp, is_first_tree, is_own_stamp}
use Rattle.disk_model.specs.Tree.{is_root, is_tree}
use Rattle.disk_model.specs.Journal.{Call, ListDir, StatPath, ReadFront, ReadAll, Create, WriteAt}
use Rattle.disk_model.specs.Journal.{Cut, Sync, Rename, Remove, SyncDir, MakeDir, Done, Refused}
use Rattle.disk_model.specs.Journal.{Action, Appends, Puts, Renames, Removes, Writes, Entry, Own}
use Rattle.disk_model.specs.Journal.{Others}
use Rattle.disk_model.specs.State.{File, Name, State, after_action, after_done, after_entry}
use Rattle.disk_model.specs.State.{after_refused, appended, can_make, can_take, changed, cut_to}
use Rattle.disk_model.specs.State.{durable, file_at, files_of, first_clock, first_files}
use Rattle.disk_model.specs.State.{first_names, is_file, moved, name_at, name_in, next_number}
use Rattle.disk_model.specs.State.{number_of, replaced, run_entries, settled, state_of, with_made}
use Rattle.disk_model.specs.State.{with_names, without, written}
use Rattle.disk_model.proofs.Eaches.{each_append, each_more, each_set, each_without}
use Rattle.disk_model.specs.Laws.{AllBelow, AreNamedOnce, AreStampedOnce, EachNameHasItsFile}
use Rattle.disk_model.specs.Laws.{HasFiles, HasOwn, IsFileBelow, IsNew, IsOther, NamesAreOfFiles}
use Rattle.disk_model.specs.Laws.{Older}

-- Stamps.

-- a stamp above all is none of them
fresh_above : (clock : ℕ) (files : List File) → Older clock files → IsNew clock files
fresh_above clock files h =
    each_more (λ (file : File). file.stamp < clock) (λ (file : File). clock ≡ file.stamp → ⊥)
    (λ file below same. absurd (omega (arith, same, below))) files h

older_more : (clock more : ℕ) (files : List File) → clock ≤ more → Older clock files
    → Older more files
older_more clock more files up h =
    each_more (λ (file : File). file.stamp < clock) (λ (file : File). file.stamp < more)
    (λ file below. omega (arith, below)) files h

older_set : (clock : ℕ) (files : List File) (number : ℕ) (file : File)
    → ((file_at files number).stamp < clock → file.stamp < clock) → Older clock files
    → Older clock (slice_set files number file)
older_set clock files number file new h =
    each_set (λ (f : File). f.stamp < clock) files number (durable [] 0) file new h

older_append : (clock : ℕ) (files more : List File) → Older clock files → Older clock more
    → Older clock (files ++ more)
older_append clock files more h m = each_append (λ (f : File). f.stamp < clock) files more h m

new_set : (stamp : ℕ) (files : List File) (number : ℕ) (file : File)
    → ((stamp ≡ (file_at files number).stamp → ⊥) → stamp ≡ file.stamp → ⊥) → IsNew stamp files
    → IsNew stamp (slice_set files number file)
new_set stamp files number file other h =
    each_set (λ (f : File). stamp ≡ f.stamp → ⊥) files number (durable [] 0) file other h

new_append : (stamp : ℕ) (files more : List File) → IsNew stamp files → IsNew stamp more
    → IsNew stamp (files ++ more)
new_append stamp files more h m = each_append (λ (f : File). stamp ≡ f.stamp → ⊥) files more h m

-- a file with a stamp above all
stamped_set : (clock : ℕ) (files : List File) (number : ℕ) (file : File) → file.stamp ≡ clock
    → Older clock files
    → AreStampedOnce files → AreStampedOnce (slice_set files number file)
stamped_set clock [] number file is old h = tt
stamped_set clock (f ∷ files) zero file is old h =
    (subst (λ (s : ℕ). IsNew s files) (sym is) (fresh_above clock files old.1), h.1)
stamped_set clock (f ∷ files) (suc number) file is old h = (
  new_set f.stamp files number file (λ other same. absurd (omega (arith, same, is, old.0))) h.0,
  stamped_set clock files number file is old.1 h.1,
)

stamped_more : (clock : ℕ) (files : List File) (file : File) → file.stamp ≡ clock
    → Older clock files
    → AreStampedOnce files → AreStampedOnce (files ++ file ∷ [])
stamped_more clock [] file is old h = (tt, tt)
stamped_more clock (f ∷ files) file is old h = (
  new_append f.stamp files (file ∷ []) h.0 ((λ same. absurd (omega (arith, same, is, old.0))), tt),
  stamped_more clock files file is old.1 h.1,
)

-- a file that keeps its stamp
stamped_same : (files : List File) (number : ℕ) (file : File)
    → file.stamp ≡ (file_at files number).stamp
    → AreStampedOnce files → AreStampedOnce (slice_set files number file)
stamped_same [] number file is h = tt
stamped_same (f ∷ files) zero file is h = (subst (λ (s : ℕ). IsNew s files) (sym is) h.0, h.1)
stamped_same (f ∷ files) (suc number) file is h = (
  new_set f.stamp files number file (λ other same. other (same ∙ is)) h.0,
  stamped_same files number file is h.1,
)

-- Numbers.

below_more : (count more : ℕ) (names : List Name) → count ≤ more → AllBelow count names
    → AllBelow more names
below_more count more names up h =
    each_more (λ (name : Name). IsFileBelow count name.file)
    (λ (name : Name). IsFileBelow more name.file)
    (λ name. by_file name.file) names h
  where
    by_file : (file : Option ℕ) → IsFileBelow count file → IsFileBelow more file
    by_file None h = tt
    by_file (Some number) h = omega (arith, h)

below_without : (path : List ℕ) (count : ℕ) (names : List Name) → AllBelow count names
    → AllBelow count (without path names)
below_without path count names h =
    each_without (λ (name : Name). IsFileBelow count name.file) path names h

other_without : (path : List ℕ) (number : ℕ) (names : List Name) → IsOther number names
    → IsOther number (without path names)
other_without path number names h =
    each_without (λ (name : Name). name.file ≡ Some number → ⊥) path names h

own_without : (path : List ℕ) (file : Option ℕ) (names : List Name) → HasOwn file names
    → HasOwn file (without path names)
own_without path None names h = tt
own_without path (Some number) names h = other_without path number names h

once_if : (b : Bool) (name : Name) (rest : List Name) → HasOwn name.file rest → AreNamedOnce rest
    → AreNamedOnce (if b then rest else name ∷ rest)
once_if true name rest here more = more
once_if false name rest here more = (here, more)

once_without : (path : List ℕ) (names : List Name) → AreNamedOnce names
    → AreNamedOnce (without path names)
once_without path [] h = tt
once_without path (name ∷ names) h =
    once_if (bytes_eq name.path path) name (without path names)
    (own_without path name.file names h.0)
    (once_without path names h.1)

-- a number past all files is nobody's
other_file : (file : Option ℕ) (count : ℕ) → IsFileBelow count file → file ≡ Some count → ⊥
other_file None count h is = none_some count is
  where
    none_some : (n : ℕ) → ◌≡◌ {A = Option ℕ} None (Some n) → ⊥
    none_some n e = cc
other_file (Some number) count h is = omega (arith, h, same number count is)
  where
    same : (m n : ℕ) → Some m ≡ Some n → m ≡ n
    same m n e = cc

other_above : (count : ℕ) (names : List Name) → AllBelow count names → IsOther count names
other_above count names h =
    each_more (λ (name : Name). IsFileBelow count name.file)
    (λ (name : Name). name.file ≡ Some count → ⊥)
    (λ name. other_file name.file count) names h

-- The name of a file that is moved.

none_two : (number : ℕ) → ◌≡◌ {A = Option (Option ℕ)} None (Some (Some number)) → ⊥
none_two number e = cc

folder_file : (number : ℕ) → ◌≡◌ {A = Option (Option ℕ)} (Some None) (Some (Some number)) → ⊥
folder_file number e = cc

inner_same : (file : Option ℕ) (number : ℕ) → Some file ≡ Some (Some number) → file ≡ Some number
inner_same file number e = cc

in_names : (names : List Name) (path : List ℕ) (number : ℕ)
    → name_at names path ≡ Some (Some number)
    → name_in names path ≡ Some (Some number)
in_names names path number is = by_root (is_root path) is
  where
    by_root : (b : Bool) → (if b then Some None else name_in names path) ≡ Some (Some number)
        → name_in names path ≡ Some (Some number)
    by_root true is = absurd (folder_file number is)
    by_root false is = is

-- by the first name of a list
by_name : (P : Type 0) (b : Bool) (name : Name) (rest : Option (Option ℕ)) (number : ℕ)
    → (if b then Some name.file else rest) ≡ Some (Some number) → (name.file ≡ Some number → P)
    → (rest ≡ Some (Some number) → P) → P
by_name P true name rest number is here there = here (inner_same name.file number is)
by_name P false name rest number is here there = there is

below_in : (count : ℕ) (names : List Name) (path : List ℕ) (number : ℕ)
    → name_in names path ≡ Some (Some number)
    → AllBelow count names → number < count
below_in count [] path number is h = absurd (none_two number is)
below_in count (name ∷ names) path number is h =
    by_name (number < count) (bytes_eq name.path path) name (name_in names path) number is
    (λ here. subst (λ (f : Option ℕ). IsFileBelow count f) here h.0)
    (λ there. below_in count names path number there h.1)

other_no : (names : List Name) (path : List ℕ) (number : ℕ)
    → name_in names path ≡ Some (Some number)
    → IsOther number names → ⊥
other_no [] path number is h = none_two number is
other_no (name ∷ names) path number is h =
    by_name ⊥ (bytes_eq name.path path) name (name_in names path) number is h.0
    (λ there. other_no names path number there h.1)

other_moved_if : (b : Bool) (path : List ℕ) (name : Name) (names : List Name) (number : ℕ)
    → (if b then Some name.file else name_in names path) ≡ Some (Some number)
    → HasOwn name.file names
    → (name_in names path ≡ Some (Some number) → IsOther number (without path names))
    → IsOther number (if b then without path names else name ∷ without path names)
other_moved_if true path name names number is own rest =
    other_without path number names
    (subst (λ (f : Option ℕ). HasOwn f names) (inner_same name.file number is) own)
other_moved_if false path name names number is own rest = (
  λ same. other_no names path number is (subst (λ (f : Option ℕ). HasOwn f names) same own),
  rest
      is,
)

other_moved : (path : List ℕ) (names : List Name) (number : ℕ)
    → name_in names path ≡ Some (Some number)
    → AreNamedOnce names → IsOther number (without path names)
other_moved path [] number is h = tt
other_moved path (name ∷ names) number is h =
    other_moved_if (bytes_eq name.path path) path name names number is h.0
    (λ there. other_moved path names number there h.1)

-- What each entry leaves.

files_changed : (at : Option (Option ℕ)) (change : ℕ → File → File) (state : State)
    → ((stamp : ℕ) (file : File) → (change stamp file).stamp ≡ stamp) → HasFiles state
    → HasFiles (changed at change state)
files_changed None change state stamps h = h
files_changed (Some None) change state stamps h = h
files_changed (Some (Some number)) change state stamps h =
    let file : File = change state.clock (file_at state.files number) in
    let is : file.stamp ≡ state.clock = stamps state.clock (file_at state.files number) in
    record {
      below = below_more (length state.files) (length (slice_set state.files number file))
          state.names
          (omega (arith, length-set state.files number file)) h.below;
      once = h.once;
      stamps = stamped_set state.clock state.files number file is h.older h.stamps;
      older = older_set (state.clock + 1) state.files number file (λ old. omega (arith, is))
          (older_more state.clock (state.clock + 1) state.files (omega arith) h.older);
    }

files_settled : (at : Option (Option ℕ)) (state : State) → HasFiles state
    → HasFiles (settled at state)
files_settled None state h = h
files_settled (Some None) state h = h
files_settled (Some (Some number)) state h = record {
  below = below_more (length state.files) _ state.names (omega (
    arith,
    length-set state.files number (durable
        (file_at state.files number).bytes (file_at state.files number).stamp),
  )) h.below;
  once = h.once;
  stamps = stamped_same state.files number _ refl h.stamps;
  older = older_set state.clock state.files number _ (λ old. old) h.older;
}

files_moved : (at : Option (Option ℕ)) (from to : List ℕ) (state : State)
    → name_at state.names from ≡ at
    → HasFiles state → HasFiles (moved at from to state)
files_moved None from to state at h = h
files_moved (Some None) from to state at h = h
files_moved (Some (Some number)) from to state at h =
    let is : name_in state.names from ≡ Some (Some number) = in_names state.names from number at in
    record {
      below = (
        below_in (length state.files) state.names from number is h.below,
        below_without to (length state.files) (without from state.names)
            (below_without from (length state.files) state.names h.below),
      );
      once = (
        other_without to number (without from state.names)
            (other_moved from state.names number is h.once),
        once_without to (without from state.names) (once_without from state.names h.once),
      );
      stamps = h.stamps;
      older = h.older;
    }

files_made : (path bytes : List ℕ) (state : State) → HasFiles state
    → HasFiles (with_made path bytes state)
files_made path bytes state h =
    let file : File = durable bytes state.clock in
    let long : length (state.files ++ file ∷ []) ≡ length state.files + 1 =
    length-append state.files (file ∷ []) in
    record {
      below = (
        omega (arith, long),
        below_more (length state.files) _ state.names
            (omega (arith, long)) h.below,
      );
      once = (other_above (length state.files) state.names h.below, h.once);
      stamps = stamped_more state.clock state.files file refl h.older h.stamps;
      older = older_append (state.clock + 1) state.files (file ∷ [])
          (older_more state.clock (state.clock + 1) state.files (omega arith) h.older)
          (omega arith, tt);
    }

files_without : (path : List ℕ) (state : State) → HasFiles state
    → HasFiles (with_names (without path state.names) state)
files_without path state h = record {
  below = below_without path (length state.files) state.names h.below;
  once = once_without path state.names h.once;
  stamps = h.stamps;
  older = h.older;
}

stamp_appended : (piece : List ℕ) (stamp : ℕ) (file : File)
    → (appended piece stamp file).stamp ≡ stamp
stamp_appended [] stamp file = refl
stamp_appended (b ∷ piece) stamp file = refl

files_done : (call : Call) (state : State) → HasFiles state → HasFiles (after_done call state)
files_done (ListDir dir) state h = h
files_done (StatPath path) state h = h
files_done (ReadFront path size) state h = h
files_done (ReadAll path limit) state h = h
files_done (Create path) state h = files_made path [] state h
files_done (WriteAt path at piece) state h =
    files_changed (name_at state.names path) (written at piece) state (λ stamp file. refl) h
files_done (Cut path size) state h =
    files_changed (name_at state.names path) (cut_to size) state (λ stamp file. refl) h
files_done (Sync path) state h = files_settled (name_at state.names path) state h
files_done (Rename from to) state h = files_moved (name_at state.names from) from to state refl h
files_done (Remove path) state h = files_without path state h
files_done (SyncDir dir) state h =
    record { below = h.below; once = h.once; stamps = h.stamps; older = h.older }
files_done (MakeDir path) state h =
    record { below = (tt, h.below); once = (tt, h.once); stamps = h.stamps; older = h.older }

files_if : (b : Bool) (one other : State) → HasFiles one → HasFiles other
    → HasFiles (if b then one else other)
files_if true one other x y = x
files_if false one other x y = y

files_refused : (call : Call) (wrote : ℕ) (state : State) → HasFiles state
    → HasFiles (after_refused call wrote state)
files_refused (ListDir dir) wrote state h = h
files_refused (StatPath path) wrote state h = h
files_refused (ReadFront path size) wrote state h = h
files_refused (ReadAll path limit) wrote state h = h
files_refused (Create path) wrote state h = h
files_refused (WriteAt path at piece) wrote state h =
    files_if (wrote == 0) state
    (changed (name_at state.names path) (written at (take wrote piece)) state) h
    (files_changed (name_at state.names path) (written at (take wrote piece)) state
    (λ stamp file. refl) h)
files_refused (Cut path size) wrote state h = h
files_refused (Sync path) wrote state h = h
files_refused (Rename from to) wrote state h = h
files_refused (Remove path) wrote state h = h
files_refused (SyncDir dir) wrote state h = h
files_refused (MakeDir path) wrote state h = h

files_action : (action : Action) (state : State) → HasFiles state
    → HasFiles (after_action action state)
files_action (Appends path piece) state h =
    files_changed (name_at state.names path) (appended piece) state (stamp_appended piece) h
files_action (Puts path bytes) state h =
    files_if (can_make state.names path) (with_made path bytes state) state
    (files_made path bytes state h) h
files_action (Renames from to) state h =
    files_if (can_take state.names to) (moved (name_at state.names from) from to state) state
    (files_moved (name_at state.names from) from to state refl h) h
files_action (Removes path) state h =
    files_if (is_file (name_at state.names path)) (with_names (without path state.names) state)
    state
    (files_without path state h) h
files_action (Writes path bytes) state h =
    files_changed (name_at state.names path) (replaced bytes) state (λ stamp file. refl) h

files_entry : (entry : Entry) (state : State) → HasFiles state → HasFiles (after_entry state entry)
files_entry (Own call Done) state h = files_done call state h
files_entry (Own call (Refused why wrote)) state h = files_refused call wrote state h
files_entry (Others action) state h =
    let more = files_action action state h in
    record { below = more.below; once = more.once; stamps = more.stamps; older = more.older }

files_run : (entries : List Entry) (state : State) → HasFiles state
    → HasFiles (run_entries entries state)
files_run [] state h = h
files_run (entry ∷ entries) state h =
    files_run entries (after_entry state entry) (files_entry entry state h)

-- The first names and files.

other_first : (nodes : List TreeNode) (number before : ℕ) → before < number
    → IsOther before (first_names number nodes)
other_first [] number before up = tt
other_first (node ∷ nodes) number before up = (
  other_number node.bytes number before up,
  other_first nodes (next_number node.bytes number) before (next_above node.bytes number before up),
)
  where
    some_same : (m n : ℕ) → Some m ≡ Some n → m ≡ n
    some_same m n e = cc

    none_some : (n : ℕ) → ◌≡◌ {A = Option ℕ} None (Some n) → ⊥
    none_some n e = cc

    other_number : (bytes : Option (List ℕ)) (number before : ℕ) → before < number
        → number_of bytes number ≡ Some before → ⊥
    other_number None number before up is = none_some before is
    other_number (Some bytes) number before up is = omega (arith, up, some_same number before is)

    next_above : (bytes : Option (List ℕ)) (number before : ℕ) → before < number
        → before < next_number bytes number
    next_above None number before up = up
    next_above (Some bytes) number before up = omega (arith, up)

own_first : (bytes : Option (List ℕ)) (number : ℕ) (nodes : List TreeNode)
    → HasOwn (number_of bytes number) (first_names (next_number bytes number) nodes)
own_first None number nodes = tt
own_first (Some bytes) number nodes = other_first nodes (number + 1) number (omega arith)

once_first : (nodes : List TreeNode) (number : ℕ) → AreNamedOnce (first_names number nodes)
once_first [] number = tt
once_first (node ∷ nodes) number =
    (own_first node.bytes number nodes, once_first nodes (next_number node.bytes number))

below_node : (bytes : Option (List ℕ)) (stamp number count : ℕ) (rest : List File)
    → number + length (files_of bytes stamp ++ rest) ≤ count
    → IsFileBelow count (number_of bytes number)
below_node None stamp number count rest h = tt
below_node (Some bytes) stamp number count rest h = omega (arith, h)

next_length : (bytes : Option (List ℕ)) (stamp number count : ℕ) (rest : List File)
    → number + length (files_of bytes stamp ++ rest) ≤ count
    → next_number bytes number + length rest ≤ count
next_length None stamp number count rest h = h
next_length (Some bytes) stamp number count rest h = omega (arith, h)

below_first : (nodes : List TreeNode) (number count : ℕ)
    → number + length (first_files nodes) ≤ count
    → AllBelow count (first_names number nodes)
below_first [] number count h = tt
below_first (node ∷ nodes) number count h = (
  below_node node.bytes node.stamp number count (first_files nodes) h,
  below_first nodes (next_number node.bytes number) count
      (next_length node.bytes node.stamp number count (first_files nodes) h),
)

older_node : (bytes : Option (List ℕ)) (stamp clock : ℕ) → stamp < clock
    → Older clock (files_of bytes stamp)
older_node None stamp clock up = tt
older_node (Some bytes) stamp clock up = (up, tt)

older_first : (nodes : List TreeNode) → Older (first_clock nodes) (first_files nodes)
older_first [] = tt
older_first (node ∷ nodes) =
    older_append (first_clock (node ∷ nodes)) (files_of node.bytes node.stamp) (first_files nodes)
    (older_node node.bytes node.stamp (first_clock (node ∷ nodes)) (omega arith))
    (older_more (first_clock nodes) (first_clock (node ∷ nodes)) (first_files nodes) (omega arith)
    (older_first nodes))

or_false : (a b : Bool) → (a || b) ≡ false → (a ≡ false) × (b ≡ false)
or_false true b is = absurd (true_false is)
  where
    true_false : ◌≡◌ {A = Bool} true false → ⊥
    true_false e = cc
or_false false b is = (refl, is)

new_node : (bytes : Option (List ℕ)) (other stamp : ℕ) → (is_some bytes && other == stamp) ≡ false
    → IsNew stamp (files_of bytes other)
new_node None other stamp is = tt
new_node (Some bytes) other stamp is =
    (λ same. absurd (true_false (sym (eq-eqb other stamp (sym same)) ∙ is)), tt)
  where
    true_false : ◌≡◌ {A = Bool} true false → ⊥
    true_false e = cc

new_first : (nodes : List TreeNode) (stamp : ℕ) → has_stamp stamp nodes ≡ false
    → IsNew stamp (first_files nodes)
new_first [] stamp is = tt
new_first (node ∷ nodes) stamp is =
    let parts = or_false (is_some node.bytes && node.stamp == stamp) (has_stamp stamp nodes) is in
    new_append stamp (files_of node.bytes node.stamp) (first_files nodes)
    (new_node node.bytes node.stamp stamp parts.0)
    (new_first nodes stamp parts.1)

not_true : (b : Bool) → not b ≡ true → b ≡ false
not_true true is = sym is
not_true false is = refl

stamped_node : (bytes : Option (List ℕ)) (stamp : ℕ) (nodes : List TreeNode)
    → is_own_stamp bytes stamp nodes ≡ true
    → AreStampedOnce (first_files nodes)
    → AreStampedOnce (files_of bytes stamp ++ first_files nodes)
stamped_node None stamp nodes is h = h
stamped_node (Some bytes) stamp nodes is h =
    (new_first nodes stamp (not_true (has_stamp stamp nodes) is), h)

stamped_first : (nodes : List TreeNode) → are_stamped nodes ≡ true
    → AreStampedOnce (first_files nodes)
stamped_first [] is = tt
stamped_first (node ∷ nodes) is =
    let parts = and_parts (is_own_stamp node.bytes node.stamp nodes) (are_stamped nodes) is in
    stamped_node node.bytes node.stamp nodes parts.0 (stamped_first nodes parts.1)

files_first : (first : List TreeNode) → is_first_tree first ≡ true → HasFiles (state_of first)
files_first first good = record {
  below = below_first first 0 (length (first_files first)) (omega arith);
  once = once_first first 0;
  stamps = stamped_first first (and_parts (is_tree first) (are_stamped first) good).1;
  older = older_first first;
}

pub each_name_has_its_file : EachNameHasItsFile
each_name_has_its_file past mark first =
    files_run (take mark past.journal) (state_of past.first) (files_first past.first first)

pub names_are_of_files : NamesAreOfFiles
names_are_of_files state path number h is =
    let named : name_in state.names path ≡ Some (Some number) =
    in_names state.names path number is in
    record {
      name = is;
      below = below_in (length state.files) state.names path number named h.below;
    }
