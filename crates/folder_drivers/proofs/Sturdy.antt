-- In each state no two paths share a file.
use Rattle.std.proofs.Common.{◌≡◌, ◌<◌, ◌≤◌, ◌+◌, ◌++◌, ◌==◌, ◌⊎◌, ℕ, Bool, true, false, List}
use Rattle.std.proofs.Common.{[], ◌∷◌, Option, Some, None, length, refl, sym, ◌∙◌, ap, subst, arith}
use Rattle.std.proofs.Common.{inl, inr, take, if◌then◌else◌}
use Rattle.disk_model.specs.Tree.{TreeNode}
use Rattle.disk_model.specs.Journal.{Action, Appends, Puts, Removes, Renames, Writes}
use Rattle.disk_model.specs.Journal.{Call, Create, Cut, Done, Entry, ListDir, MakeDir, Others, Own}
use Rattle.disk_model.specs.Journal.{Past, ReadAll, ReadFront, Refused, Remove, Rename, StatPath}
use Rattle.disk_model.specs.Journal.{Sync, SyncDir, WriteAt}
use Rattle.disk_model.specs.State.{File, Name, State, after_action, after_done, after_entry}
use Rattle.disk_model.specs.State.{after_refused, appended, can_make, can_take, changed, cut_to}
use Rattle.disk_model.specs.State.{file_at, files_of, first_files, first_names, is_file, moved}
use Rattle.disk_model.specs.State.{name_at, next_number, number_of, replaced, run_entries, settled}
use Rattle.disk_model.specs.State.{state_after, state_at, state_of, synced, with_folder, with_made}
use Rattle.disk_model.specs.State.{with_names}
use Rattle.disk_model.specs.State.{without, written}
use Rattle.folder_stops.specs.Rows.{Sound}
use Rattle.folder_stops.specs.Words.{Among}
use Rattle.folder_stops.proofs.Sounds.{sound_barrier, sound_less, sound_made, sound_moved}
use Rattle.folder_stops.proofs.Sounds.{sound_push, sound_set}
use Rattle.folder_stops.proofs.Words.{found}

-- no two paths share a file, and each file that is named is there
abbrev pub all_paths : List ℕ → Bool
all_paths path = true

abbrev pub Sturdy : State → Type 0
Sturdy s = Sound all_paths s

none_some : (n : ℕ) → ◌≡◌ {A = Option ℕ} None (Some n) → ⊥
none_some n e = cc

some_same : (k n : ℕ) → ◌≡◌ {A = Option ℕ} (Some k) (Some n) → k ≡ n
some_same k n e = cc

-- The first state.

-- the numbers of names begin at one, and are those of the files
numbers_from : (k : ℕ) (tree : List TreeNode) (x : Name) (n : ℕ) → Among x (first_names k tree)
    → x.file ≡ Some n → (k ≤ n) × (n < k + length (first_files tree))
numbers_from k [] x n held file = absurd held
numbers_from k (node ∷ tree) x n held file =
    by node.bytes held (λ k held. numbers_from k tree x n held file)
  where
    by : (bytes : Option (List ℕ))
        → Among x (record { path = node.path; file = number_of bytes k }
        ∷ first_names (next_number bytes k) tree)
        → ((k : ℕ) → Among x (first_names k tree)
        → (k ≤ n) × (n < k + length (first_files tree)))
        → (k ≤ n) × (n < k + length (files_of bytes node.stamp ++ first_files tree))
    by None (inl is) again =
        absurd (none_some n (sym (ap (λ (y : Name). y.file) is) ∙ file))
    by None (inr rest) again = again k rest
    by (Some bytes) (inl is) again =
        let same : k ≡ n = some_same k n (sym (ap (λ (y : Name). y.file) is) ∙ file) in
        (omega (arith, same), omega (arith, same))
    by (Some bytes) (inr rest) again =
        let r = again (k + 1) rest in (omega (arith, r.0), omega (arith, r.1))

numbers_once : (k : ℕ) (tree : List TreeNode) (x y : Name) (n : ℕ) → Among x (first_names k tree)
    → Among y (first_names k tree) → x.file ≡ Some n → y.file ≡ Some n → x.path ≡ y.path
numbers_once k [] x y n held other file also = absurd held
numbers_once k (node ∷ tree) x y n held other file also =
    by node.bytes held other (λ k held other. numbers_once k tree x y n held other file also)
  where
    first_of : (z : Name) (bytes : Option (List ℕ))
        → z ≡ record { path = node.path; file = number_of bytes k } → z.file ≡ Some n
        → number_of bytes k ≡ Some n
    first_of z bytes is at = sym (ap (λ (w : Name). w.file) is) ∙ at

    apart : (z w : Name) (bytes : Option (List ℕ))
        → z ≡ record { path = node.path; file = number_of bytes k }
        → Among w (first_names (next_number bytes k) tree) → z.file ≡ Some n → w.file ≡ Some n → ⊥
    apart z w None is rest at also = none_some n (first_of z None is at)
    apart z w (Some bytes) is rest at also =
        let same : k ≡ n = some_same k n (first_of z (Some bytes) is at) in
        let low = (numbers_from (k + 1) tree w n rest also).0 in
        omega (arith, same, low)

    by : (bytes : Option (List ℕ))
        → Among x (record { path = node.path; file = number_of bytes k }
        ∷ first_names (next_number bytes k) tree)
        → Among y (record { path = node.path; file = number_of bytes k }
        ∷ first_names (next_number bytes k) tree)
        → ((k : ℕ) → Among x (first_names k tree) → Among y (first_names k tree)
        → x.path ≡ y.path)
        → x.path ≡ y.path
    by bytes (inl is) (inl same) again = ap (λ (w : Name). w.path) (is ∙ sym same)
    by bytes (inl is) (inr rest) again = absurd (apart x y bytes is rest file also)
    by bytes (inr rest) (inl is) again = absurd (apart y x bytes is rest also file)
    by bytes (inr rest) (inr more) again = again (next_number bytes k) rest more

pub sturdy_first : (tree : List TreeNode) → Sturdy (state_of tree)
sturdy_first tree = record {
  below = λ row x n in_rows in_row file. by x n row in_rows in_row file;
  alike = λ row x y n in_rows in_row in_names file other. refl;
  shared = λ x y n held other file also. numbers_once 0 tree x y n held other file also;
}
  where
    by : (x : Name) (n : ℕ) (row : List Name) → (row ≡ first_names 0 tree) ⊎ ⊥ → Among x row
        → x.file ≡ Some n → n < length (first_files tree)
    by x n row (inl is) held file =
        let low = (numbers_from 0 tree x n (subst (Among x) is held) file).1 in
        omega (arith, low)
    by x n row (inr none) held file = absurd none

-- Each entry.

sturdy_changed : (at : Option (Option ℕ)) (change : ℕ → File → File) (s : State) → Sturdy s
    → Sturdy (changed at change s)
sturdy_changed None change s sound = sound
sturdy_changed (Some None) change s sound = sound
sturdy_changed (Some (Some n)) change s sound =
    sound_set all_paths n (change s.clock (file_at s.files n)) (s.clock + 1) s sound

sturdy_settled : (at : Option (Option ℕ)) (s : State) → Sturdy s → Sturdy (settled at s)
sturdy_settled None s sound = sound
sturdy_settled (Some None) s sound = sound
sturdy_settled (Some (Some n)) s sound =
    sound_set all_paths n (synced (file_at s.files n)) s.clock s sound

sturdy_moved : (at : Option (Option ℕ)) (from to : List ℕ) (s : State)
    → name_at s.names from ≡ at → Sturdy s → Sturdy (moved at from to s)
sturdy_moved None from to s is sound = sound
sturdy_moved (Some None) from to s is sound = sound
sturdy_moved (Some (Some n)) from to s is sound =
    sound_moved all_paths from to n s (found from s.names n is) refl sound

sturdy_folder : (path : List ℕ) (s : State) → Sturdy s → Sturdy (with_folder path s)
sturdy_folder path s sound =
    sound_push all_paths (record { path = path; file = None } ∷ s.names) s.files s.clock s sound
    (omega arith)
    (λ x n held file. by x n held file)
    (λ x y n held other file also. once x y n held other file also)
    (λ row y x n in_rows in_row held file also. refl)
  where
    is_old : (x : Name) (n : ℕ) → Among x (record { path = path; file = None } ∷ s.names)
        → x.file ≡ Some n → Among x s.names
    is_old x n (inl is) file = absurd (none_some n (sym (ap (λ (y : Name). y.file) is) ∙ file))
    is_old x n (inr rest) file = rest

    by : (x : Name) (n : ℕ) → Among x (record { path = path; file = None } ∷ s.names)
        → x.file ≡ Some n → n < length s.files
    by x n held file = sound.below s.names x n (inl refl) (is_old x n held file) file

    once : (x y : Name) (n : ℕ) → Among x (record { path = path; file = None } ∷ s.names)
        → Among y (record { path = path; file = None } ∷ s.names) → x.file ≡ Some n
        → y.file ≡ Some n → x.path ≡ y.path
    once x y n held other file also =
        sound.shared x y n (is_old x n held file) (is_old y n other also) file also

sturdy_if : (b : Bool) (s t : State) → Sturdy s → Sturdy t → Sturdy (if b then s else t)
sturdy_if true s t one other = one
sturdy_if false s t one other = other

sturdy_done : (call : Call) (s : State) → Sturdy s → Sturdy (after_done call s)
sturdy_done (ListDir dir) s sound = sound
sturdy_done (StatPath path) s sound = sound
sturdy_done (ReadFront path size) s sound = sound
sturdy_done (ReadAll path limit) s sound = sound
sturdy_done (Create path) s sound = sound_made all_paths path [] s sound
sturdy_done (WriteAt path at piece) s sound =
    sturdy_changed (name_at s.names path) (written at piece) s sound
sturdy_done (Cut path size) s sound =
    sturdy_changed (name_at s.names path) (cut_to size) s sound
sturdy_done (Sync path) s sound = sturdy_settled (name_at s.names path) s sound
sturdy_done (Rename from to) s sound =
    sturdy_moved (name_at s.names from) from to s refl sound
sturdy_done (Remove path) s sound = sound_less all_paths path s sound
sturdy_done (SyncDir dir) s sound = sound_barrier all_paths s sound
sturdy_done (MakeDir path) s sound = sturdy_folder path s sound

sturdy_refused : (call : Call) (wrote : ℕ) (s : State) → Sturdy s
    → Sturdy (after_refused call wrote s)
sturdy_refused (ListDir dir) wrote s sound = sound
sturdy_refused (StatPath path) wrote s sound = sound
sturdy_refused (ReadFront path size) wrote s sound = sound
sturdy_refused (ReadAll path limit) wrote s sound = sound
sturdy_refused (Create path) wrote s sound = sound
sturdy_refused (WriteAt path at piece) wrote s sound =
    sturdy_if (wrote == 0) s (changed (name_at s.names path) (written at (take wrote piece)) s)
    sound (sturdy_changed (name_at s.names path) (written at (take wrote piece)) s sound)
sturdy_refused (Cut path size) wrote s sound = sound
sturdy_refused (Sync path) wrote s sound = sound
sturdy_refused (Rename from to) wrote s sound = sound
sturdy_refused (Remove path) wrote s sound = sound
sturdy_refused (SyncDir dir) wrote s sound = sound
sturdy_refused (MakeDir path) wrote s sound = sound

sturdy_action : (action : Action) (s : State) → Sturdy s → Sturdy (after_action action s)
sturdy_action (Appends path piece) s sound =
    sturdy_changed (name_at s.names path) (appended piece) s sound
sturdy_action (Puts path bytes) s sound =
    sturdy_if (can_make s.names path) (with_made path bytes s) s
    (sound_made all_paths path bytes s sound) sound
sturdy_action (Renames from to) s sound =
    sturdy_if (can_take s.names to) (moved (name_at s.names from) from to s) s
    (sturdy_moved (name_at s.names from) from to s refl sound) sound
sturdy_action (Removes path) s sound =
    sturdy_if (is_file (name_at s.names path)) (with_names (without path s.names) s) s
    (sound_less all_paths path s sound) sound
sturdy_action (Writes path bytes) s sound =
    sturdy_changed (name_at s.names path) (replaced bytes) s sound

pub sturdy_entry : (entry : Entry) (s : State) → Sturdy s → Sturdy (after_entry s entry)
sturdy_entry (Own call Done) s sound = sturdy_done call s sound
sturdy_entry (Own call (Refused why wrote)) s sound = sturdy_refused call wrote s sound
sturdy_entry (Others action) s sound =
    sound_barrier all_paths (after_action action s) (sturdy_action action s sound)

pub sturdy_run : (entries : List Entry) (s : State) → Sturdy s → Sturdy (run_entries entries s)
sturdy_run [] s sound = sound
sturdy_run (entry ∷ entries) s sound =
    sturdy_run entries (after_entry s entry) (sturdy_entry entry s sound)

-- the state at each mark is so
pub sturdy_at : (past : Past) (mark : ℕ) → Sturdy (state_at past mark)
sturdy_at past mark =
    sturdy_run (take mark past.journal) (state_of past.first) (sturdy_first past.first)

-- and so is the last one
pub sturdy_after : (past : Past) → Sturdy (state_after past)
sturdy_after past = sturdy_run past.journal (state_of past.first) (sturdy_first past.first)
