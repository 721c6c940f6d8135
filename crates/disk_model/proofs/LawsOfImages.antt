-- The laws of images.
use Rattle.std.proofs.Common.{◌≡◌, ◌==◌, ◌<◌, ◌⊎◌, ◌++◌, ◌∷◌, ◌∙◌, [], ℕ, zero, suc, Bool, true}
use Rattle.std.proofs.Common.{false, List, Option, Some, None, length, map, take, slice_index}
use Rattle.std.proofs.Common.{slice_set, if◌then◌else◌, refl, ap, ◌-◌, nat_lt, slice_index_or}
use Rattle.std.proofs.Common.{subst, arith, inl, inr}
use Rattle.disk_model.specs.Tree.{TreeNode}
use Rattle.disk_model.specs.Journal.{Action, Appends, Puts, Renames, Removes, Writes, Call, ListDir}
use Rattle.disk_model.specs.Journal.{StatPath, ReadFront, ReadAll, Create, WriteAt, Cut, Sync}
use Rattle.disk_model.specs.Journal.{Rename, Remove, SyncDir, MakeDir, Done, Refused, Entry, Own}
use Rattle.disk_model.specs.Journal.{Others}
use Rattle.disk_model.specs.State.{File, Name, Patch, State, after_action, after_done, after_entry}
use Rattle.disk_model.specs.State.{after_refused, appended, can_make, can_take, changed, cut_to}
use Rattle.disk_model.specs.State.{durable, file_at, files_of, first_files, is_file, moved, name_at}
use Rattle.disk_model.specs.State.{node_of, replaced, run_entries, settled, state_after, state_of}
use Rattle.disk_model.specs.State.{with_made, with_names, without, written}
use Rattle.disk_model.specs.Images.{IsImage, IsLeft, IsLeftAt, IsOneOf, IsTreeOf, is_touched}
use Rattle.disk_model.proofs.LawsOfFills.{IsKept, filled_left, kept_appended, kept_cut}
use Rattle.disk_model.proofs.LawsOfFills.{kept_durable, kept_written}
use Rattle.disk_model.proofs.Eaches.{each_append, each_at, each_set}
use Rattle.disk_model.specs.Laws.{Each, IsDurable, NowIsImage, OthersAreBarrier, RenameIsWhole}
use Rattle.disk_model.specs.Laws.{SyncDirIsBarrier, ShownIsImage, SyncedStands}
use Rattle.disk_model.specs.Laws.{WrittenByOthersStands, unstamped}
use Rattle.disk_model.specs.Fills.{filled, filled_at, filled_tree, names_after}
use Rattle.disk_model.specs.declared.fill.Fill.{Fill}
use borrow.Author.Tests.{ltb-true}

-- Each file keeps what a stop surely leaves of it.

abbrev AllWithin : List File → Type 0
AllWithin files = Each IsKept files

file_within : (files : List File) (number : ℕ) → AllWithin files → IsKept (file_at files number)
file_within files number h = each_at IsKept files number (durable [] 0) (kept_durable [] 0) h

set_within : (files : List File) (number : ℕ) (file : File) → AllWithin files → IsKept file
    → AllWithin (slice_set files number file)
set_within files number file h new = each_set IsKept files number (durable [] 0) file (λ old. new) h

append_within : (files more : List File) → AllWithin files → AllWithin more
    → AllWithin (files ++ more)
append_within files more h m = each_append IsKept files more h m

-- Each entry keeps it.

abbrev Keeps : (ℕ → File → File) → Type 0
Keeps change = (stamp : ℕ) (file : File) → IsKept file → IsKept (change stamp file)

changed_within : (at : Option (Option ℕ)) (change : ℕ → File → File) (state : State) → Keeps change
    → AllWithin state.files → AllWithin (changed at change state).files
changed_within None change state keeps h = h
changed_within (Some None) change state keeps h = h
changed_within (Some (Some number)) change state keeps h =
    set_within state.files number _ h
    (keeps state.clock (file_at state.files number) (file_within state.files number h))

settled_within : (at : Option (Option ℕ)) (state : State) → AllWithin state.files
    → AllWithin (settled at state).files
settled_within None state h = h
settled_within (Some None) state h = h
settled_within (Some (Some number)) state h = set_within state.files number _ h (kept_durable _ _)

moved_within : (at : Option (Option ℕ)) (from to : List ℕ) (state : State) → AllWithin state.files
    → AllWithin (moved at from to state).files
moved_within None from to state h = h
moved_within (Some None) from to state h = h
moved_within (Some (Some number)) from to state h = h

made_within : (bytes : List ℕ) (state : State) → AllWithin state.files
    → AllWithin (state.files ++ durable bytes state.clock ∷ [])
made_within bytes state h = append_within state.files _ h (kept_durable bytes state.clock, tt)

done_within : (call : Call) (state : State) → AllWithin state.files
    → AllWithin (after_done call state).files
done_within (ListDir dir) state h = h
done_within (StatPath path) state h = h
done_within (ReadFront path size) state h = h
done_within (ReadAll path limit) state h = h
done_within (Create path) state h = made_within [] state h
done_within (WriteAt path at piece) state h =
    changed_within (name_at state.names path) (written at piece) state (kept_written at piece) h
done_within (Cut path size) state h =
    changed_within (name_at state.names path) (cut_to size) state (kept_cut size) h
done_within (Sync path) state h = settled_within (name_at state.names path) state h
done_within (Rename from to) state h = moved_within (name_at state.names from) from to state h
done_within (Remove path) state h = h
done_within (SyncDir dir) state h = h
done_within (MakeDir path) state h = h

if_within : (b : Bool) (one other : State) → AllWithin one.files → AllWithin other.files
    → AllWithin (if b then one else other).files
if_within true one other x y = x
if_within false one other x y = y

refused_within : (call : Call) (wrote : ℕ) (state : State) → AllWithin state.files
    → AllWithin (after_refused call wrote state).files
refused_within (ListDir dir) wrote state h = h
refused_within (StatPath path) wrote state h = h
refused_within (ReadFront path size) wrote state h = h
refused_within (ReadAll path limit) wrote state h = h
refused_within (Create path) wrote state h = h
refused_within (WriteAt path at piece) wrote state h =
    if_within (wrote == 0) state
    (changed (name_at state.names path) (written at (take wrote piece)) state) h
    (changed_within (name_at state.names path) (written at (take wrote piece)) state
    (kept_written at (take wrote piece)) h)
refused_within (Cut path size) wrote state h = h
refused_within (Sync path) wrote state h = h
refused_within (Rename from to) wrote state h = h
refused_within (Remove path) wrote state h = h
refused_within (SyncDir dir) wrote state h = h
refused_within (MakeDir path) wrote state h = h

action_within : (action : Action) (state : State) → AllWithin state.files
    → AllWithin (after_action action state).files
action_within (Appends path piece) state h =
    changed_within (name_at state.names path) (appended piece) state (kept_appended piece) h
action_within (Puts path bytes) state h =
    if_within (can_make state.names path) (with_made path bytes state) state
    (made_within bytes state h) h
action_within (Renames from to) state h =
    if_within (can_take state.names to) (moved (name_at state.names from) from to state) state
    (moved_within (name_at state.names from) from to state h) h
action_within (Removes path) state h =
    if_within (is_file (name_at state.names path)) (with_names (without path state.names) state)
    state h h
action_within (Writes path bytes) state h =
    changed_within (name_at state.names path) (replaced bytes) state
    (λ stamp file w. kept_durable bytes stamp) h

entry_within : (entry : Entry) (state : State) → AllWithin state.files
    → AllWithin (after_entry state entry).files
entry_within (Own call Done) state h = done_within call state h
entry_within (Own call (Refused why wrote)) state h = refused_within call wrote state h
entry_within (Others action) state h = action_within action state h

run_within : (entries : List Entry) (state : State) → AllWithin state.files
    → AllWithin (run_entries entries state).files
run_within [] state h = h
run_within (entry ∷ entries) state h =
    run_within entries (after_entry state entry) (entry_within entry state h)

node_within : (bytes : Option (List ℕ)) (stamp : ℕ) → AllWithin (files_of bytes stamp)
node_within None stamp = tt
node_within (Some bytes) stamp = (kept_durable bytes stamp, tt)

first_within : (tree : List TreeNode) → AllWithin (first_files tree)
first_within [] = tt
first_within (node ∷ tree) =
    append_within (files_of node.bytes node.stamp) (first_files tree)
    (node_within node.bytes node.stamp)
    (first_within tree)

-- The tree now is an image.

left_now : (file : File) → IsKept file → IsLeft file file.bytes
left_now file h =
    record { no_shorter = h.above; no_longer = h.bytes; untouched = λ place there free. refl }

node_left : (files : List File) (path : List ℕ) (file : Option ℕ) → AllWithin files
    → ((node_of files path file).path ≡ path) × IsLeftAt files file (node_of files path file).bytes
node_left files path None h = (refl, refl)
node_left files path (Some number) h = (
  refl,
  (
    (file_at files number).bytes,
    refl,
    left_now (file_at files number)
        (file_within files number h),
  ),
)

tree_left : (files : List File) (names : List Name) → AllWithin files
    → IsTreeOf files names (map (λ (name : Name). node_of files name.path name.file) names)
tree_left files [] h = tt
tree_left files (name ∷ names) h =
    let node = node_left files name.path name.file h in (node.0, node.1, tree_left files names h)

pub now_is_image : NowIsImage
now_is_image past = record {
  names = (state_after past).names;
  stand = inl refl;
  contents =
      tree_left (state_after past).files (state_after past).names
      (run_within past.journal (state_of past.first) (first_within past.first));
}

-- What is shown is an image.

shown_node : (fill : Fill) (files : List File) (file : Option ℕ) → AllWithin files
    → IsLeftAt files file (filled_at fill files file)
shown_node fill files None h = refl
shown_node fill files (Some number) h = (
  filled fill (file_at files number),
  refl,
  filled_left fill (file_at files number)
      (file_within files number h),
)

shown_tree : (fill : Fill) (files : List File) (names : List Name) → AllWithin files
    → IsTreeOf files names (filled_tree fill files names)
shown_tree fill files [] h = tt
shown_tree fill files (name ∷ names) h =
    (refl, shown_node fill files name.file h, shown_tree fill files names h)

row_of : (rows : List (List Name)) (place : ℕ) → place < length rows
    → IsOneOf (slice_index_or rows place []) rows
row_of [] place there = absurd (omega arith)
row_of (row ∷ rows) zero there = inl refl
row_of (row ∷ rows) (suc place) there = inr (row_of rows place (omega arith))

stands_if : (state : State) (count : ℕ) (b : Bool) → nat_lt count (length state.earlier) ≡ b
    → IsOneOf
    (if b then slice_index_or state.earlier (length state.earlier - 1 - count) []
    else state.names)
    (state.names ∷ state.earlier)
stands_if state count true is =
    let some : count < length state.earlier = ltb-true count (length state.earlier) is in
    inr (row_of state.earlier (length state.earlier - 1 - count) (omega (arith, some)))
stands_if state count false is = inl refl

pub shown_is_image : ShownIsImage
shown_is_image past count fill = record {
  names = names_after (state_after past) count;
  stand = stands_if (state_after past) count (nat_lt count (length (state_after past).earlier))
      refl;
  contents =
      shown_tree fill (state_after past).files (names_after (state_after past) count)
      (run_within past.journal (state_of past.first) (first_within past.first));
}

-- Bytes that are the same at each place.

suc_place : (x y : ℕ) (xs ys : List ℕ)
    → ((place : ℕ) → place < length (y ∷ ys)
    → slice_index (x ∷ xs) place ≡ slice_index (y ∷ ys) place)
    → (place : ℕ) → place < length ys → slice_index xs place ≡ slice_index ys place
suc_place x y xs ys same place there = same (suc place) (omega arith)

pub same_bytes : (xs ys : List ℕ) → length xs ≡ length ys
    → ((place : ℕ) → place < length ys → slice_index xs place ≡ slice_index ys place) → xs ≡ ys
same_bytes [] [] long same = refl
same_bytes [] (y ∷ ys) long same = absurd (omega (arith, long))
same_bytes (x ∷ xs) [] long same = absurd (omega (arith, long))
same_bytes (x ∷ xs) (y ∷ ys) long same =
    let head : x ≡ y = same 0 (omega arith) in
    let tail : xs ≡ ys = same_bytes xs ys (omega (arith, long)) (suc_place x y xs ys same) in
    ap (λ (z : ℕ). z ∷ xs) head ∙ ap (λ (l : List ℕ). y ∷ l) tail

-- a durable file is left as it is
pub left_durable : (file : File) (left : List ℕ) → IsDurable file → IsLeft file left
    → left ≡ file.bytes
left_durable file left d h =
    let long : length left ≡ length file.bytes =
    omega (arith, d.least, d.greatest, h.no_shorter, h.no_longer) in
    same_bytes left file.bytes long
    (λ place there. h.untouched place (omega (arith, long))
    (ap (λ (patches : List Patch). is_touched patches place) d.untouched))

pub written_by_others_stands : WrittenByOthersStands
written_by_others_stands file bytes left stamp h =
    left_durable (replaced bytes stamp file) left
    (record { untouched = refl; least = refl; greatest = refl }) h

-- What is synced stands.

node_stands : (files : List File) (name : Name) (node : TreeNode)
    → ((number : ℕ) → IsDurable (file_at files number))
    → node.path ≡ name.path → IsLeftAt files name.file node.bytes
    → unstamped node ≡ unstamped (node_of files name.path name.file)
node_stands files name node whole path left = by_file name.file left
  where
    by_file : (file : Option ℕ) → IsLeftAt files file node.bytes
        → unstamped node ≡ unstamped (node_of files name.path file)
    by_file None left =
        ap (λ (p : List ℕ). record { path = p; bytes = node.bytes; stamp = 0 }) path
        ∙ ap (λ (b : Option (List ℕ)). record { path = name.path; bytes = b; stamp = 0 }) left
    by_file (Some number) left =
        ap (λ (p : List ℕ). record { path = p; bytes = node.bytes; stamp = 0 }) path
        ∙ ap (λ (b : Option (List ℕ)). record { path = name.path; bytes = b; stamp = 0 })
        (left.1 ∙ ap (λ (l : List ℕ). Some l)
        (left_durable (file_at files number) left.0 (whole number) left.2))

tree_stands : (files : List File) (names : List Name) (tree : List TreeNode)
    → ((number : ℕ) → IsDurable (file_at files number)) → IsTreeOf files names tree
    → map unstamped tree
    ≡ map unstamped (map (λ (name : Name). node_of files name.path name.file) names)
tree_stands files [] [] whole h = refl
tree_stands files [] (node ∷ tree) whole h = absurd h
tree_stands files (name ∷ names) [] whole h = absurd h
tree_stands files (name ∷ names) (node ∷ tree) whole h =
    ap (λ (n : TreeNode). n ∷ map unstamped tree) (node_stands files name node whole h.0 h.1)
    ∙ ap (λ (l : List TreeNode). unstamped (node_of files name.path name.file) ∷ l)
    (tree_stands files names tree whole h.2)

-- where no earlier row is left, the names are those of now
only_names : (names now : List Name) (earlier : List (List Name)) → earlier ≡ []
    → IsOneOf names (now ∷ earlier)
    → names ≡ now
only_names names now [] none (inl same) = same
only_names names now [] none (inr more) = absurd more
only_names names now (row ∷ earlier) none stand = absurd (cc)

now_alone : (state : State) (tree : List TreeNode) → state.earlier ≡ [] → IsImage state tree
    → IsTreeOf state.files state.names tree
now_alone state tree none image =
    subst (λ (names : List Name). IsTreeOf state.files names tree)
    (only_names image.names state.names state.earlier none image.stand) image.contents

pub synced_stands : SyncedStands
synced_stands state tree s image =
    tree_stands state.files state.names tree s.files (now_alone state tree s.names image)

pub others_are_barrier : OthersAreBarrier
others_are_barrier state action tree image =
    now_alone (after_entry state (Others action)) tree refl image

pub sync_dir_is_barrier : SyncDirIsBarrier
sync_dir_is_barrier state dir tree image =
    now_alone (after_entry state (Own (SyncDir dir) Done)) tree refl image

-- A rename is whole.

by_row : (state : State) (now : List Name) (tree : List TreeNode) (names : List Name)
    → IsOneOf names (now ∷ state.names ∷ state.earlier) → IsTreeOf state.files names tree
    → IsImage state tree ⊎ IsTreeOf state.files now tree
by_row state now tree names (inl same) contents =
    inr (subst (λ (l : List Name). IsTreeOf state.files l tree) same contents)
by_row state now tree names (inr stand) contents =
    inl (record { names = names; stand = stand; contents = contents })

renamed : (at : Option (Option ℕ)) (from to : List ℕ) (state : State) (tree : List TreeNode)
    → IsImage (moved at from to state) tree
    → IsImage state tree ⊎ IsTreeOf state.files (moved at from to state).names tree
renamed None from to state tree image = inl image
renamed (Some None) from to state tree image = inl image
renamed (Some (Some number)) from to state tree image =
    by_row state (record { path = to; file = Some number } ∷ without to (without from state.names))
    tree image.names
    image.stand image.contents

pub rename_is_whole : RenameIsWhole
rename_is_whole state from to tree image =
    renamed (name_at state.names from) from to state tree image
