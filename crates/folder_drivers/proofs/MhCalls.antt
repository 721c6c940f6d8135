-- Calls of ours that leave the messages of an MH folder.
use Rattle.std.proofs.Common.{◌≡◌, ◌≢◌, ◌≤◌, ◌<◌, ◌++◌, ◌∷◌, [], ℕ, Bool, true, false, List, Option}
use Rattle.std.proofs.Common.{ap, arith, if◌then◌else◌, length, length-append, ltb-true}
use Rattle.std.proofs.lemmas.Bool.{and_parts}
use Rattle.std.specs.Prelude.{option_and_then, unwrap_or}
use Rattle.disk_model.specs.Journal.{Answer, Call, Own}
use Rattle.disk_model.specs.State.{State, after_entry, tree_of}
use Rattle.disk_model.specs.Tree.{is_folder_node, is_root}
use Rattle.folder_core.specs.Directory.{file_at, front_of, is_folder_at, is_name, node_file}
use Rattle.folder_core.specs.Directory.{path_in}
use Rattle.folder_core.specs.Mh.{is_number, mh_reads, sequences_path}
use Rattle.folder_drivers.proofs.MhMessages.{alike_reads}
use Rattle.folder_drivers.specs.MhAlike.{AreAlike}
use Rattle.folder_drivers.proofs.Sturdy.{Sturdy}
use Rattle.folder_drivers.proofs.Touching.{Misses, own_same, same_node}

-- a path in a directory is longer than that of the directory
pub front_long : (dir : List ℕ) → length dir ≤ length (front_of dir)
front_long dir = by (is_root dir)
  where
    by : (b : Bool) → length dir ≤ length (if b then dir else dir ++ 47 ∷ [])
    by true = omega arith
    by false = omega (arith, length-append dir (47 ∷ []))

name_long : (name : List ℕ) → is_name name ≡ true → 0 < length name
name_long name named = ltb-true 0 (length name) (and_parts _ _ named).0

-- a name's path is not that of its folder
pub no_folder : (path name : List ℕ) → is_name name ≡ true → path_in path name ≢ path
no_folder path name named same =
    let one = name_long name named in
    let long = front_long path in
    omega (arith, one, long, length-append (front_of path) name, ap length same)

-- a call of ours with this answer leaves the messages
abbrev pub LeavesBy : List ℕ → Call → Answer → Type 0
LeavesBy path call answer = (s : State) → Sturdy s
    → mh_reads (tree_of (after_entry s (Own call answer))) path ≡ mh_reads (tree_of s) path

-- a path that a call misses has the same file
pub file_stays : (q : List ℕ) (call : Call) (answer : Answer) (s : State) → Sturdy s → Misses q call
    → file_at (tree_of (after_entry s (Own call answer))) q ≡ file_at (tree_of s) q
file_stays q call answer s sturdy misses =
    ap (option_and_then node_file)
    (same_node q s (after_entry s (Own call answer)) (own_same q call answer s sturdy misses))

pub folder_stays : (q : List ℕ) (call : Call) (answer : Answer) (s : State) → Sturdy s
    → Misses q call
    → is_folder_at (tree_of (after_entry s (Own call answer))) q ≡ is_folder_at (tree_of s) q
folder_stays q call answer s sturdy misses =
    ap is_folder_node
    (same_node q s (after_entry s (Own call answer)) (own_same q call answer s sturdy misses))

-- The call misses the folder and its numbers.
pub record MissesFolder (path : List ℕ) (call : Call) : Type 0 where
  pub folder : Misses path call
  pub numbers : (name : List ℕ) → is_number name ≡ true → Misses (path_in path name) call

pub stays_alike : (path : List ℕ) (call : Call) (answer : Answer) (s : State) → Sturdy s
    → MissesFolder path call
    → AreAlike path (tree_of s) (tree_of (after_entry s (Own call answer)))
stays_alike path call answer s sturdy misses = record {
  folder = folder_stays path call answer s sturdy misses.folder;
  files = λ name number.
      file_stays (path_in path name) call answer s sturdy (misses.numbers name number);
}

-- a call that misses the sequences too leaves the messages
pub misses_leaves : (path : List ℕ) (call : Call) → MissesFolder path call
    → Misses (sequences_path path) call → (answer : Answer) → LeavesBy path call answer
misses_leaves path call misses other answer s sturdy =
    alike_reads path (tree_of s) (tree_of (after_entry s (Own call answer)))
    (stays_alike path call answer s sturdy misses)
    (ap (λ (o : Option (List ℕ)). unwrap_or o [])
    (file_stays (sequences_path path) call answer s sturdy other))
