-- What the first look of a call has found at a path: the first own entry behind those of others.
use Rattle.std.specs.Prelude.{◌≡◌, ◌↔◌, Bool, true, false, ℕ, List, [], ◌∷◌, Option, Some, None}
use Rattle.std.specs.Prelude.{Result, Ok, Err, IsErrOf, is_some, length, drop, if◌then◌else◌}
use Rattle.disk_model.specs.Journal.{Answer, Refused, Entry, Own, Others, Past}
use Rattle.disk_model.specs.State.{State, after_entry, state_after, tree_of}
use Rattle.disk_model.specs.Tree.{TreeNode, node_at}
use Rattle.disk_model.specs.declared.answers.DiskError.TheVariants.{Fault as DiskFault}
use Rattle.folder_core.specs.declared.error.ScanError.{ScanError}
use Rattle.folder_core.specs.declared.error.ScanError.TheVariants.{Missing, Fault, NoMemory}

-- the tree that a look met, and how it was answered
pub record Look : Type 0 where
  pub tree : List TreeNode
  pub answer : Answer

-- the first own entry of these, which begin at a state
abbrev pub first_look : State → List Entry → Option Look
first_look state [] = None
first_look state (Own call answer ∷ entries) =
    Some (record { tree = tree_of state; answer = answer })
first_look state (Others action ∷ entries) =
    first_look (after_entry state (Others action)) entries

-- the disk failed
abbrev pub has_failed : Answer → Bool
has_failed (Refused DiskFault wrote) = true
has_failed answer = false

-- whether something stood at a path, by a look that did not fail
abbrev pub found_by : List ℕ → Option Look → Option Bool
found_by path None = None
found_by path (Some look) =
    if has_failed look.answer then None else Some (is_some (node_at look.tree path))

-- the same by the first look between the ends of two journals, of which the second goes on from the
-- first
abbrev pub found_first : List ℕ → Past → Past → Option Bool
found_first path old new =
    found_by path (first_look (state_after old) (drop (length old.journal) new.journal))

-- the answer tells of what stands at the path
abbrev pub tells_of_path : {A : Type 0} → Result A ScanError → Bool
tells_of_path (Ok given) = true
tells_of_path (Err Missing) = false
tells_of_path (Err Fault) = false
tells_of_path (Err NoMemory) = false
tells_of_path (Err why) = true

-- Missing is answered exactly where nothing stood at the path at the first look, and what tells of
-- the path only where something stood there at that look.
pub record TellsMissing {A : Type 0} (result : Result A ScanError) (path : List ℕ)
    (old new : Past) : Type 0 where
  pub missing : IsErrOf result Missing ↔ (found_first path old new ≡ Some false)
  pub there : tells_of_path result ≡ true → found_first path old new ≡ Some true

-- For the code alone.

-- a look found out whether something stands at the path; one that gives nothing did not find that
-- nothing stands there
abbrev pub FindsFirst : {A : Type 0} → (A → Bool) → Result A ScanError → List ℕ → Past → Past
    → Type 0
FindsFirst is_there (Ok given) path old new = found_first path old new ≡ Some (is_there given)
FindsFirst is_there (Err why) path old new = found_first path old new ≡ Some false → ⊥
