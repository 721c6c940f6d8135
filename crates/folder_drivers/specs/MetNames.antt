-- Names that looks of a call have met.
use Rattle.std.specs.Prelude.{◌≡◌, ◌⊎◌, ℕ, List, [], ◌∷◌, ◌++◌, Option, None, Ok, map}
use Rattle.mail_base.specs.Series.{Held}
use Rattle.disk_model.specs.Journal.{Answer, Entry, ListDir, Own, Past}
use Rattle.disk_model.specs.Judge.{list_of}
use Rattle.disk_model.specs.State.{State, run_entries, tree_of}
use Rattle.disk_model.specs.Tree.{TreeNode, node_at}
use Rattle.folder_stops.specs.Along.{Grown}

-- names as plain lists
abbrev pub plain_names : Held (Held ℕ) → List (List ℕ)
plain_names names = map (λ name. name.items) names.items

-- these are the names in the directory, or there are none and nothing stands there
abbrev pub IsListing : List ℕ → List (List ℕ) → List TreeNode → Type 0
IsListing dir names tree =
    (Ok names ≡ list_of tree dir) ⊎ ((names ≡ []) × (node_at tree dir ≡ None))

-- One of our calls met these names in the directory.
pub record MetNames (dir : List ℕ) (names : List (List ℕ)) (state : State) (entries : List Entry)
    : Type 0 where
  pub before : List Entry
  pub answer : Answer
  pub after : List Entry
  pub is : entries ≡ before ++ Own (ListDir dir) answer ∷ after
  pub told : IsListing dir names (tree_of (run_entries before state))

-- The past went on by entries of which that is so.
pub record SawNames (dir : List ℕ) (names : List (List ℕ)) (old new : Option Past) : Type 0 where
  pub grown : Grown old new (MetNames dir names)
