-- Files that stood once.
use Rattle.std.specs.Prelude.{◌≡◌, ◌≤◌, ℕ, List, Option, Some, None, length}
use Rattle.disk_model.specs.Journal.{Past}
use Rattle.disk_model.specs.State.{tree_at}
use Rattle.disk_model.specs.Tree.{node_at}
use Rattle.folder_core.specs.Directory.{file_at, stamp_there}

-- what holds of a past, where one is told
abbrev pub IfTold : (Past → Type 0) → Option Past → Type 0
IfTold Holds None = Unit {0}
IfTold Holds (Some past) = Holds past

-- at a mark of a past a file of these bytes with this stamp stood at a path
pub record Bore (bytes : List ℕ) (stamp : ℕ) (past : Past) : Type 0 where
  pub mark : ℕ
  pub within : mark ≤ length past.journal
  pub path : List ℕ
  pub there : file_at (tree_at past mark) path ≡ Some bytes
  pub stamp_is : stamp_there (node_at (tree_at past mark) path) ≡ stamp
