-- Trees in which an MH folder has the same numbered files.
use Rattle.std.specs.Prelude.{◌≡◌, ℕ, true, List}
use Rattle.disk_model.specs.Tree.{TreeNode}
use Rattle.folder_core.specs.Directory.{file_at, is_folder_at, path_in}
use Rattle.folder_core.specs.Mh.{is_number}

-- The folder stands, and its numbered files, as they stood.
pub record AreAlike (path : List ℕ) (old new : List TreeNode) : Type 0 where
  pub folder : is_folder_at new path ≡ is_folder_at old path
  pub files : (name : List ℕ) → is_number name ≡ true
      → file_at new (path_in path name) ≡ file_at old (path_in path name)
