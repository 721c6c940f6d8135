-- Folders with one file a message, as a driver keeps them.
use Rattle.std.specs.Prelude.{◌≡◌, ℕ, Bool, true, false, List, Option, None}
use Rattle.disk_model.specs.Tree.{TreeNode, is_root}
use Rattle.folder_stops.specs.Reads.{IsReading, ReadMessage}
use Rattle.folder_stops.specs.Shape.{IsWellFormed, Shape}

-- A folder: how its paths are read, what a tree is read as, the key of a message of ours that
-- begins with a file, the path where such a message is written, the side files that others leave
-- alone, and whether the making of its first file tells that its key was free.
pub record FileFolder : Type 0 where
  pub shape : Shape
  pub reads : List TreeNode → List ReadMessage
  pub making : List ℕ → Option (List ℕ)
  pub beside : List ℕ → List ℕ
  pub sides : List (List ℕ)
  pub tells_free : Bool

-- Its shape is that of a folder, and its trees are read by it.
pub record IsFolder (folder : FileFolder) : Type 0 where
  pub formed : IsWellFormed folder.shape
  pub reading : IsReading folder.shape folder.reads

-- What a side file must be: inside the folder, at a path of no message.
pub record IsSide (shape : Shape) (path : List ℕ) : Type 0 where
  pub apart : shape.slot path ≡ None
  pub no_root : is_root path ≡ false
  pub inside : shape.home path ≡ true
