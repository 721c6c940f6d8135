-- An MH folder as one whose messages a stop may leave or not (mh-mail(5)).
use Rattle.std.specs.Prelude.{◌≡◌, ℕ, Bool, true, false, List, [], ◌∷◌, Option, Some, None, map}
use Rattle.std.specs.Prelude.{codes}
use Rattle.std.specs.Prelude.{is_some, if◌then◌else◌}
use Rattle.disk_model.specs.Tree.{TreeNode}
use Rattle.folder_core.specs.Directory.{front_of, path_in}
use Rattle.folder_core.specs.Mh.{comes_before, is_number, mh_messages}
use Rattle.folder_stops.specs.Folder.{FileFolder}
use Rattle.folder_stops.specs.Reads.{ReadMessage}
use Rattle.folder_stops.specs.Shape.{Shape}
use Rattle.folder_shapes.specs.Reading.{behind, plain_message}

-- each name stands before the next, and the first behind this one
abbrev pub Rises : Option (List ℕ) → List (List ℕ) → Type 0
Rises last [] = Unit {0}
Rises None (name ∷ names) = Rises (Some name) names
Rises (Some last) (name ∷ names) = (comes_before last name ≡ true) × Rises (Some name) names

-- a name that is a number
abbrev pub number_key : Option (List ℕ) → Option (List ℕ)
number_key None = None
number_key (Some name) = if is_number name then Some name else None

-- the number of a path in the folder
abbrev pub number_in : List ℕ → List ℕ → Option (List ℕ)
number_in dir path = number_key (behind (front_of dir) path)

-- an empty file is no message
abbrev pub is_message : List ℕ → Bool
is_message [] = false
is_message (b ∷ bytes) = true

-- how the paths of an MH folder are read
abbrev pub mh_shape : List ℕ → Shape
mh_shape dir = record {
  counts = is_message;
  slot = number_in dir;
  home = λ path. is_some (behind (front_of dir) path);
  before = comes_before;
}

-- what a tree is read as
abbrev pub mh_read : List ℕ → List TreeNode → List ReadMessage
mh_read dir tree = map plain_message (mh_messages tree dir)

-- an MH folder at this path: an empty file holds the number of a message that is written beside,
-- and new sequences are written beside too
abbrev pub mh_files : List ℕ → FileFolder
mh_files dir = record {
  shape = mh_shape dir;
  reads = mh_read dir;
  making = number_in dir;
  beside = λ made. path_in dir (codes ".mutt_append");
  sides = path_in dir (codes ".mh_sequences.new") ∷ [];
  tells_free = true;
}
