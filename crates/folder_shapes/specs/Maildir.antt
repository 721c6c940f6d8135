-- A Maildir as a folder whose messages a stop may leave or not (maildir(5)).
use Rattle.std.specs.Prelude.{ℕ, Bool, true, false, List, [], Option, Some, None, map}
use Rattle.std.specs.Prelude.{codes}
use Rattle.std.specs.Prelude.{is_some, if◌then◌else◌}
use Rattle.std.specs.Cmp.Lexicographic.{slice_cmp}
use Rattle.std.specs.Ordering.{is_lt, nat_cmp, ordering_then}
use Rattle.std.specs.declared.cmp.Ordering.{Ordering}
use Rattle.disk_model.specs.Tree.{TreeNode}
use Rattle.folder_core.specs.Directory.{front_of, path_in}
use Rattle.folder_core.specs.Maildir.{directory, is_shown, maildir_messages}
use Rattle.folder_core.specs.MaildirNames.{order_of, split_name}
use Rattle.folder_stops.specs.Folder.{FileFolder}
use Rattle.folder_stops.specs.Reads.{ReadMessage}
use Rattle.folder_stops.specs.Shape.{Shape}
use Rattle.folder_shapes.specs.Reading.{behind, plain_message}

-- the base of a name that a message may have
abbrev pub name_key : Option (List ℕ) → Option (List ℕ)
name_key None = None
name_key (Some name) = if is_shown name then Some (split_name name).0 else None

-- the first of two, where it is there
abbrev pub or_else : Option (List ℕ) → Option (List ℕ) → Option (List ℕ)
or_else None other = other
or_else (Some bytes) other = Some bytes

-- the name of a path in `cur` or in `new`
abbrev pub name_in : Bool → List ℕ → List ℕ → Option (List ℕ)
name_in in_cur dir path = behind (front_of (directory in_cur dir)) path

-- bases by their orders, and by their bytes where these are the same
abbrev pub base_cmp : List ℕ → List ℕ → Ordering
base_cmp a b = ordering_then (nat_cmp (order_of a) (order_of b)) (slice_cmp nat_cmp a b)

-- one base stands before another in the folder
abbrev pub base_before : List ℕ → List ℕ → Bool
base_before a b = is_lt (base_cmp a b)

-- how the paths of a Maildir are read: each file in `cur` and `new` is a message
abbrev pub maildir_shape : List ℕ → Shape
maildir_shape dir = record {
  counts = λ bytes. true;
  slot = λ path. or_else (name_key (name_in true dir path)) (name_key (name_in false dir path));
  home = λ path. is_some (behind (front_of dir) path);
  before = base_before;
}

-- what a tree is read as
abbrev pub maildir_read : List ℕ → List TreeNode → List ReadMessage
maildir_read dir tree = map plain_message (maildir_messages tree dir)

-- the base of a file in `tmp`, with which a message of ours begins
abbrev pub maildir_making : List ℕ → List ℕ → Option (List ℕ)
maildir_making dir path = name_key (behind (front_of (path_in dir (codes "tmp"))) path)

-- a Maildir at this path
abbrev pub maildir_files : List ℕ → FileFolder
maildir_files dir = record {
  shape = maildir_shape dir;
  reads = maildir_read dir;
  making = maildir_making dir;
  beside = λ made. made;
  sides = [];
  tells_free = false;
}
