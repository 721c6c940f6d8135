-- Why a call is refused at the tree that it meets.
use Rattle.std.specs.Prelude.{ℕ, List, Option, Some, None, length, is_none, nat_lt, if◌then◌else◌}
use Rattle.disk_model.specs.Tree.{TreeNode, folder_of, node_at}
use Rattle.disk_model.specs.Journal.{Call, ListDir, StatPath, ReadFront, ReadAll, Create, WriteAt}
use Rattle.disk_model.specs.Journal.{Cut, Sync, Rename, Remove, SyncDir, MakeDir}
use Rattle.disk_model.specs.declared.answers.DiskError.{DiskError}
use Rattle.disk_model.specs.declared.answers.DiskError.TheVariants.{Missing, WrongNode, Exists}
use Rattle.disk_model.specs.declared.answers.DiskError.TheVariants.{Long}

-- the first refusal of two
abbrev pub first_refusal : Option DiskError → Option DiskError → Option DiskError
first_refusal None next = next
first_refusal (Some why) next = Some why

-- By what stands at a path.

-- something must stand there
abbrev pub missing_refusal : Option TreeNode → Option DiskError
missing_refusal None = Some Missing
missing_refusal (Some node) = None

-- a file must stand there
abbrev pub file_refusal : Option TreeNode → Option DiskError
file_refusal None = Some Missing
file_refusal (Some node) = if is_none node.bytes then Some WrongNode else None

-- a folder must stand there
abbrev pub folder_refusal : Option TreeNode → Option DiskError
folder_refusal None = Some Missing
folder_refusal (Some node) = if is_none node.bytes then None else Some WrongNode

-- the folder of what is to be made must stand there: below a file all is missing
abbrev pub below_refusal : Option TreeNode → Option DiskError
below_refusal None = Some Missing
below_refusal (Some node) = if is_none node.bytes then None else Some Missing

-- nothing may stand there
abbrev pub free_refusal : Option TreeNode → Option DiskError
free_refusal None = None
free_refusal (Some node) = Some Exists

-- no folder may stand there
abbrev pub target_refusal : Option TreeNode → Option DiskError
target_refusal None = None
target_refusal (Some node) = if is_none node.bytes then Some WrongNode else None

-- at most so many bytes
abbrev pub length_refusal : ℕ → Option (List ℕ) → Option DiskError
length_refusal limit None = None
length_refusal limit (Some bytes) =
    if nat_lt limit (length bytes) then Some (Long (length bytes)) else None

-- a file of at most so many bytes, where one must stand
abbrev pub long_refusal : ℕ → Option TreeNode → Option DiskError
long_refusal limit None = None
long_refusal limit (Some node) = length_refusal limit node.bytes

-- By the tree.

-- something is to be made at the path
abbrev pub make_refusal : List TreeNode → List ℕ → Option DiskError
make_refusal tree path = first_refusal (below_refusal (node_at tree (folder_of path)))
    (free_refusal (node_at tree path))

-- a file is to be moved
abbrev pub rename_refusal : List TreeNode → List ℕ → List ℕ → Option DiskError
rename_refusal tree from to =
    first_refusal (missing_refusal (node_at tree from))
    (first_refusal (below_refusal (node_at tree (folder_of to)))
    (first_refusal (file_refusal (node_at tree from)) (target_refusal (node_at tree to))))

-- why the tree refuses a call, where it does
abbrev pub refusal : Call → List TreeNode → Option DiskError
refusal (ListDir dir) tree = folder_refusal (node_at tree dir)
refusal (StatPath path) tree = missing_refusal (node_at tree path)
refusal (ReadFront path size) tree = file_refusal (node_at tree path)
refusal (ReadAll path limit) tree =
    first_refusal (file_refusal (node_at tree path)) (long_refusal limit (node_at tree path))
refusal (Create path) tree = make_refusal tree path
refusal (WriteAt path at piece) tree = file_refusal (node_at tree path)
refusal (Cut path size) tree = file_refusal (node_at tree path)
refusal (Sync path) tree = file_refusal (node_at tree path)
refusal (Rename from to) tree = rename_refusal tree from to
refusal (Remove path) tree = file_refusal (node_at tree path)
refusal (SyncDir dir) tree = folder_refusal (node_at tree dir)
refusal (MakeDir path) tree = make_refusal tree path
