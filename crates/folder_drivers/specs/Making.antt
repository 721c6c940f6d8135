-- What the making of a folder may meet at first, and how it may be refused, whatever its kind.
use Rattle.std.specs.Prelude.{◌≡◌, Bool, List, Option, Some, None}
use Rattle.disk_model.specs.Journal.{Entry}
use Rattle.disk_model.specs.State.{State}
use Rattle.disk_model.specs.Tree.{TreeNode}
use Rattle.folder_core.specs.FirstLook.{Look, first_look}
use Rattle.folder_changes.specs.declared.sync_error.SyncError.{SyncError}
use Rattle.folder_changes.specs.declared.sync_error.SyncError.TheVariants.{Fault, NoMemory}
use Rattle.folder_changes.specs.declared.sync_error.SyncError.TheVariants.{NotFolder}

-- the look met such a tree, or one of which that is not so
abbrev pub IsSoAt : (List TreeNode → Bool) → Bool → Option Look → Type 0
IsSoAt is_so value None = ⊥
IsSoAt is_so value (Some look) = is_so look.tree ≡ value

-- there was a first call of ours, and it met such a tree, or one of which that is not so
abbrev pub MetFirst : (List TreeNode → Bool) → Bool → State → List Entry → Type 0
MetFirst is_so value state entries = IsSoAt is_so value (first_look state entries)

-- how the making of a folder may be refused
abbrev pub MakeErrors : SyncError → Type 0
MakeErrors Fault = Unit {0}
MakeErrors NoMemory = Unit {0}
MakeErrors NotFolder = Unit {0}
MakeErrors why = ⊥
