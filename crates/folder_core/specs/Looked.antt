-- What one look at a disk tells, as a driver or the rule of kinds wants it told.
use Rattle.std.specs.Prelude.{◌≡◌, ◌≤◌, ◌<◌, ◌⊎◌, ℕ, Bool, true, false, List, [], ◌∷◌, Option, Some}
use Rattle.std.specs.Prelude.{None, Result, Ok, Err, IfOk, IfErr, IsErrOf, is_some, length, map}
use Rattle.std.specs.Prelude.{take, drop}
use Rattle.mail_base.specs.Faults.{Rose}
use Rattle.disk_model.specs.Answers.{AreText}
use Rattle.disk_model.specs.Journal.{Answer, Call, Own, Past, ReadAll}
use Rattle.disk_model.specs.Judge.{GoesOn, stat_node}
use Rattle.disk_model.specs.Looking.{OnlyLooks}
use Rattle.disk_model.specs.Names.{names_in}
use Rattle.disk_model.specs.Seen.{Seen}
use Rattle.disk_model.specs.State.{tree_at}
use Rattle.disk_model.specs.Tree.{TreeNode, node_at}
use Rattle.disk_model.specs.declared.answers.Stat.{Stat}
use Rattle.folder_core.specs.Directory.{file_at, is_folder_at, stamp_there}
use Rattle.folder_core.specs.declared.error.ScanError.{ScanError}
use Rattle.folder_core.specs.declared.error.ScanError.TheVariants.{Fault, NoMemory}
use Rattle.folder_core.specs.declared.looks.Contents.{Contents}
use Rattle.folder_core.specs.declared.looks.Contents.TheVariants.{Nothing, File, Names}
use Rattle.folder_core.specs.declared.looks.Content.{Content}
use Rattle.folder_core.specs.declared.looks.Content.TheVariants.{NoFile, TooLong, Whole}
use Rattle.folder_core.specs.declared.looks.Front.{Front}
use Rattle.folder_core.specs.declared.looks.Front.TheVariants.{Free, Directory, Begins}

-- the call met a tree of which this is told, at a mark between two pasts
pub record SawAt (call : Call) (Tells : List TreeNode → Type 0) (old new : Past) : Type 0 where
  pub mark : ℕ
  pub from : length old.journal ≤ mark
  pub to : mark ≤ length new.journal
  pub answer : Answer
  pub own : take 1 (drop mark new.journal) ≡ Own call answer ∷ []
  pub tells : Tells (tree_at new mark)

-- What a look gives is told of the tree that it met; it changes nothing, and fails for a fault or
-- for want of memory alone.
pub record Looked {A : Type 0}
    (result : Result A ScanError) (call : Call) (Tells : A → List TreeNode → Type 0)
    (old new : Seen) : Type 0 where
  pub saw : IfOk result (λ given. GoesOn (SawAt call (Tells given)) old.told new.told)
  pub only : OnlyLooks old new
  pub cause : IsErrOf result Fault → Rose old.faults new.faults
  pub errors : IfErr result (λ why. (why ≡ Fault) ⊎ (why ≡ NoMemory))

-- what `stat` tells of a node
abbrev pub node_stat : TreeNode → Stat
node_stat node = stat_node node.bytes node.stamp

-- what `stat` tells of what stands there
abbrev pub stat_there : Option TreeNode → Option Stat
stat_there None = None
stat_there (Some node) = Some (node_stat node)

-- these are the contents of a directory
abbrev pub IsContents : Contents → List TreeNode → List ℕ → Type 0
IsContents Nothing tree dir = node_at tree dir ≡ None
IsContents File tree dir = is_some (file_at tree dir) ≡ true
IsContents (Names names) tree dir =
    (is_folder_at tree dir ≡ true) × (map (λ name. name.items) names.items ≡ names_in tree dir)

-- this is the content of a file, of which more bytes than so many are not read
abbrev pub IsContent : ℕ → Content → List TreeNode → List ℕ → Type 0
IsContent limit NoFile tree path = file_at tree path ≡ None
IsContent limit (TooLong size) tree path =
    (limit < size) × ((bytes : List ℕ) × (file_at tree path ≡ Some bytes) × (size ≡ length bytes))
IsContent limit (Whole read) tree path =
    (file_at tree path ≡ Some read.bytes.items) ×
    (stamp_there (node_at tree path) ≡ read.stat.stamp)
    × (length read.bytes.items ≤ limit)

-- the bytes that were read for it
abbrev pub content_length : Content → ℕ
content_length NoFile = 0
content_length (TooLong size) = 0
content_length (Whole read) = length read.bytes.items

-- the same of an answer
abbrev pub content_read : Result Content ScanError → ℕ
content_read (Ok content) = content_length content
content_read (Err why) = 0

-- what is too long has more bytes than so many, and what was read no more
abbrev pub FitsLimit : ℕ → Content → Type 0
FitsLimit limit NoFile = Unit {0}
FitsLimit limit (TooLong size) = limit < size
FitsLimit limit (Whole read) = length read.bytes.items ≤ limit

-- what stands there begins so
abbrev pub IsFrontOf : Front → List TreeNode → List ℕ → Type 0
IsFrontOf Free tree path = node_at tree path ≡ None
IsFrontOf Directory tree path = is_folder_at tree path ≡ true
IsFrontOf (Begins front) tree path =
    (bytes : List ℕ) × (file_at tree path ≡ Some bytes) × (take 5 bytes ≡ front.items)

-- the names are text
abbrev pub HasText : Contents → Type 0
HasText Nothing = Unit {0}
HasText File = Unit {0}
HasText (Names names) = AreText names.items

-- something stands there
abbrev pub is_there : Contents → Bool
is_there Nothing = false
is_there contents = true

-- something stands there, of which the front was asked for
abbrev pub has_front : Front → Bool
has_front Free = false
has_front front = true

-- the names of a directory are told
abbrev pub is_names : Contents → Bool
is_names Nothing = false
is_names File = false
is_names (Names names) = true

-- a file with these bytes and this stamp was met
abbrev pub FileSeen : List ℕ → List ℕ → ℕ → Past → Past → Type 0
FileSeen path bytes stamp old new =
    (limit : ℕ) × SawAt (ReadAll path limit) (λ tree. (file_at tree path ≡ Some bytes)
    × (stamp_there (node_at tree path) ≡ stamp)) old new

-- no file was met
abbrev pub NoFileSeen : List ℕ → Past → Past → Type 0
NoFileSeen path old new = (limit : ℕ) × SawAt (ReadAll path limit)
    (λ tree. file_at tree path ≡ None) old new

-- a call looks only, and fails for a fault or for want of memory alone
pub record OnlyMeets {A : Type 0} (result : Result A ScanError) (old new : Seen) : Type 0 where
  pub only : OnlyLooks old new
  pub cause : IsErrOf result Fault → Rose old.faults new.faults
  pub errors : IfErr result (λ why. (why ≡ Fault) ⊎ (why ≡ NoMemory))

-- the tree is the one of each mark
abbrev pub IsTreeOfAll : List TreeNode → Past → Past → Type 0
IsTreeOfAll tree old new = (mark : ℕ) → length old.journal ≤ mark → mark ≤ length new.journal
    → tree_at new mark ≡ tree
