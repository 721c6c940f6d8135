-- Laws of pasts and of what a stop leaves of them.
use Rattle.std.specs.Prelude.{true, ◌≡◌, ◌<◌, ◌≤◌, ◌⊎◌, ℕ, List, [], ◌∷◌, ◌++◌, Option, Some, None}
use Rattle.std.specs.Prelude.{length, map}
use Rattle.disk_model.specs.Tree.{TreeNode, is_first_tree, is_tree}
use Rattle.disk_model.specs.Journal.{Action, Answer, Call, WriteAt, Sync, Rename, SyncDir, Done}
use Rattle.disk_model.specs.Journal.{Own, Others, Past}
use Rattle.disk_model.specs.State.{File, Name, State, after_entry, file_at, name_at}
use Rattle.disk_model.specs.State.{replaced, state_after, state_at, tree_after, tree_at, tree_of}
use Rattle.disk_model.specs.Lawful.{IsLawful}
use Rattle.disk_model.specs.Images.{IsImage, IsLeft, IsTreeOf}
use Rattle.disk_model.specs.Fills.{image_of}
use Rattle.disk_model.specs.declared.fill.Fill.{Fill}

-- the tree now is an image
abbrev pub NowIsImage : Type 0
NowIsImage = (past : Past) → IsImage (state_after past) (tree_after past)

-- a node without its stamp
abbrev pub unstamped : TreeNode → TreeNode
unstamped node = record { path = node.path; bytes = node.bytes; stamp = 0 }

-- A file that is on the disk as it is.
pub record IsDurable (file : File) : Type 0 where
  pub untouched : file.touched ≡ []
  pub least : file.least ≡ length file.bytes
  pub greatest : file.greatest ≡ length file.bytes

-- All names are on the disk, and all files.
pub record IsSynced (state : State) : Type 0 where
  pub names : state.earlier ≡ []
  pub files : (number : ℕ) → IsDurable (file_at state.files number)

-- what is synced stands as it is
abbrev pub SyncedStands : Type 0
SyncedStands = (state : State) (tree : List TreeNode) → IsSynced state → IsImage state tree
    → map unstamped tree ≡ map unstamped (tree_of state)

-- an image behind a rename is one from before it, or has the names of the rename
abbrev pub RenameIsWhole : Type 0
RenameIsWhole = (state : State) (from to : List ℕ) (tree : List TreeNode)
    → IsImage (after_entry state (Own (Rename from to) Done)) tree
    → IsImage state tree ⊎ IsTreeOf state.files
    (after_entry state (Own (Rename from to) Done)).names tree

-- behind an action of others each image has the names of now
abbrev pub OthersAreBarrier : Type 0
OthersAreBarrier = (state : State) (action : Action) (tree : List TreeNode)
    → IsImage (after_entry state (Others action)) tree
    → IsTreeOf (after_entry state (Others action)).files (after_entry state (Others action)).names
    tree

-- and so behind a folder that was synced
abbrev pub SyncDirIsBarrier : Type 0
SyncDirIsBarrier = (state : State) (dir : List ℕ) (tree : List TreeNode)
    → IsImage (after_entry state (Own (SyncDir dir) Done)) tree
    → IsTreeOf state.files state.names tree

-- a file that others wrote is left as they wrote it
abbrev pub WrittenByOthersStands : Type 0
WrittenByOthersStands =
    (file : File) (bytes left : List ℕ) (stamp : ℕ) → IsLeft (replaced bytes stamp file) left
    → left ≡ bytes

-- at each mark of a lawful past the nodes are those of a tree
abbrev pub EachMarkHasATree : Type 0
EachMarkHasATree =
    (past : Past) (marks mark : ℕ) → IsLawful marks past → is_tree (tree_at past mark) ≡ true

-- what a disk shows as an image is one
abbrev pub ShownIsImage : Type 0
ShownIsImage =
    (past : Past) (count : ℕ) (fill : Fill)
    → IsImage (state_after past) (image_of (state_after past) count fill)

-- Names with files of their own.

-- each of these is so
abbrev pub Each : {A : Type 0} → (A → Type 0) → List A → Type 0
Each IsSo [] = Unit {0}
Each IsSo (x ∷ xs) = IsSo x × Each IsSo xs

-- a file's number is below this one, where it is a file's
abbrev pub IsFileBelow : ℕ → Option ℕ → Type 0
IsFileBelow count None = Unit {0}
IsFileBelow count (Some number) = number < count

-- all numbers of files are below this one
abbrev pub AllBelow : ℕ → List Name → Type 0
AllBelow count names = Each (λ (name : Name). IsFileBelow count name.file) names

-- no name has this file
abbrev pub IsOther : ℕ → List Name → Type 0
IsOther number names = Each (λ (name : Name). name.file ≡ Some number → ⊥) names

-- no name has this one's file, where it is a file's
abbrev pub HasOwn : Option ℕ → List Name → Type 0
HasOwn None names = Unit {0}
HasOwn (Some number) names = IsOther number names

-- no two names have one file
abbrev pub AreNamedOnce : List Name → Type 0
AreNamedOnce [] = Unit {0}
AreNamedOnce (name ∷ names) = HasOwn name.file names × AreNamedOnce names

-- no file has this stamp
abbrev pub IsNew : ℕ → List File → Type 0
IsNew stamp files = Each (λ (file : File). stamp ≡ file.stamp → ⊥) files

-- no two files have one stamp
abbrev pub AreStampedOnce : List File → Type 0
AreStampedOnce [] = Unit {0}
AreStampedOnce (file ∷ files) = IsNew file.stamp files × AreStampedOnce files

-- all stamps are below this one
abbrev pub Older : ℕ → List File → Type 0
Older clock files = Each (λ (file : File). file.stamp < clock) files

-- Each name of a file has a file, no two have one, and no two files have one stamp, nor the next
-- one.
pub record HasFiles (state : State) : Type 0 where
  pub below : AllBelow (length state.files) state.names
  pub once : AreNamedOnce state.names
  pub stamps : AreStampedOnce state.files
  pub older : Older state.clock state.files

-- so it is at each mark of a past that began with a tree
abbrev pub EachNameHasItsFile : Type 0
EachNameHasItsFile =
    (past : Past) (mark : ℕ) → is_first_tree past.first ≡ true → HasFiles (state_at past mark)

-- Pieces that we put at the end of a file.

-- The path is that of a file, the one of that number.
pub record IsNamed (state : State) (path : List ℕ) (number : ℕ) : Type 0 where
  pub name : name_at state.names path ≡ Some (Some number)
  pub below : number < length state.files

-- the bytes of the file of that number
abbrev pub bytes_in : State → ℕ → List ℕ
bytes_in state number = (file_at state.files number).bytes

-- the call that puts a piece behind the bytes of the file of that number
abbrev pub append_call : State → List ℕ → ℕ → List ℕ → Call
append_call state path number piece = WriteAt path (length (bytes_in state number)) piece

-- The bytes of before are left, and behind them any bytes, at most so many.
pub record IsTorn (before : List ℕ) (most : ℕ) (left : List ℕ) : Type 0 where
  pub tail : List ℕ
  pub bytes : left ≡ before ++ tail
  pub within : length tail ≤ most

-- what was on the disk is left whatever that call answers, and of the piece any bytes, no more than
-- it has
abbrev pub AppendedIsTorn : Type 0
AppendedIsTorn =
    (state : State) (path piece left : List ℕ) (number : ℕ) (answer : Answer)
    → IsNamed state path number
    → IsDurable (file_at state.files number)
    → IsLeft (file_at (after_entry state (Own (append_call state path number piece) answer)).files
    number) left
    → IsTorn (bytes_in state number) (length piece) left

-- until it is synced all of these may be left
abbrev pub AppendedMayBeTorn : Type 0
AppendedMayBeTorn =
    (state : State) (path piece left : List ℕ) (number : ℕ) → IsNamed state path number
    → IsDurable (file_at state.files number) → IsTorn (bytes_in state number) (length piece) left
    → IsLeft (file_at (after_entry state (Own (append_call state path number piece) Done)).files
    number) left

-- the state behind a piece that was put there and synced
abbrev pub after_append : State → List ℕ → ℕ → List ℕ → State
after_append state path number piece =
    after_entry (after_entry state (Own (append_call state path number piece) Done))
    (Own (Sync path) Done)

-- once the file is synced, what it had is left and the whole piece, also where the file was not on
-- the disk before
abbrev pub SyncedAppendStands : Type 0
SyncedAppendStands =
    (state : State) (path piece left : List ℕ) (number : ℕ) → IsNamed state path number
    → IsLeft (file_at (after_append state path number piece).files number) left
    → left ≡ bytes_in state number ++ piece

-- where each name has its file, what stands at a path by its number is so named
abbrev pub NamesAreOfFiles : Type 0
NamesAreOfFiles = (state : State) (path : List ℕ) (number : ℕ) → HasFiles state
    → name_at state.names path ≡ Some (Some number) → IsNamed state path number
