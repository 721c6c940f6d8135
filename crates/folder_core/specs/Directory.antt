-- Folders that are directories: paths in them, what stands there, and why they are not listed.
use Rattle.std.specs.Prelude.{◌≡◌, ◌≤◌, ◌-◌, ◌==◌, ◌&&◌, ℕ, Bool, true, false, not, nat_lt, length}
use Rattle.std.specs.Prelude.{List, [], ◌∷◌, ◌++◌, Option, Some, None, is_some, take, drop}
use Rattle.std.specs.Prelude.{option_and_then}
use Rattle.std.specs.Prelude.{if◌then◌else◌}
use Rattle.std.specs.List.{list_any}
use Rattle.disk_model.specs.Journal.{Past, has_foreign}
use Rattle.disk_model.specs.State.{tree_at}
use Rattle.disk_model.specs.Tree.{TreeNode, is_folder_node, is_root, node_at}
use Rattle.folder_letters.specs.Letters.{Mail}
use Rattle.folder_core.specs.Keeping.{AreThere, KeepCores, ListedMail, mails_of}
use Rattle.folder_core.specs.Known.{KnownFolder}
use Rattle.folder_core.specs.Limits.{list_refusal}
use Rattle.folder_core.specs.Message.{Message}
use Rattle.folder_core.specs.declared.error.ScanError.{ScanError}
use Rattle.folder_core.specs.declared.error.ScanError.TheVariants.{Missing, NotMailbox, TooMany}
use Rattle.folder_core.specs.declared.error.ScanError.TheVariants.{TooLarge, Unfinished}
use Rattle.folder_core.specs.declared.error.ScanError.TheVariants.{ArchiveFull, Fault, NoMemory}

-- what stands before a name in a directory; the empty path is the directory that we are in
abbrev pub front_of : List ℕ → List ℕ
front_of dir = if is_root dir then dir else dir ++ 47 ∷ []

-- the path of a name in a directory
abbrev pub path_in : List ℕ → List ℕ → List ℕ
path_in dir name = front_of dir ++ name

-- a name in a directory is not empty and has no slash
abbrev pub is_name : List ℕ → Bool
is_name name = nat_lt 0 (length name) && not (list_any (λ b. b == 47) name)

-- the bytes of a node that is a file
abbrev pub node_file : TreeNode → Option (List ℕ)
node_file node = node.bytes

-- the bytes of the file at a path, where one stands there
abbrev pub file_at : List TreeNode → List ℕ → Option (List ℕ)
file_at tree path = option_and_then node_file (node_at tree path)

-- a folder stands at the path
abbrev pub is_folder_at : List TreeNode → List ℕ → Bool
is_folder_at tree path = is_folder_node (node_at tree path)

-- the stamp of what stands there
abbrev pub stamp_there : Option TreeNode → ℕ
stamp_there None = 0
stamp_there (Some node) = node.stamp

-- nobody else acted between two marks
abbrev pub AloneBetween : ℕ → ℕ → Past → Type 0
AloneBetween m n past = has_foreign (take (n - m) (drop m past.journal)) ≡ false

-- at a mark between two marks nothing stood at the path
pub record WasMissing (path : List ℕ) (m n : ℕ) (past : Past) : Type 0 where
  pub mark : ℕ
  pub from : m ≤ mark
  pub to : mark ≤ n
  pub nothing : node_at (tree_at past mark) path ≡ None

-- at a mark between two marks something stood at the path that was no folder of the kind
pub record WasNoFolder (is_of_kind : List TreeNode → List ℕ → Bool) (path : List ℕ) (m n : ℕ)
    (past : Past) : Type 0 where
  pub mark : ℕ
  pub from : m ≤ mark
  pub to : mark ≤ n
  pub there : is_some (node_at (tree_at past mark) path) ≡ true
  pub other : is_of_kind (tree_at past mark) path ≡ false

-- a folder reads as these messages, each with its bytes where it was not known
abbrev pub ReadsAs : (List TreeNode → List ℕ → Option (List Message)) → List ℕ → List (Option ℕ)
    → List Message → List TreeNode → Type 0
ReadsAs reads path keeps messages tree =
    (there : List Message) × ((reads tree path ≡ Some there) × AreThere keeps messages there)

-- How a scan of a directory may find its messages: some were known before, as the kind keeps them,
-- and hold what their letters hold.
pub record Finds (keep : List ListedMail → List ℕ → List Message → List ℕ → List (Option ℕ))
    (Saw : List (Option ℕ) → List Message → List ℕ → Type 0) (mails : List Mail)
    (known : KnownFolder) (keeps : List (Option ℕ)) (messages : List Message)
    (stamps : List ℕ) : Type 0 where
  pub kept : keeps ≡ keep (mails_of mails known.listing) known.stamps messages stamps
  pub cores : KeepCores (λ raw. raw) mails keeps messages
  pub saw : Saw keeps messages stamps

-- messages that would be listed were not for this cause
pub record WasPastLimit (Sees : List (Option ℕ) → List Message → List ℕ → Type 0) (letters : ℕ)
    (why : ScanError) : Type 0 where
  pub messages : List Message
  pub keeps : List (Option ℕ)
  pub stamps : List ℕ
  pub sees : Sees keeps messages stamps
  pub refused : list_refusal letters keeps messages ≡ Some why

-- why a directory was not listed between two marks, by what is a folder of its kind and by what a
-- scan would list
abbrev pub DirectoryRefused : (List TreeNode → List ℕ → Bool)
    → (List (Option ℕ) → List Message → List ℕ → Type 0) → ℕ → List ℕ → ScanError → ℕ → ℕ → Past
    → Type 0
DirectoryRefused is_of_kind Sees letters path Missing m n past = WasMissing path m n past
DirectoryRefused is_of_kind Sees letters path (NotMailbox place) m n past =
    (place ≡ 0) × WasNoFolder is_of_kind path m n past
DirectoryRefused is_of_kind Sees letters path (TooMany count) m n past =
    WasPastLimit Sees letters (TooMany count)
DirectoryRefused is_of_kind Sees letters path (TooLarge bytes) m n past =
    WasPastLimit Sees letters (TooLarge bytes)
DirectoryRefused is_of_kind Sees letters path ArchiveFull m n past =
    WasPastLimit Sees letters ArchiveFull
DirectoryRefused is_of_kind Sees letters path Unfinished m n past = ⊥
DirectoryRefused is_of_kind Sees letters path Fault m n past = Unit {0}
DirectoryRefused is_of_kind Sees letters path NoMemory m n past = Unit {0}
