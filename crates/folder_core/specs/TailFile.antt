-- The tail file beside a mailbox in one file, and the kind that it tells.
use Rattle.std.specs.Prelude.{◌≡◌, ◌≤◌, ◌++◌, ℕ, List, Option, Some, None, codes, take}
use Rattle.std.specs.Prelude.{option_and_then, if◌then◌else◌}
use Rattle.std.specs.Str.{bytes_eq}
use Rattle.mail_base.specs.declared.kind.Kind.{Kind}
use Rattle.mail_base.specs.declared.kind.Kind.TheVariants.{Mbox, Mmdf}
use Rattle.disk_model.specs.Journal.{Past}
use Rattle.disk_model.specs.State.{tree_at}
use Rattle.disk_model.specs.Tree.{TreeNode}
use Rattle.folder_core.specs.Directory.{file_at}

-- the path of the tail file beside a mailbox
abbrev pub tail_path : List ℕ → List ℕ
tail_path path = path ++ codes ".tail"

-- the kind that the first bytes of a tail file tell
abbrev pub head_kind : List ℕ → Option Kind
head_kind head =
    if bytes_eq head (codes "mbox ") then Some Mbox
    else (if bytes_eq head (codes "mmdf ") then Some Mmdf else None)

-- the kind that the bytes of a tail file tell
abbrev pub begun_kind : List ℕ → Option Kind
begun_kind bytes = head_kind (take 5 bytes)

-- the kind that the tail file beside a path tells, where a file is there that tells one
abbrev pub tail_kind : List TreeNode → List ℕ → Option Kind
tail_kind tree path = option_and_then begun_kind (file_at tree (tail_path path))

-- at a mark between two marks a tail file of this kind stood beside the path
pub record WasBegun (kind : Kind) (path : List ℕ) (m n : ℕ) (past : Past) : Type 0 where
  pub mark : ℕ
  pub from : m ≤ mark
  pub to : mark ≤ n
  pub is : tail_kind (tree_at past mark) path ≡ Some kind

-- at a mark between two marks no tail file that tells a kind stood beside the path
pub record HadNoTail (path : List ℕ) (m n : ℕ) (past : Past) : Type 0 where
  pub mark : ℕ
  pub from : m ≤ mark
  pub to : mark ≤ n
  pub none : tail_kind (tree_at past mark) path ≡ None
