-- What a call of ours met.
use Rattle.std.specs.Prelude.{◌≡◌, ◌≤◌, ℕ, List, None, Option, length}
use Rattle.disk_model.specs.Journal.{Past}
use Rattle.disk_model.specs.Judge.{GoesOn}
use Rattle.disk_model.specs.State.{tree_at}
use Rattle.disk_model.specs.Tree.{TreeNode, node_at}

-- the tree was so at a mark between two marks
pub record MetAt (Is : List TreeNode → Type 0) (m n : ℕ) (past : Past) : Type 0 where
  pub mark : ℕ
  pub from : m ≤ mark
  pub to : mark ≤ n
  pub is : Is (tree_at past mark)

-- a told past goes on so
abbrev pub Met : (List TreeNode → Type 0) → Option Past → Option Past → Type 0
Met Is old new = GoesOn (λ p q. MetAt Is (length p.journal) (length q.journal) q) old new

-- nothing stood at the path once in the call
abbrev pub IsGone : List ℕ → Option Past → Option Past → Type 0
IsGone path old new = Met (λ tree. node_at tree path ≡ None) old new
