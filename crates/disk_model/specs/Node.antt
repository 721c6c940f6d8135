-- Nodes as they are given and shown, which have no stamps.
use Rattle.std.specs.Prelude.{ℕ, List, Option, Some, None}
use Rattle.mail_base.specs.Series.{Held}
use Rattle.disk_model.specs.Tree.{TreeNode}
use Rattle.disk_model.specs.declared.node.Node.{Node}

-- the bytes of a file, without the room of its list
abbrev pub plain_bytes : Option (Held ℕ) → Option (List ℕ)
plain_bytes None = None
plain_bytes (Some bytes) = Some bytes.items

-- a node as part of a tree
abbrev pub plain_node : Node → TreeNode
plain_node node = record { path = node.path.items; bytes = plain_bytes node.bytes; stamp = 0 }
