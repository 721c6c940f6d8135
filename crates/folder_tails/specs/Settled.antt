-- What an opening makes of a mailbox in one file that a stop has left.
use Rattle.std.specs.Prelude.{ℕ, Bool, false, List, [], ◌∷◌, ◌++◌, length, take, Option}
use Rattle.std.specs.Prelude.{Some, None, nat_le, if◌then◌else◌}
use Rattle.std.specs.Str.{bytes_eq}
use Rattle.disk_model.specs.Tree.{TreeNode, node_at}
use Rattle.folder_tails.specs.Sides.{lock_of, tail_of, tmp_of}
use Rattle.folder_tails.specs.Tails.{read_tail}

-- the bytes of what stands at a path, where it is a file
abbrev pub held_by : Option TreeNode → Option (List ℕ)
held_by None = None
held_by (Some node) = node.bytes

-- a lock with this content passes the test: where no lock is there, it is not
abbrev pub is_ours : (List ℕ → Bool) → Option (List ℕ) → Bool
is_ours ours None = false
is_ours ours (Some line) = ours line

-- the file with its tail put in place, where that lies in the file
abbrev pub joined : List ℕ → Option (ℕ × List ℕ) → List ℕ
joined bytes None = bytes
joined bytes (Some tail) = if nat_le tail.0 (length bytes) then take tail.0 bytes ++ tail.1 else
    bytes

-- the file as it is settled by a tail file with this content
abbrev pub finished : List ℕ → Option (List ℕ) → List ℕ
finished bytes None = bytes
finished bytes (Some text) = joined bytes (read_tail text)

-- the bytes of the mailbox, by what its path, its tail file and its lock hold: a tail file counts
-- under a lock that is ours
abbrev pub settled_from : (List ℕ → Bool) → Option (List ℕ) → Option (List ℕ) → Option (List ℕ)
    → Option (List ℕ)
settled_from ours None tail lock = None
settled_from ours (Some bytes) tail lock =
    Some (if is_ours ours lock then finished bytes tail else bytes)

-- the bytes to which a tree settles at a path
abbrev pub settled_bytes : (List ℕ → Bool) → List ℕ → List TreeNode → Option (List ℕ)
settled_bytes ours path tree =
    settled_from ours (held_by (node_at tree path)) (held_by (node_at tree (tail_of path)))
    (held_by (node_at tree (lock_of path)))

-- The tree as a whole.

-- the nodes without those at a path
abbrev pub less : List ℕ → List TreeNode → List TreeNode
less path [] = []
less path (node ∷ tree) = if bytes_eq node.path path then less path tree else node ∷ less path tree

-- the nodes with these bytes in the file at a path
abbrev pub with_bytes : List ℕ → Option (List ℕ) → List TreeNode → List TreeNode
with_bytes path bytes [] = []
with_bytes path bytes (node ∷ tree) =
    if bytes_eq node.path path then record node { bytes = bytes } ∷ tree
    else node ∷ with_bytes path bytes tree

-- the tree to which a tree settles: under a lock that is ours the file is finished, and the names
-- beside it are gone
abbrev pub settled : (List ℕ → Bool) → List ℕ → List TreeNode → List TreeNode
settled ours path tree =
    if is_ours ours (held_by (node_at tree (lock_of path)))
    then with_bytes path (settled_bytes ours path tree)
    (less (lock_of path) (less (tmp_of path) (less (tail_of path) tree)))
    else tree
