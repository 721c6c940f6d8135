-- The clock of a first tree.
use Rattle.std.proofs.Common.{◌≡◌, ◌<◌, ◌≤◌, ◌+◌, ◌++◌, ◌∙◌, ℕ, max, List, [], ◌∷◌, Option, Some}
use Rattle.std.proofs.Common.{None, length, map, sym, ap, arith}
use Rattle.std.proofs.lemmas.List.{append-nil}
use Rattle.disk_model.specs.Node.{plain_node}
use Rattle.disk_model.specs.declared.node.Node.{Node}
use Rattle.disk_state.specs.Plain.{plain_kept}
use Rattle.disk_state.specs.declared.first.Kept.{Kept}
use Rattle.disk_model.specs.Tree.{TreeNode, next_stamp, stamp_of, stamped}
use Rattle.disk_model.specs.State.{first_clock}

-- the stamp behind those of the nodes
abbrev pub end_stamp : ℕ → List TreeNode → ℕ
end_stamp stamp [] = stamp
end_stamp stamp (node ∷ nodes) = end_stamp (next_stamp node.bytes stamp) nodes

clock_node : (bytes : Option (List ℕ)) (stamp rest end : ℕ) → 1 ≤ stamp
    → max (next_stamp bytes stamp) rest ≡ end
    → max stamp (max (stamp_of bytes stamp + 1) rest) ≡ end
clock_node None stamp rest end one is = omega arith
clock_node (Some bytes) stamp rest end one is = omega arith

next_one : (bytes : Option (List ℕ)) (stamp : ℕ) → 1 ≤ stamp → 1 ≤ next_stamp bytes stamp
next_one None stamp one = one
next_one (Some bytes) stamp one = omega arith

clock_end : (nodes : List TreeNode) (stamp : ℕ) → 1 ≤ stamp
    → max stamp (first_clock (stamped stamp nodes)) ≡ end_stamp stamp nodes
clock_end [] stamp one = omega arith
clock_end (node ∷ nodes) stamp one =
    clock_node node.bytes stamp (first_clock (stamped (next_stamp node.bytes stamp) nodes)) _ one
    (clock_end nodes (next_stamp node.bytes stamp) (next_one node.bytes stamp one))

above_one : (nodes : List TreeNode) → 1 ≤ first_clock nodes
above_one [] = omega arith
above_one (node ∷ nodes) = omega (arith, above_one nodes)

pub first_clock-stamped : (nodes : List TreeNode)
    → first_clock (stamped 1 nodes) ≡ end_stamp 1 nodes
first_clock-stamped nodes =
    omega (arith, clock_end nodes 1 (omega arith), above_one (stamped 1 nodes))

-- where all nodes are taken, the stamp is the clock
pub clock_at_end : (left nodes : List Node) (tree : List Kept) (stamp : ℕ) → length left < 1
    → map plain_kept tree ++ stamped stamp (map plain_node left) ≡ stamped 1 (map plain_node nodes)
    → end_stamp stamp (map plain_node left) ≡ end_stamp 1 (map plain_node nodes)
    → stamp ≡ first_clock (map plain_kept tree)
clock_at_end [] nodes tree stamp none so_far end =
    end ∙ sym (first_clock-stamped (map plain_node nodes))
    ∙ ap first_clock (sym so_far ∙ append-nil (map plain_kept tree))
clock_at_end (node ∷ left) nodes tree stamp none so_far end = absurd (omega arith)
