use Rattle.std.proofs.Common.{◌≡◌, ◌≤◌, ◌+◌, ◌++◌, map, length}
use Rattle.disk_model.specs.Node.{plain_node}
use Rattle.disk_model.specs.Tree.{stamped}
use Rattle.disk_state.specs.Plain.{plain_kept}
use Rattle.disk_state.proofs.Firsts.{end_stamp}
use Rattle.disk_state.proofs.first.First.new.Given as goal

abbrev pub invariant-loop-left : goal.invariant-loop-left
invariant-loop-left l = record {
  so_far : map plain_kept l.tree.items ++ stamped l.stamp (map plain_node l.left)
      ≡ stamped 1 (map plain_node l.nodes);
  end : end_stamp l.stamp (map plain_node l.left) ≡ end_stamp 1 (map plain_node l.nodes);
  small : l.stamp + length l.left ≤ 1 + length l.nodes;
}

abbrev pub decreases-loop-left : goal.decreases-loop-left
decreases-loop-left l = length l.left
