use Rattle.std.proofs.Common.{◌≡◌, ◌++◌, map, length}
use Rattle.disk_model.specs.Fills.{filled_tree, image_of}
use Rattle.disk_model.specs.Node.{plain_node}
use Rattle.disk_state.specs.Plain.{plain_name, plain_state}
use Rattle.disk_state.proofs.state.State.image.Given as goal

abbrev pub invariant-loop-left : goal.invariant-loop-left
invariant-loop-left l =
    map plain_node l.tree.items
    ++ filled_tree l.fill (plain_state l.self).files (map plain_name l.left)
    ≡ image_of (plain_state l.self) l.names l.fill

abbrev pub decreases-loop-left : goal.decreases-loop-left
decreases-loop-left l = length l.left
