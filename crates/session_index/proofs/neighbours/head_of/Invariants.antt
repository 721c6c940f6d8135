use Rattle.std.proofs.Common.{◌≡◌, length}
use Rattle.session_index.specs.Neighbours.{head_of as head, root_of}
use Rattle.session_index.proofs.neighbours.head_of.Given as goal

abbrev pub invariant-loop-left : goal.invariant-loop-left
invariant-loop-left l = head (root_of l.view.answers) l.left l.root
    ≡ head (root_of l.view.answers) l.ids l.root

abbrev pub decreases-loop-left : goal.decreases-loop-left
decreases-loop-left l = length l.left
