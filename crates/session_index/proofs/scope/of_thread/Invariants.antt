use Rattle.std.proofs.Common.{◌≡◌, ◌++◌, length, nat_eq}
use Rattle.std.specs.List.{filter}
use Rattle.session_index.specs.Meant.{of_thread as all_of}
use Rattle.session_index.specs.Neighbours.{root_of}
use Rattle.session_index.proofs.scope.of_thread.Given as goal

abbrev pub invariant-loop-left : goal.invariant-loop-left
invariant-loop-left l =
    l.ids.items ++ filter (λ id. nat_eq l.root (root_of l.view.answers id)) l.left
    ≡ all_of l.view.answers l.root

abbrev pub decreases-loop-left : goal.decreases-loop-left
decreases-loop-left l = length l.left
