use Rattle.std.proofs.Common.{◌≡◌, length}
use Rattle.session_index.specs.Neighbours.{root_of, roots_behind, roots_of as all_roots}
use Rattle.session_index.proofs.neighbours.roots_of.Given as goal

abbrev pub invariant-loop-first : goal.invariant-loop-first
invariant-loop-first l = roots_behind (root_of l.view.answers) l.roots.keys l.left
    ≡ all_roots (root_of l.view.answers) l.ids

abbrev pub decreases-loop-first : goal.decreases-loop-first
decreases-loop-first l = length l.left
