use Rattle.index_listed.specs.Tree.{AreLast}
use Rattle.index_listed.proofs.tree.last_of.Given as goal

abbrev pub invariant-loop-place : goal.invariant-loop-place
invariant-loop-place l = AreLast l.entries l.place l.last.items
