use Rattle.std.proofs.Common.{None}
use Rattle.index_listed.specs.Entries.{Tells}
use Rattle.index_listed.specs.Tree.{nearest}
use Rattle.index_listed.proofs.tree.nearest_of.Given as goal

abbrev pub invariant-loop-place : goal.invariant-loop-place
invariant-loop-place l = Tells None (nearest l.entries) l.place l.nearest.items
