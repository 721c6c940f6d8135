use Rattle.std.proofs.Common.{◌≡◌, map, take}
use Rattle.threads.specs.Found.{root_above}
use Rattle.threads.proofs.threads.roots_above.Given as goal

abbrev pub invariant-loop-root : goal.invariant-loop-root
invariant-loop-root l = l.above.items ≡ map (root_above l.parents) (take l.root-index l.roots)
