use Rattle.std.proofs.Common.{◌≡◌, map, take}
use Rattle.threads.specs.Walk.{root_in}
use Rattle.threads.proofs.walk.roots_in.Given as goal

abbrev pub invariant-loop-mark : goal.invariant-loop-mark
invariant-loop-mark l = l.roots.items ≡ map root_in (take l.mark-index l.marks)
