use Rattle.std.proofs.Common.{length}
use Rattle.memory_disk.specs.Entering.{Acts}
use Rattle.memory_disk.specs.Plain.{plain_scene}
use Rattle.memory_disk.proofs.entering.act.Given as goal

abbrev pub invariant-loop-alloc : goal.invariant-loop-alloc
invariant-loop-alloc l =
    Acts l.call (plain_scene l.fn.state l.fn.waiting l.fn.plan)
    (plain_scene l.state l.waiting l.plan)

abbrev pub decreases-loop-alloc : goal.decreases-loop-alloc
decreases-loop-alloc l = length l.plan.items
