use Rattle.std.proofs.Common.{◌≡◌, map, length}
use Rattle.memory_disk.specs.Plan.{in_order, planned_all}
use Rattle.memory_disk.specs.Plain.{plain_planned}
use Rattle.memory_disk.proofs.plan.plan_of.Given as goal

abbrev pub invariant-loop-left : goal.invariant-loop-left
invariant-loop-left l =
    planned_all (map plain_planned l.plan.items) (map plain_planned l.left)
    ≡ in_order (map plain_planned l.script)

abbrev pub decreases-loop-left : goal.decreases-loop-left
decreases-loop-left l = length l.left
