use Rattle.std.proofs.Common.{◌≡◌, ◌≤◌, ◌+◌, map, length}
use Rattle.memory_disk.specs.Plan.{place_before}
use Rattle.memory_disk.specs.Plain.{plain_planned}
use Rattle.memory_disk.proofs.plan.place_in.Given as goal

abbrev pub invariant-loop-left : goal.invariant-loop-left
invariant-loop-left l = record {
  place :
      l.place + place_before l.before_call (map plain_planned l.left)
      ≡ place_before l.before_call (map plain_planned l.plan);
  within : l.place + length l.left ≤ length l.plan;
}

abbrev pub decreases-loop-left : goal.decreases-loop-left
decreases-loop-left l = length l.left
