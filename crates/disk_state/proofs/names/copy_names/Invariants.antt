use Rattle.std.proofs.Common.{◌≡◌, ◌++◌, map, length}
use Rattle.disk_state.specs.Plain.{plain_name}
use Rattle.disk_state.proofs.names.copy_names.Given as goal

abbrev pub invariant-loop-left : goal.invariant-loop-left
invariant-loop-left l =
    map plain_name l.into.items ++ map plain_name l.left
    ≡ map plain_name l.initial.into.items ++ map plain_name l.names

abbrev pub decreases-loop-left : goal.decreases-loop-left
decreases-loop-left l = length l.left
