use Rattle.std.proofs.Common.{◌≡◌, map, length}
use Rattle.disk_model.specs.State.{name_in}
use Rattle.disk_state.specs.Plain.{plain_name}
use Rattle.disk_state.proofs.names.name_in.Given as goal

abbrev pub invariant-loop-left : goal.invariant-loop-left
invariant-loop-left l =
    name_in (map plain_name l.left) l.path ≡ name_in (map plain_name l.names) l.path

abbrev pub decreases-loop-left : goal.decreases-loop-left
decreases-loop-left l = length l.left
