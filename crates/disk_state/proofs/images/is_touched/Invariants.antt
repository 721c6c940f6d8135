use Rattle.std.proofs.Common.{◌≡◌, map, length}
use Rattle.disk_model.specs.Images.{is_touched}
use Rattle.disk_state.specs.Plain.{plain_patch}
use Rattle.disk_state.proofs.images.is_touched.Given as goal

abbrev pub invariant-loop-left : goal.invariant-loop-left
invariant-loop-left l =
    is_touched (map plain_patch l.left) l.place ≡ is_touched (map plain_patch l.touched) l.place

abbrev pub decreases-loop-left : goal.decreases-loop-left
decreases-loop-left l = length l.left
