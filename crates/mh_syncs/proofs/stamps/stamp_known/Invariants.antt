use Rattle.std.proofs.Common.{◌≡◌, length}
use Rattle.folder_drivers.specs.MhLeft.{stamp_known}
use Rattle.mh_syncs.proofs.stamps.stamp_known.Given as goal

abbrev pub invariant-loop-left : goal.invariant-loop-left
invariant-loop-left l =
    stamp_known l.left l.stamps_left l.id.0 ≡ stamp_known l.listing l.stamps l.id.0

abbrev pub decreases-loop-left : goal.decreases-loop-left
decreases-loop-left l = length l.left
