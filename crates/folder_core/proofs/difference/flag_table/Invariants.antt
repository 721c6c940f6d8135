use Rattle.std.proofs.Common.{◌≡◌, None, length, replicate}
use Rattle.folder_core.specs.Difference as spec
use Rattle.folder_core.proofs.difference.flag_table.Given as goal

abbrev pub invariant-loop-left : goal.invariant-loop-left
invariant-loop-left l =
    spec.filled l.table.items l.left ≡ spec.filled (replicate l.letters None) l.listing

abbrev pub decreases-loop-left : goal.decreases-loop-left
decreases-loop-left l = length l.left
