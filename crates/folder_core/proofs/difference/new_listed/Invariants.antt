use Rattle.std.proofs.Common.{◌≡◌, ◌++◌, length}
use Rattle.std.specs.List.{filter}
use Rattle.folder_core.specs.Difference as spec
use Rattle.folder_core.proofs.difference.new_listed.Given as goal

abbrev pub invariant-loop-left : goal.invariant-loop-left
invariant-loop-left l =
    l.came.items ++ filter (spec.is_new l.table) l.left ≡ filter (spec.is_new l.table) l.listing

abbrev pub decreases-loop-left : goal.decreases-loop-left
decreases-loop-left l = length l.left
