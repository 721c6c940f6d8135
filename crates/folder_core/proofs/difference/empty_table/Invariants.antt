use Rattle.std.proofs.Common.{◌≡◌, ◌++◌, None, replicate}
use Rattle.folder_core.proofs.difference.empty_table.Given as goal

abbrev pub invariant-loop-left : goal.invariant-loop-left
invariant-loop-left l = l.table.items ++ replicate l.left None ≡ replicate l.letters None

abbrev pub decreases-loop-left : goal.decreases-loop-left
decreases-loop-left l = l.left
