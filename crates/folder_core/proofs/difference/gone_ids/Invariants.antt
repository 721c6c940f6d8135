use Rattle.std.proofs.Common.{◌≡◌, ◌++◌, length, map}
use Rattle.std.specs.List.{filter}
use Rattle.folder_core.specs.Difference as spec
use Rattle.folder_core.proofs.difference.gone_ids.Given as goal

abbrev pub invariant-loop-left : goal.invariant-loop-left
invariant-loop-left l =
    l.gone.items ++ map (λ listed. listed.id) (filter (spec.is_new l.after.items) l.left)
    ≡ map (λ listed. listed.id) (filter (spec.is_new l.after.items) l.old)

abbrev pub decreases-loop-left : goal.decreases-loop-left
decreases-loop-left l = length l.left
