use Rattle.std.proofs.Common.{◌≡◌, length, map}
use Rattle.folder_drivers.specs.Made as spec
use Rattle.folder_makes.proofs.maildir.has_cur.Given as goal

-- the names that are left tell as all of them
abbrev pub invariant-loop-left : goal.invariant-loop-left
invariant-loop-left l = spec.has_cur (map (λ name. name.items) l.left)
    ≡ spec.has_cur (map (λ name. name.items) l.fn.names)

abbrev pub decreases-loop-left : goal.decreases-loop-left
decreases-loop-left l = length l.left
