use Rattle.std.proofs.Common.{◌≡◌, length, map}
use Rattle.folder_drivers.specs.MhAppend as spec
use Rattle.mh_appends.proofs.number.has_number.Given as goal

-- the names that are left tell as all of them
abbrev pub invariant-loop-left : goal.invariant-loop-left
invariant-loop-left l = spec.has_number (map (λ name. name.items) l.left) l.number
    ≡ spec.has_number (map (λ name. name.items) l.fn.names) l.fn.number

abbrev pub decreases-loop-left : goal.decreases-loop-left
decreases-loop-left l = length l.left
