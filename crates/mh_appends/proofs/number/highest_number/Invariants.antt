use Rattle.std.proofs.Common.{◌≡◌, length, map, max}
use Rattle.folder_drivers.specs.MhAppend as spec
use Rattle.mh_appends.proofs.number.highest_number.Given as goal

-- the highest so far, or of the names that are left, is the highest of all
abbrev pub invariant-loop-left : goal.invariant-loop-left
invariant-loop-left l = max l.highest (spec.highest_number (map (λ name. name.items) l.left))
    ≡ spec.highest_number (map (λ name. name.items) l.fn.names)

abbrev pub decreases-loop-left : goal.decreases-loop-left
decreases-loop-left l = length l.left
