use Rattle.std.proofs.Common.{◌≡◌, ◌≤◌, ◌<◌, ℕ, map, true}
use Rattle.folder_drivers.specs.MhAppend as spec
use Rattle.mh_appends.proofs.number.least_free.Given as goal

-- the numbers that were tried are taken
abbrev pub invariant-loop-number : goal.invariant-loop-number
invariant-loop-number l = (other : ℕ) → 1 ≤ other → other < l.number
    → spec.has_number (map (λ name. name.items) l.fn.names) other ≡ true
