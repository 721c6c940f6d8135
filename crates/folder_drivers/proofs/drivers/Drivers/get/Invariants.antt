use Rattle.std.proofs.Common.{◌≡◌, ◌<◌, ℕ, slice_index_or}
use Rattle.folder_drivers.proofs.drivers.Drivers.get.Given as goal

-- none of the drivers so far is of the kind
abbrev pub invariant-loop-driver : goal.invariant-loop-driver
invariant-loop-driver g l =
    (k : ℕ) (d : _) → k < l.driver-index → slice_index_or l.driver-items k d ≡ d
    → (goal.Driver-dyn g (d.vtable, d.value)).sort d.value ≡ l.kind → ⊥
