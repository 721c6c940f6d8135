-- Counts that stay at the end of their type.
use Rattle.std.specs.Prelude.{ℕ, ◌+◌, ◌-◌, ◌^◌, min, Result, Err}
use Rattle.disk_model.specs.declared.answers.DiskError.{DiskError}
use Rattle.disk_model.specs.declared.answers.DiskError.TheVariants.{Fault, NoMemory}

-- one more, but for the last value
abbrev pub counted_up : ℕ → ℕ
counted_up count = min (count + 1) (2 ^ 64 - 1)

-- the mark after a call: want of memory is no step
abbrev pub marked : {A : Type 0} → Result A DiskError → ℕ → ℕ
marked (Err NoMemory) count = count
marked result count = counted_up count

-- the faults after a call
abbrev pub faulted : {A : Type 0} → Result A DiskError → ℕ → ℕ
faulted (Err Fault) count = counted_up count
faulted result count = count
