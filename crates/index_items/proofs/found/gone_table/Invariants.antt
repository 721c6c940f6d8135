use Rattle.std.proofs.Common.{◌≡◌, length, take}
use Rattle.index_items.specs.Found as spec
use Rattle.index_items.proofs.found.gone_table.Given as goal

abbrev pub invariant-loop-place : goal.invariant-loop-place
invariant-loop-place l = (length l.table ≡ l.bound) × spec.HasGone l.table (take l.place l.gone)
