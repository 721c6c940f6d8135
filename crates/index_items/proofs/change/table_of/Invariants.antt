use Rattle.std.proofs.Common.{◌≡◌, length, take}
use Rattle.index_items.specs.Changes as spec
use Rattle.index_items.proofs.change.table_of.Given as goal

abbrev pub invariant-loop-place : goal.invariant-loop-place
invariant-loop-place l = (length l.table ≡ l.bound)
    × spec.HasChanges l.table (take l.place l.changes)
