use Rattle.std.proofs.Common.{◌≡◌, ◌++◌, ◌<◌, length, reverse}
use Rattle.index_listed.specs.Tree.{columns}
use Rattle.index_listed.proofs.tree.Tree.put_columns.Given as goal

abbrev pub invariant-loop-above : goal.invariant-loop-above
invariant-loop-above l = record {
  within : l.place < length l.self;
  done : l.bytes.items ++ reverse (columns l.self l.place)
      ≡ l.initial.bytes.items ++ reverse (columns l.self l.start);
}

abbrev pub decreases-loop-above : goal.decreases-loop-above
decreases-loop-above l = l.place
