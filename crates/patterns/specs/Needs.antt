-- For the code alone: what terms ask, as it is held.
use Rattle.std.specs.Prelude.{List, map}
use Rattle.patterns_match.specs.Operations.{operation_map, tree_of}
use Rattle.patterns_match.specs.declared.operation.Operation.{Operation}
use Rattle.jiff_core.specs.Date.{epoch_day}
use Rattle.patterns_match.specs.Ranges.{range_map}
use Rattle.patterns_match.specs.Trees.{Leaf, Tells, Searches, Dated, Counts, Tree}
use Rattle.patterns.specs.declared.need.Need.{Need}
use Rattle.patterns.specs.declared.need.Need.TheVariants as held

-- what a term asks, without the room of its text
abbrev pub plain_need : Need → Leaf
plain_need (held.Tells mark) = Tells mark
plain_need (held.Searches field plain text) = Searches field plain text.items
plain_need (held.Dated day range) = Dated day (range_map epoch_day range)
plain_need (held.Counts number range) = Counts number range

-- operations, each without such a room
abbrev pub plain_operations : List (Operation Need) → List (Operation Leaf)
plain_operations operations = map (operation_map plain_need) operations

-- the tree that operations make
abbrev pub made : List (Operation Need) → Tree
made operations = tree_of (plain_operations operations)
