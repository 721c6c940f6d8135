-- What the terms of a pattern ask, as it is held.
use Rattle.std.specs.Prelude.{true, false, List, map}
use Rattle.jiff_core.specs.Date.{epoch_day}
use Rattle.patterns_match.specs.Operations.{operation_map, tree_of}
use Rattle.patterns_match.specs.Ranges.{range_map}
use Rattle.patterns_match.specs.Trees.{Leaf, Tells, Searches, Dated, Counts, Tree}
use Rattle.patterns_match.specs.declared.asked.Asked.{Asked}
use Rattle.patterns_match.specs.declared.asked.Asked.TheVariants as held
use Rattle.patterns_match.specs.declared.asked.Sought.{Sought}
use Rattle.patterns_match.specs.declared.asked.Sought.TheVariants.{Plain, Expression}
use Rattle.patterns_match.specs.declared.letter.Field.{Field}
use Rattle.patterns_match.specs.declared.operation.Operation.{Operation}

-- a search, by what is searched for
abbrev pub plain_search : Field → Sought → Leaf
plain_search field (Plain text) = Searches field true text.items
plain_search field (Expression expr) = Searches field false expr

-- what a term asks, without the rooms of its texts
abbrev pub plain_asked : Asked → Leaf
plain_asked (held.Tells mark) = Tells mark
plain_asked (held.Searches field sought) = plain_search field sought
plain_asked (held.Dated day range) = Dated day (range_map epoch_day range)
plain_asked (held.Counts number range) = Counts number range

-- operations, each without such rooms
abbrev pub asked_operations : List (Operation Asked) → List (Operation Leaf)
asked_operations operations = map (operation_map plain_asked) operations

-- the tree that operations make
abbrev pub asked_tree : List (Operation Asked) → Tree
asked_tree operations = tree_of (asked_operations operations)
