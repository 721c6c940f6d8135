-- How a pattern is asked of all messages at once, operation by operation.
use Rattle.std.specs.Prelude.{◌≡◌, ◌<◌, ◌==◌, ◌&&◌, ◌||◌, ◌∷◌, ℕ, ℤ, Bool, false, List}
use Rattle.std.specs.Prelude.{length, slice_get, slice_index_or, take}
use Rattle.std.specs.List.{list_any, range_with_len}
use Rattle.std.specs.Option.{option_map_or}
use Rattle.people.specs.People.{PlainPeople}
use Rattle.patterns_match.specs.Listings.{Message}
use Rattle.patterns_match.specs.Machine.{run}
use Rattle.patterns_match.specs.Operations.{tree_of}
use Rattle.patterns_match.specs.Satisfies.{asks_at, has_child, is_place, passes, satisfies}
use Rattle.patterns_match.specs.Satisfies.{some_related}
use Rattle.patterns_match.specs.Trees.{Leaf, Tells, Tree}
use Rattle.patterns_match.specs.declared.all.Turn.{Turn}
use Rattle.patterns_match.specs.declared.letter.Mark.TheVariants.{Childless}
use Rattle.patterns_match.specs.declared.operation.Operation.{Operation}
use Rattle.patterns_match.specs.declared.operation.Operation.TheVariants as operation
use Rattle.patterns_match.specs.declared.relation.Relation.{Relation}
use Rattle.patterns_match.specs.declared.relation.Relation.TheVariants.{Thread, Parent, Child}

-- For the code alone.

-- a message marks this place: its root, itself, or its parent, for those that ask of their thread,
-- their parent, or their children
abbrev pub points : Relation → ℕ → ℕ → Message → Bool
points Thread at place m = m.root == at
points Parent at place m = place == at
points Child at place m = is_place at m.parent

-- the same of the message at a place
abbrev pub points_at : List Message → Relation → ℕ → ℕ → Bool
points_at listing relation at place = passes (points relation at place) (slice_get listing place)

-- a message marks where it points, and the other marks stay
pub record Marks (listing : List Message) (relation : Relation) (place : ℕ) (old new : List Bool)
    : Type 0 where
  pub long : length new ≡ length old
  pub each : (at : ℕ) → slice_index_or new at false
      ≡ (slice_index_or old at false || points_at listing relation at place)

-- the places that those of the first messages have marked which satisfy a pattern
pub record AreMarks (listing : List Message) (relation : Relation) (answers : List Bool) (count : ℕ)
    (marked : List Bool) : Type 0 where
  pub long : length marked ≡ length listing
  pub each : (at : ℕ) → slice_index_or marked at false
      ≡ list_any (λ place. points_at listing relation at place
      && slice_index_or answers place false) (range_with_len 0 count)

-- the place at which a message looks is marked: its root, its parent, or itself
abbrev pub is_marked : List Message → Relation → List Bool → ℕ → Bool
is_marked listing Thread marked place =
    passes (λ m. slice_index_or marked m.root false) (slice_get listing place)
is_marked listing Parent marked place =
    passes (λ m. option_map_or (λ parent. slice_index_or marked parent false) m.parent false)
    (slice_get listing place)
is_marked listing Child marked place = slice_index_or marked place false

-- for each of the first messages, whether one that is so related to it satisfies a pattern, given
-- which do
pub record AreRelated (listing : List Message) (relation : Relation) (answers : List Bool)
    (count : ℕ) (found : List Bool) : Type 0 where
  pub long : length found ≡ count
  pub each : (place : ℕ) → place < count → slice_index_or found place false
      ≡ some_related listing relation place (λ other. slice_index_or answers other false)

-- what an operation asks of others, for the message at a place: whether one that is so related
-- satisfies a pattern, or whether it has a child
abbrev pub others_at : PlainPeople → ℤ → List Message → Operation Leaf → List (Operation Leaf) → ℕ
    → Bool
others_at people offset listing (operation.Others relation n) rest place =
    some_related listing relation place (satisfies people offset listing (tree_of (take n rest)))
others_at people offset listing (operation.Ask (Tells Childless)) rest place =
    has_child listing place
others_at people offset listing _ rest place = false

-- the turn of the message at a place
abbrev pub turn_at : List Turn → ℕ → Turn
turn_at turns place = slice_index_or turns place (record { held = false; skip = 0 })

-- the same for each message that does not skip the operation
abbrev pub AreFound : PlainPeople → ℤ → List Message → Operation Leaf → List (Operation Leaf)
    → List Turn → List Bool → Type 0
AreFound people offset listing operation rest turns found = (place : ℕ) → place < length listing
    → (turn_at turns place).skip ≡ 0
    → slice_index_or found place false ≡ others_at people offset listing operation rest place

-- the answer behind operations for the message at a place, from its turn on
abbrev pub behind : PlainPeople → ℤ → List Message → ℕ → Turn → List (Operation Leaf) → Bool
behind people offset listing place turn operations =
    run (asks_at people offset listing place)
    (λ relation t. some_related listing relation place (satisfies people offset listing t))
    turn.skip turn.held operations

-- the operations that are left lead each message from its turn to its answer
pub record Lead (people : PlainPeople) (offset : ℤ) (listing : List Message) (tree : Tree)
    (turns : List Turn) (operations : List (Operation Leaf)) : Type 0 where
  pub long : length turns ≡ length listing
  pub each : (place : ℕ) → place < length listing
      → behind people offset listing place (turn_at turns place) operations
      ≡ satisfies people offset listing tree place

-- of the first messages one operation was asked
abbrev pub AreNext : PlainPeople → ℤ → List Message → Operation Leaf → List Bool → List Turn
    → List Turn → ℕ → Type 0
AreNext people offset listing operation found turns next count = (rest : List (Operation Leaf))
    → AreFound people offset listing operation rest turns found → (place : ℕ) → place < count
    → behind people offset listing place (turn_at turns place) (operation ∷ rest)
    ≡ behind people offset listing place (turn_at next place) rest
