-- For the code alone: what was read of a pattern, as it is held.
use Rattle.std.specs.Prelude.{◌≡◌, ℕ, List, [], ◌∷◌, Option, Some, None, Result, Ok, Err}
use Rattle.std.specs.Prelude.{option_map, reverse, map}
use Rattle.patterns.specs.Faults.{Reading}
use Rattle.patterns.specs.Needs.{made}
use Rattle.patterns.specs.Patterns.{Side, Opened, State}
use Rattle.patterns_match.specs.Trees.{Tree}
use Rattle.patterns.specs.declared.draft.Draft.{Draft}
use Rattle.patterns.specs.declared.read_error.ReadError.{ReadError}
use Rattle.patterns.specs.declared.read_error.ReadError.TheVariants as error
use Rattle.patterns.specs.declared.state.Opened.{Opened as HeldOpened}
use Rattle.patterns.specs.declared.state.Side.{Side as HeldSide}
use Rattle.patterns.specs.declared.state.State.{State as HeldState}

-- the fault of what is read; or memory ran out
abbrev pub Fails : {Y : Type 0} → ReadError → Reading Y → Type 0
Fails (error.Fault fault) expected = expected ≡ Err fault
Fails error.NoMemory expected = Unit {0}

-- what is read, or why it is not
abbrev pub Gives : {X Y : Type 0} → (X → Y) → Result X ReadError → Reading Y → Type 0
Gives view (Ok value) expected = expected ≡ Ok (view value)
Gives view (Err error) expected = Fails error expected

-- the tree that a draft makes
abbrev pub tree_in : Draft → Tree
tree_in draft = made draft.operations.items

-- a side with trees in place of drafts
abbrev pub plain_side : HeldSide → Side
plain_side s = record {
  either = option_map tree_in s.either;
  both = option_map tree_in s.both;
  nots = s.nots;
}

-- the same of an open parenthesis
abbrev pub plain_opened : HeldOpened → Opened
plain_opened o = record {
  place = o.place;
  relation = o.relation;
  before = plain_side o.before;
}

-- the place of the first parenthesis
abbrev pub first_place : List HeldOpened → Option ℕ
first_place [] = None
first_place (o ∷ opened) = Some o.place

-- the parentheses are held with the last one at the end
abbrev pub plain_state : HeldState → State
plain_state s = record {
  side = plain_side s.side;
  opened = reverse (map plain_opened s.opened.items);
}
