-- How the operations of a pattern are asked, with what is skipped.
use Rattle.std.specs.Prelude.{◌≡◌, ◌<◌, ℕ, zero, suc, ℤ, Bool, true, not, List, [], ◌∷◌, length}
use Rattle.std.specs.Prelude.{take, if◌then◌else◌}
use Rattle.std.specs.List.{list_all}
use Rattle.people.specs.People.{PlainPeople}
use Rattle.patterns_match.specs.Listings.{Message}
use Rattle.patterns_match.specs.Leaves.{passes, takes_none}
use Rattle.patterns_match.specs.Operations.{IsCode, code, tree_of}
use Rattle.patterns_match.specs.Satisfies.{asks_at, satisfies, some_related}
use Rattle.patterns_match.specs.Trees.{Leaf, Tree}
use Rattle.patterns_match.specs.declared.operation.Operation.{Operation}
use Rattle.patterns_match.specs.declared.operation.Operation.TheVariants as operation
use Rattle.patterns_match.specs.declared.relation.Relation.{Relation}

-- The answer behind operations of which so many are skipped, where this was the answer before.
abbrev pub run : (Leaf → Bool) → (Relation → Tree → Bool) → ℕ → Bool → List (Operation Leaf) → Bool
run ask others n held [] = held
run ask others (suc n) held (o ∷ rest) = run ask others n held rest
run ask others zero held (operation.Ask leaf ∷ rest) = run ask others 0 (ask leaf) rest
run ask others zero held (operation.Negate ∷ rest) = run ask others 0 (not held) rest
run ask others zero held (operation.SkipUnless n ∷ rest) =
    run ask others (if held then 0 else n) held rest
run ask others zero held (operation.SkipIf n ∷ rest) =
    run ask others (if held then n else 0) held rest
run ask others zero held (operation.Others relation n ∷ rest) =
    run ask others n (others relation (tree_of (take n rest))) rest
run ask others zero held (operation.Both ∷ rest) = run ask others 0 held rest
run ask others zero held (operation.Either ∷ rest) = run ask others 0 held rest
run ask others zero held (operation.Group ∷ rest) = run ask others 0 held rest
run ask others zero held (operation.Related relation ∷ rest) = run ask others 0 held rest

-- Asking the operations of a pattern in order tells whether the message at a place satisfies it.
abbrev pub OperationsAnswer : Type 0
OperationsAnswer =
    (people : PlainPeople) (offset : ℤ) (listing : List Message) (tree : Tree) (place : ℕ)
    (held : Bool)
    → run (asks_at people offset listing place)
    (λ relation t. some_related listing relation place (satisfies people offset listing t))
    0 held (code tree) ≡ satisfies people offset listing tree place

-- For the code alone.

-- the answer behind operations of the message at a place, where this was the answer before
abbrev pub in_order : PlainPeople → ℤ → List Message → ℕ → Bool → List (Operation Leaf) → Bool
in_order people offset listing place held operations =
    run (asks_at people offset listing place)
    (λ relation t. some_related listing relation place (satisfies people offset listing t))
    0 held operations

-- each pattern of other messages is whole
abbrev pub AreFramed : List (Operation Leaf) → Type 0
AreFramed [] = Unit {0}
AreFramed (operation.Others relation n ∷ rest) = IsCode (take n rest) × AreFramed rest
AreFramed (operation.Ask leaf ∷ rest) = AreFramed rest
AreFramed (operation.Negate ∷ rest) = AreFramed rest
AreFramed (operation.SkipUnless n ∷ rest) = AreFramed rest
AreFramed (operation.SkipIf n ∷ rest) = AreFramed rest
AreFramed (operation.Both ∷ rest) = AreFramed rest
AreFramed (operation.Either ∷ rest) = AreFramed rest
AreFramed (operation.Group ∷ rest) = AreFramed rest
AreFramed (operation.Related relation ∷ rest) = AreFramed rest

-- no operation takes memory
abbrev pub are_free : List (Operation Leaf) → Bool
are_free operations = list_all (passes takes_none true) operations

-- a step leads from an answer and operations to others
pub record Steps (people : PlainPeople) (offset : ℤ) (listing : List Message) (place : ℕ)
    (held : Bool) (operations : List (Operation Leaf)) (next : Bool) (left : List (Operation Leaf))
    : Type 0 where
  pub value : in_order people offset listing place held operations
      ≡ in_order people offset listing place next left
  pub framed : AreFramed operations → AreFramed left
  pub free : are_free operations ≡ true → are_free left ≡ true
  pub shorter : length left < length operations
