-- Patterns as trees.
use Rattle.std.specs.Prelude.{ℕ, zero, suc, ℤ, Bool, true, false, List}
use Rattle.patterns_match.specs.declared.letter.Day.{Day}
use Rattle.patterns_match.specs.declared.letter.Field.{Field}
use Rattle.patterns_match.specs.declared.letter.Mark.{Mark}
use Rattle.patterns_match.specs.declared.letter.Number.{Number}
use Rattle.patterns_match.specs.declared.range.Range.{Range}
use Rattle.patterns_match.specs.declared.relation.Relation.{Relation}

-- a range of days, counted from 1970
abbrev pub Days : Type 0
Days = Range ℤ

-- what a term asks without asking other terms; what is searched for is plain text or an expression
pub data Leaf : Type 0 where
  Tells : Mark → Leaf
  Searches : Field → Bool → List ℕ → Leaf
  Dated : Day → Days → Leaf
  Counts : Number → Range ℕ → Leaf

-- A pattern. A group stands for what is in it; in a written pattern the right side of `And` is a
-- term, and that of `Or` no `Or`.
pub data Tree : Type 0 where
  Asks : Leaf → Tree
  Not : Tree → Tree
  And : Tree → Tree → Tree
  Or : Tree → Tree → Tree
  Group : Tree → Tree
  Related : Relation → Tree → Tree

-- so many exclamation marks before a term
abbrev pub negated : ℕ → Tree → Tree
negated zero tree = tree
negated (suc n) tree = Not (negated n tree)

-- A term: it can be negated, and stands beside others as it is.
abbrev pub is_term : Tree → Bool
is_term (Asks leaf) = true
is_term (Not tree) = is_term tree
is_term (And a b) = false
is_term (Or a b) = false
is_term (Group tree) = true
is_term (Related relation tree) = true
