-- Patterns that can be asked, without the rooms of their lists.
use Rattle.std.specs.Prelude.{ℤ}
use Rattle.patterns_match.specs.Asked.{asked_tree}
use Rattle.patterns_match.specs.Trees.{Tree}
use Rattle.patterns_match.specs.declared.pattern.Pattern.{Pattern}

-- the tree of a pattern
abbrev pub pattern_tree : Pattern → Tree
pattern_tree pattern = asked_tree pattern.operations.items

-- a pattern without the rooms of its lists: what it asks, and the offset from UTC by which it
-- counts days
pub record PlainPattern : Type 0 where
  pub tree : Tree
  pub offset : ℤ

-- a pattern as contracts see it
abbrev pub plain_pattern : Pattern → PlainPattern
plain_pattern pattern = record { tree = pattern_tree pattern; offset = pattern.offset }
