-- What holds of each term of a pattern.
use Rattle.std.specs.Prelude.{◌&&◌, Bool, true, false, not}
use Rattle.people.specs.Expr.{is_literal}
use Rattle.patterns_match.specs.Trees.{Leaf, Tells, Searches, Dated, Counts}
use Rattle.patterns_match.specs.Trees.{Tree, Asks, Not, And, Or, Group, Related}
use Rattle.patterns_match.specs.declared.letter.Field.{Field}
use Rattle.patterns_match.specs.declared.letter.Field.TheVariants as field
use Rattle.patterns_match.specs.declared.letter.Mark.{Mark}
use Rattle.patterns_match.specs.declared.letter.Mark.TheVariants as mark
use Rattle.patterns_match.specs.declared.letter.Number.{Number}
use Rattle.patterns_match.specs.declared.letter.Number.TheVariants as number
use Rattle.patterns_match.specs.declared.operation.Operation.{Operation}
use Rattle.patterns_match.specs.declared.operation.Operation.TheVariants as operation

-- each term passes a test, and others are asked only where they may be
abbrev pub every : (Leaf → Bool) → Bool → Tree → Bool
every test others (Asks leaf) = test leaf
every test others (Not tree) = every test others tree
every test others (And a b) = every test others a && every test others b
every test others (Or a b) = every test others a && every test others b
every test others (Group tree) = every test others tree
every test others (Related relation tree) = others && every test others tree

-- it is told by the tables of people
abbrev pub asks_people : Mark → Bool
asks_people mark.KnownList = true
asks_people mark.Subscribed = true
asks_people mark.ToMe = true
asks_people mark.FromMe = true
asks_people _ = false

-- its texts are made of the parts of the message
abbrev pub asks_parts : Field → Bool
asks_parts field.Body = true
asks_parts field.Whole = true
asks_parts field.ContentType = true
asks_parts _ = false

-- it is counted in the parts of the message
abbrev pub counts_parts : Number → Bool
counts_parts number.Attachments = true
counts_parts _ = false

-- a term is told without memory
abbrev pub takes_none : Leaf → Bool
takes_none (Tells mark) = not (asks_people mark)
takes_none (Searches field true text) = not (asks_parts field)
takes_none (Searches field false text) = not (asks_parts field) && is_literal text
takes_none (Dated day days) = true
takes_none (Counts number range) = not (counts_parts number)

-- a pattern is told without memory
abbrev pub asks_freely : Tree → Bool
asks_freely tree = every takes_none true tree

-- the letters that may stand in the pattern of a score
abbrev pub mark_may_score : Mark → Bool
mark_may_score mark.Collapsed = false
mark_may_score mark.Duplicate = false
mark_may_score mark.Childless = false
mark_may_score _ = true

-- the fields that a score may search
abbrev pub field_may_score : Field → Bool
field_may_score field.Body = false
field_may_score field.Whole = false
field_may_score field.Header = false
field_may_score field.ContentType = false
field_may_score _ = true

-- the numbers that a score may ask
abbrev pub number_may_score : Number → Bool
number_may_score number.Bytes = true
number_may_score _ = false

-- the terms that may stand in a score
abbrev pub leaf_may_score : Leaf → Bool
leaf_may_score (Tells mark) = mark_may_score mark
leaf_may_score (Searches field plain text) = field_may_score field
leaf_may_score (Dated day days) = true
leaf_may_score (Counts number range) = number_may_score number

-- no term that may not stand in a score, and no pattern of other messages
abbrev pub may_score : Tree → Bool
may_score tree = every leaf_may_score false tree

-- For the code alone.

-- the test of a term, at an operation
abbrev pub passes : (Leaf → Bool) → Bool → Operation Leaf → Bool
passes test others (operation.Ask leaf) = test leaf
passes test others operation.Negate = true
passes test others (operation.SkipUnless n) = true
passes test others (operation.SkipIf n) = true
passes test others (operation.Others relation n) = others
passes test others operation.Both = true
passes test others operation.Either = true
passes test others operation.Group = true
passes test others (operation.Related relation) = others
