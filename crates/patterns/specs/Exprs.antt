-- What the terms of a pattern ask, where expressions are searched for in UTF-8.
use Rattle.std.specs.Prelude.{ℕ, true, false, List, [], ◌∷◌, Option, Some, None}
use Rattle.mail_base.specs.Shown.{utf8_text}
use Rattle.patterns_match.specs.Operations.{code}
use Rattle.patterns_match.specs.Trees.{Leaf, Tells, Searches, Dated, Counts}
use Rattle.patterns_match.specs.Trees.{Tree, Asks, Not, And, Or, Group, Related}
use Rattle.patterns_match.specs.declared.letter.Field.{Field}
use Rattle.patterns_match.specs.declared.operation.Operation.{Operation}
use Rattle.patterns_match.specs.declared.operation.Operation.TheVariants as operation

-- what a leaf asks: an expression is one of UTF-8
abbrev pub asked : Leaf → Leaf
asked (Tells mark) = Tells mark
asked (Searches field true text) = Searches field true text
asked (Searches field false text) = Searches field false (utf8_text text)
asked (Dated day range) = Dated day range
asked (Counts number range) = Counts number range

-- the same pattern of other leaves
abbrev pub tree_map : (Leaf → Leaf) → Tree → Tree
tree_map f (Asks leaf) = Asks (f leaf)
tree_map f (Not tree) = Not (tree_map f tree)
tree_map f (And a b) = And (tree_map f a) (tree_map f b)
tree_map f (Or a b) = Or (tree_map f a) (tree_map f b)
tree_map f (Group tree) = Group (tree_map f tree)
tree_map f (Related relation tree) = Related relation (tree_map f tree)

-- the expression that a term searches for, if it does, and where
abbrev pub leaf_expr : Leaf → Option (Field × List ℕ)
leaf_expr (Tells mark) = None
leaf_expr (Searches field true text) = None
leaf_expr (Searches field false text) = Some (field, text)
leaf_expr (Dated day range) = None
leaf_expr (Counts number range) = None

-- the same of an operation
abbrev pub expr_of : Operation Leaf → Option (Field × List ℕ)
expr_of (operation.Ask leaf) = leaf_expr leaf
expr_of operation.Negate = None
expr_of (operation.SkipUnless n) = None
expr_of (operation.SkipIf n) = None
expr_of (operation.Others relation n) = None
expr_of operation.Both = None
expr_of operation.Either = None
expr_of operation.Group = None
expr_of (operation.Related relation) = None

-- an expression, which is one of UTF-8, before others
abbrev pub with_expr : Option (Field × List ℕ) → List (List ℕ) → List (List ℕ)
with_expr None texts = texts
with_expr (Some (field, text)) texts = utf8_text text ∷ texts

-- the expressions that are asked, in order
abbrev pub exprs_in : List (Operation Leaf) → List (List ℕ)
exprs_in [] = []
exprs_in (o ∷ operations) = with_expr (expr_of o) (exprs_in operations)

-- the expressions of a pattern
abbrev pub exprs : Tree → List (List ℕ)
exprs tree = exprs_in (code tree)
