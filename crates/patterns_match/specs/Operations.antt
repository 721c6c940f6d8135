-- Patterns in postfix form, with what is skipped.
use Rattle.std.specs.Prelude.{◌≡◌, List, [], ◌∷◌, ◌++◌, length}
use Rattle.patterns_match.specs.Trees.{Leaf, Tree, Asks, Tells, Not, And, Or, Group, Related}
use Rattle.patterns_match.specs.declared.letter.Mark.TheVariants.{All}
use Rattle.patterns_match.specs.declared.operation.Operation.{Operation}
use Rattle.patterns_match.specs.declared.operation.Operation.TheVariants as operation

-- the operations of a pattern; what is skipped is its length
abbrev pub code : Tree → List (Operation Leaf)
code (Asks leaf) = operation.Ask leaf ∷ []
code (Not tree) = code tree ++ operation.Negate ∷ []
code (And a b) =
    code a ++ operation.SkipUnless (length (code b)) ∷ [] ++ code b ++ operation.Both ∷ []
code (Or a b) =
    code a ++ operation.SkipIf (length (code b)) ∷ [] ++ code b ++ operation.Either ∷ []
code (Group tree) = code tree ++ operation.Group ∷ []
code (Related relation tree) =
    operation.Others relation (length (code tree)) ∷ [] ++ code tree
    ++ operation.Related relation ∷ []

-- the last of some trees as another
abbrev pub on_last : (Tree → Tree) → List Tree → List Tree
on_last f [] = []
on_last f (tree ∷ trees) = f tree ∷ trees

-- the last two of some trees as one
abbrev pub on_two : (Tree → Tree → Tree) → List Tree → List Tree
on_two f (b ∷ a ∷ trees) = f a b ∷ trees
on_two f (b ∷ []) = b ∷ []
on_two f [] = []

-- the trees behind an operation, the last one first
abbrev pub act : Operation Leaf → List Tree → List Tree
act (operation.Ask leaf) trees = Asks leaf ∷ trees
act operation.Negate trees = on_last Not trees
act (operation.SkipUnless n) trees = trees
act (operation.SkipIf n) trees = trees
act (operation.Others relation n) trees = trees
act operation.Both trees = on_two And trees
act operation.Either trees = on_two Or trees
act operation.Group trees = on_last Group trees
act (operation.Related relation) trees = on_last (Related relation) trees

-- the trees behind operations
abbrev pub trees_of : List (Operation Leaf) → List Tree → List Tree
trees_of [] trees = trees
trees_of (o ∷ operations) trees = trees_of operations (act o trees)

-- the last of some trees
abbrev pub last_tree : List Tree → Tree
last_tree [] = Asks (Tells All)
last_tree (tree ∷ trees) = tree

-- the tree that operations make
unfoldable pub tree_of : List (Operation Leaf) → Tree
tree_of operations = last_tree (trees_of operations [])

-- the operations are those of a pattern
abbrev pub IsCode : List (Operation Leaf) → Type 0
IsCode operations = operations ≡ code (tree_of operations)

-- the same operations with other leaves
abbrev pub operation_map : {X Y : Type 0} → (X → Y) → Operation X → Operation Y
operation_map f (operation.Ask leaf) = operation.Ask (f leaf)
operation_map f operation.Negate = operation.Negate
operation_map f (operation.SkipUnless n) = operation.SkipUnless n
operation_map f (operation.SkipIf n) = operation.SkipIf n
operation_map f (operation.Others relation n) = operation.Others relation n
operation_map f operation.Both = operation.Both
operation_map f operation.Either = operation.Either
operation_map f operation.Group = operation.Group
operation_map f (operation.Related relation) = operation.Related relation
