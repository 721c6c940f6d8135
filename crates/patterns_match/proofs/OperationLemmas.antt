-- Patterns in postfix form.
use Rattle.std.proofs.Common.{◌≡◌, ◌∙◌, ◌++◌, List, [], ◌∷◌, length, refl, sym, ap, append_assoc}
use Rattle.std.proofs.lemmas.List.{append-nil}
use Rattle.patterns_match.specs.Operations.{IsCode, code, last_tree, tree_of, trees_of}
use Rattle.patterns_match.specs.Trees.{Leaf, Tree, Asks, Not, And, Or, Group, Related}
use Rattle.patterns_match.specs.declared.operation.Operation.{Operation}
use Rattle.patterns_match.specs.declared.operation.Operation.TheVariants as operation

pub around : (skip : Operation Leaf) (xs ys : List (Operation Leaf)) (last : Operation Leaf)
    (rest : List (Operation Leaf))
    → (xs ++ skip ∷ [] ++ ys ++ last ∷ []) ++ rest ≡ xs ++ (skip ∷ (ys ++ last ∷ rest))
around skip xs ys last rest = simp append_assoc

pub trees_code : (t : Tree) (rest : List (Operation Leaf)) (ts : List Tree)
    → trees_of (code t ++ rest) ts ≡ trees_of rest (t ∷ ts)
trees_code (Asks leaf) rest ts = refl
trees_code (Not t) rest ts =
    ap (λ l. trees_of l ts) (append_assoc (code t) (operation.Negate ∷ []) rest)
    ∙ trees_code t (operation.Negate ∷ rest) ts
trees_code (Group t) rest ts =
    ap (λ l. trees_of l ts) (append_assoc (code t) (operation.Group ∷ []) rest)
    ∙ trees_code t (operation.Group ∷ rest) ts
trees_code (Related relation t) rest ts =
    ap (λ l. trees_of l ts) (append_assoc (code t) (operation.Related relation ∷ []) rest)
    ∙ trees_code t (operation.Related relation ∷ rest) ts
trees_code (And a b) rest ts =
    let skip = operation.SkipUnless (length (code b)) in
    ap (λ l. trees_of l ts) (around skip (code a) (code b) operation.Both rest)
    ∙ trees_code a (skip ∷ (code b ++ operation.Both ∷ rest)) ts
    ∙ trees_code b (operation.Both ∷ rest) (a ∷ ts)
trees_code (Or a b) rest ts =
    let skip = operation.SkipIf (length (code b)) in
    ap (λ l. trees_of l ts) (around skip (code a) (code b) operation.Either rest)
    ∙ trees_code a (skip ∷ (code b ++ operation.Either ∷ rest)) ts
    ∙ trees_code b (operation.Either ∷ rest) (a ∷ ts)

pub tree_code : (t : Tree) → tree_of (code t) ≡ t
unfolding tree_of
tree_code t =
    ap (λ l. last_tree (trees_of l [])) (sym (append-nil (code t)))
    ∙ ap last_tree (trees_code t [] [])

-- operations of a pattern
pub is_code : (operations : List (Operation Leaf)) (t : Tree) → operations ≡ code t
    → (tree_of operations ≡ t) × IsCode operations
is_code operations t is =
    let tree : tree_of operations ≡ t = ap tree_of is ∙ tree_code t in
    (tree, is ∙ ap code (sym tree))
