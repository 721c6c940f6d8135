-- How the logic stores a pattern: as the list of its terms, each behind those that it is of.
use Rattle.std.specs.Prelude.{◌≡◌, ◌++◌, ◌∷◌, [], List, refl}
use Rattle.std.proofs.Common.{◌∙◌, ap, append-nil, append_assoc, sym}
use Rattle.std.specs.Coded.{Coded, code_by, coded_list}
use Rattle.patterns_match.specs.Trees.{And, Asks, Group, Leaf, Not, Or, Related, Tells, Tree}
use Rattle.patterns_match.specs.declared.letter.Mark.TheVariants.{All}
use Rattle.patterns_match.specs.declared.relation.Relation.{Relation}

-- the parts of a tree, each behind those that it is of
pub data Term : Type 0 where
  Asking : Leaf → Term
  Negating : Term
  Both : Term
  Either : Term
  Grouping : Term
  Relating : Relation → Term

-- a tree as a list of its parts
abbrev pub terms_of : Tree → List Term
terms_of (Asks leaf) = Asking leaf ∷ []
terms_of (Not tree) = terms_of tree ++ Negating ∷ []
terms_of (And a b) = terms_of a ++ (terms_of b ++ Both ∷ [])
terms_of (Or a b) = terms_of a ++ (terms_of b ++ Either ∷ [])
terms_of (Group tree) = terms_of tree ++ Grouping ∷ []
terms_of (Related relation tree) = terms_of tree ++ Relating relation ∷ []

-- the patterns that a term leaves of those before it, the last one first
abbrev pub put_term : Term → List Tree → List Tree
put_term (Asking leaf) trees = Asks leaf ∷ trees
put_term Negating (tree ∷ trees) = Not tree ∷ trees
put_term Both (b ∷ a ∷ trees) = And a b ∷ trees
put_term Either (b ∷ a ∷ trees) = Or a b ∷ trees
put_term Grouping (tree ∷ trees) = Group tree ∷ trees
put_term (Relating relation) (tree ∷ trees) = Related relation tree ∷ trees
put_term _ trees = trees

-- the trees that parts leave
abbrev pub put_terms : List Term → List Tree → List Tree
put_terms [] trees = trees
put_terms (term ∷ terms) trees = put_terms terms (put_term term trees)

-- the first tree, or one that all messages satisfy
abbrev pub first_tree : List Tree → Tree
first_tree [] = Asks (Tells All)
first_tree (tree ∷ trees) = tree

-- the tree of a list of parts
abbrev pub tree_from : List Term → Tree
tree_from terms = first_tree (put_terms terms [])

terms_put : (tree : Tree) (terms : List Term) (trees : List Tree)
    → put_terms (terms_of tree ++ terms) trees ≡ put_terms terms (tree ∷ trees)
terms_put (Asks leaf) terms trees = refl
terms_put (Not tree) terms trees =
    ap (λ (ts : List Term). put_terms ts trees) (append_assoc (terms_of tree) (Negating ∷ []) terms)
    ∙ terms_put tree (Negating ∷ terms) trees
terms_put (And a b) terms trees =
    ap (λ (ts : List Term). put_terms ts trees)
    (append_assoc (terms_of a) (terms_of b ++ Both ∷ []) terms)
    ∙ terms_put a ((terms_of b ++ Both ∷ []) ++ terms) trees
    ∙ ap (λ (ts : List Term). put_terms ts (a ∷ trees))
    (append_assoc (terms_of b) (Both ∷ []) terms)
    ∙ terms_put b (Both ∷ terms) (a ∷ trees)
terms_put (Or a b) terms trees =
    ap (λ (ts : List Term). put_terms ts trees)
    (append_assoc (terms_of a) (terms_of b ++ Either ∷ []) terms)
    ∙ terms_put a ((terms_of b ++ Either ∷ []) ++ terms) trees
    ∙ ap (λ (ts : List Term). put_terms ts (a ∷ trees))
    (append_assoc (terms_of b) (Either ∷ []) terms)
    ∙ terms_put b (Either ∷ terms) (a ∷ trees)
terms_put (Group tree) terms trees =
    ap (λ (ts : List Term). put_terms ts trees) (append_assoc (terms_of tree) (Grouping ∷ []) terms)
    ∙ terms_put tree (Grouping ∷ terms) trees
terms_put (Related relation tree) terms trees =
    ap (λ (ts : List Term). put_terms ts trees)
    (append_assoc (terms_of tree) (Relating relation ∷ []) terms)
    ∙ terms_put tree (Relating relation ∷ terms) trees

-- a tree is the tree of its parts
pub tree_back : (tree : Tree) → tree_from (terms_of tree) ≡ tree
tree_back tree =
    ap first_tree (ap (λ (ts : List Term). put_terms ts []) (sym (append-nil (terms_of tree)))
    ∙ terms_put tree [] [])

-- trees have a code by that of their parts
abbrev pub tree_code : Coded Term → Coded Tree
tree_code term_code = code_by (List Term) (coded_list term_code) terms_of tree_from tree_back
