-- Operations of a pattern that are asked in order.
use Rattle.std.proofs.Common.{◌≡◌, ◌∙◌, ◌++◌, ◌&&◌, ◌||◌, ℕ, Bool, true, false, not, List, [], ◌∷◌}
use Rattle.std.proofs.Common.{ℤ, length, take, refl, sym, ap, append_assoc}
use Rattle.std.specs.Prelude.{if◌then◌else◌}
use Rattle.std.proofs.Math.Seq.{take-append_seam}
use Rattle.std.proofs.lemmas.List.{append-nil}
use Rattle.people.specs.People.{PlainPeople}
use Rattle.patterns_match.specs.Listings.{Message}
use Rattle.patterns_match.specs.Machine.{OperationsAnswer, run}
use Rattle.patterns_match.specs.Operations.{code, tree_of}
use Rattle.patterns_match.specs.Satisfies.{asks_at, satisfies, some_related}
use Rattle.patterns_match.specs.Trees.{Leaf, Tree, Asks, Not, And, Or, Group, Related}
use Rattle.patterns_match.specs.declared.operation.Operation.{Operation}
use Rattle.patterns_match.specs.declared.operation.Operation.TheVariants as operation
use Rattle.patterns_match.specs.declared.relation.Relation.{Relation}
use Rattle.patterns_match.proofs.OperationLemmas.{around, tree_code}

-- what a pattern answers, where this is what its leaves and its patterns on others answer
abbrev answer : (Leaf → Bool) → (Relation → Tree → Bool) → Tree → Bool
answer ask others (Asks leaf) = ask leaf
answer ask others (Not tree) = not (answer ask others tree)
answer ask others (And a b) = answer ask others a && answer ask others b
answer ask others (Or a b) = answer ask others a || answer ask others b
answer ask others (Group tree) = answer ask others tree
answer ask others (Related relation tree) = others relation tree

module _ (ask : Leaf → Bool) (others : Relation → Tree → Bool) where
  skipped : (held : Bool) (xs ys : List (Operation Leaf))
      → run ask others (length xs) held (xs ++ ys) ≡ run ask others 0 held ys
  skipped held [] ys = refl
  skipped held (x ∷ xs) ys = skipped held xs ys

  both : (v w : Bool) (xs rest : List (Operation Leaf))
      → run ask others 0 v (xs ++ operation.Both ∷ rest)
      ≡ run ask others 0 w (operation.Both ∷ rest)
      → run ask others (if v then 0 else length xs) v (xs ++ operation.Both ∷ rest)
      ≡ run ask others 0 (v && w) rest
  both true w xs rest on = on
  both false w xs rest on = skipped false xs (operation.Both ∷ rest)

  either : (v w : Bool) (xs rest : List (Operation Leaf))
      → run ask others 0 v (xs ++ operation.Either ∷ rest)
      ≡ run ask others 0 w (operation.Either ∷ rest)
      → run ask others (if v then length xs else 0) v (xs ++ operation.Either ∷ rest)
      ≡ run ask others 0 (v || w) rest
  either true w xs rest on = skipped true xs (operation.Either ∷ rest)
  either false w xs rest on = on

  run_code : (t : Tree) (rest : List (Operation Leaf)) (held : Bool)
      → run ask others 0 held (code t ++ rest) ≡ run ask others 0 (answer ask others t) rest
  run_code (Asks leaf) rest held = refl
  run_code (Not t) rest held =
      ap (run ask others 0 held) (append_assoc (code t) (operation.Negate ∷ []) rest)
      ∙ run_code t (operation.Negate ∷ rest) held
  run_code (Group t) rest held =
      ap (run ask others 0 held) (append_assoc (code t) (operation.Group ∷ []) rest)
      ∙ run_code t (operation.Group ∷ rest) held
  run_code (And a b) rest held =
      let skip = operation.SkipUnless (length (code b)) in
      ap (run ask others 0 held) (around skip (code a) (code b) operation.Both rest)
      ∙ run_code a (skip ∷ (code b ++ operation.Both ∷ rest)) held
      ∙ both (answer ask others a) (answer ask others b) (code b) rest
      (run_code b (operation.Both ∷ rest) (answer ask others a))
  run_code (Or a b) rest held =
      let skip = operation.SkipIf (length (code b)) in
      ap (run ask others 0 held) (around skip (code a) (code b) operation.Either rest)
      ∙ run_code a (skip ∷ (code b ++ operation.Either ∷ rest)) held
      ∙ either (answer ask others a) (answer ask others b) (code b) rest
      (run_code b (operation.Either ∷ rest) (answer ask others a))
  run_code (Related relation t) rest held =
      let tail = operation.Related relation ∷ rest in
      let inner : tree_of (take (length (code t)) (code t ++ tail)) ≡ t =
      ap tree_of (take-append_seam (code t) tail) ∙ tree_code t in
      ap (run ask others 0 held)
      (ap (λ l. operation.Others relation (length (code t)) ∷ l)
      (append_assoc (code t) (operation.Related relation ∷ []) rest))
      ∙ skipped (others relation (tree_of (take (length (code t)) (code t ++ tail)))) (code t) tail
      ∙ ap (λ x. run ask others 0 (others relation x) rest) inner

module _ (people : PlainPeople) (offset : ℤ) (listing : List Message) (place : ℕ) where
  satisfies_answer : (t : Tree)
      → answer (asks_at people offset listing place)
      (λ relation u. some_related listing relation place (satisfies people offset listing u)) t
      ≡ satisfies people offset listing t place
  satisfies_answer (Asks leaf) = refl
  satisfies_answer (Not t) = ap not (satisfies_answer t)
  satisfies_answer (And a b) =
      ap (λ x. x && answer (asks_at people offset listing place)
      (λ relation u. some_related listing relation place (satisfies people offset listing u)) b)
      (satisfies_answer a)
      ∙ ap (λ x. satisfies people offset listing a place && x) (satisfies_answer b)
  satisfies_answer (Or a b) =
      ap (λ x. x || answer (asks_at people offset listing place)
      (λ relation u. some_related listing relation place (satisfies people offset listing u)) b)
      (satisfies_answer a)
      ∙ ap (λ x. satisfies people offset listing a place || x) (satisfies_answer b)
  satisfies_answer (Group t) = satisfies_answer t
  satisfies_answer (Related relation t) = refl

pub operations_answer : OperationsAnswer
operations_answer people offset listing tree place held =
    let ask = asks_at people offset listing place in
    let others = λ (relation : Relation) (t : Tree). some_related listing relation place
    (satisfies people offset listing t) in
    ap (run ask others 0 held) (sym (append-nil (code tree)))
    ∙ run_code ask others tree [] held ∙ satisfies_answer people offset listing place tree
