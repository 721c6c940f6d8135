-- Steps in asking the operations of a pattern.
use Rattle.std.proofs.Common.{◌≡◌, ◌∙◌, ◌++◌, ◌&&◌, ℕ, zero, suc, ℤ, Bool, true, false, not, List}
use Rattle.std.proofs.Common.{[], ◌∷◌, length, take, drop, refl, sym, ap, arith, append_assoc}
use Rattle.std.proofs.Common.{length-drop, subst}
use Rattle.std.specs.Prelude.{if◌then◌else◌}
use Rattle.std.specs.List.{list_all}
use Rattle.std.proofs.Math.Bool.{and-true}
use Rattle.std.proofs.Math.Seq.{take-append_seam}
use Rattle.std.proofs.lemmas.List.Folds.{list_all-append}
use Rattle.std.proofs.lemmas.List.{append-nil, drop-map, take-map}
use Rattle.people.specs.People.{PlainPeople}
use Rattle.patterns_match.specs.Asked.{asked_operations, asked_tree, plain_asked}
use Rattle.patterns_match.specs.Leaves.{every, passes, takes_none}
use Rattle.patterns_match.specs.Listings.{Message}
use Rattle.patterns_match.specs.Machine.{AreFramed, Steps, are_free, in_order, run}
use Rattle.patterns_match.specs.Operations.{IsCode, code, operation_map, tree_of}
use Rattle.patterns_match.specs.Satisfies.{asks_at, satisfies, some_related}
use Rattle.patterns_match.specs.Trees.{Leaf, Tree, Asks, Not, And, Or, Group, Related}
use Rattle.patterns_match.specs.declared.asked.Asked.{Asked}
use Rattle.patterns_match.specs.declared.operation.Operation.{Operation}
use Rattle.patterns_match.specs.declared.operation.Operation.TheVariants as operation
use Rattle.patterns_match.specs.declared.relation.Relation.{Relation}
use Rattle.patterns_match.proofs.MachineLemmas.{operations_answer}
use Rattle.patterns_match.proofs.OperationLemmas.{around, tree_code}

module _ (ask : Leaf → Bool) (others : Relation → Tree → Bool) where
  run_drop : (n : ℕ) (held : Bool) (ops : List (Operation Leaf))
      → run ask others n held ops ≡ run ask others 0 held (drop n ops)
  run_drop zero held ops = refl
  run_drop (suc n) held [] = refl
  run_drop (suc n) held (o ∷ ops) = run_drop n held ops

  run_unless : (n : ℕ) (held : Bool) (ops : List (Operation Leaf))
      → run ask others (if held then 0 else n) held ops
      ≡ run ask others 0 held (if not held then drop n ops else ops)
  run_unless n true ops = refl
  run_unless n false ops = run_drop n false ops

  run_if : (n : ℕ) (held : Bool) (ops : List (Operation Leaf))
      → run ask others (if held then n else 0) held ops
      ≡ run ask others 0 held (if held then drop n ops else ops)
  run_if n true ops = run_drop n true ops
  run_if n false ops = refl

framed_rest : (o : Operation Leaf) (ops : List (Operation Leaf)) → AreFramed (o ∷ ops)
    → AreFramed ops
framed_rest (operation.Ask leaf) ops f = f
framed_rest operation.Negate ops f = f
framed_rest (operation.SkipUnless n) ops f = f
framed_rest (operation.SkipIf n) ops f = f
framed_rest (operation.Others relation n) ops f = f.1
framed_rest operation.Both ops f = f
framed_rest operation.Either ops f = f
framed_rest operation.Group ops f = f
framed_rest (operation.Related relation) ops f = f

framed_drop : (n : ℕ) (ops : List (Operation Leaf)) → AreFramed ops → AreFramed (drop n ops)
framed_drop zero ops f = f
framed_drop (suc n) [] f = f
framed_drop (suc n) (o ∷ ops) f = framed_drop n ops (framed_rest o ops f)

and_right : (a b : Bool) → (a && b) ≡ true → b ≡ true
and_right true b e = e
and_right false true e = refl
and_right false false e = e

free_drop : (n : ℕ) (ops : List (Operation Leaf)) → are_free ops ≡ true
    → are_free (drop n ops) ≡ true
free_drop zero ops f = f
free_drop (suc n) [] f = f
free_drop (suc n) (o ∷ ops) f = free_drop n ops (and_right _ (are_free ops) f)

framed_code : (t : Tree) (rest : List (Operation Leaf)) → AreFramed rest
    → AreFramed (code t ++ rest)
framed_code (Asks leaf) rest f = f
framed_code (Not t) rest f =
    subst AreFramed (sym (append_assoc (code t) (operation.Negate ∷ []) rest))
    (framed_code t (operation.Negate ∷ rest) f)
framed_code (Group t) rest f =
    subst AreFramed (sym (append_assoc (code t) (operation.Group ∷ []) rest))
    (framed_code t (operation.Group ∷ rest) f)
framed_code (And a b) rest f =
    let skip = operation.SkipUnless (length (code b)) in
    subst AreFramed (sym (around skip (code a) (code b) operation.Both rest))
    (framed_code a (skip ∷ (code b ++ operation.Both ∷ rest))
    (framed_code b (operation.Both ∷ rest) f))
framed_code (Or a b) rest f =
    let skip = operation.SkipIf (length (code b)) in
    subst AreFramed (sym (around skip (code a) (code b) operation.Either rest))
    (framed_code a (skip ∷ (code b ++ operation.Either ∷ rest))
    (framed_code b (operation.Either ∷ rest) f))
framed_code (Related relation t) rest f =
    let tail = operation.Related relation ∷ rest in
    let whole : IsCode (take (length (code t)) (code t ++ tail)) =
    subst IsCode (sym (take-append_seam (code t) tail)) (ap code (sym (tree_code t))) in
    subst (λ ops. AreFramed (operation.Others relation (length (code t)) ∷ ops))
    (sym (append_assoc (code t) (operation.Related relation ∷ []) rest))
    (whole, framed_code t tail f)

-- the operations of a pattern hold whole patterns of others
pub framed : (ops : List (Operation Leaf)) → IsCode ops → AreFramed ops
framed ops is =
    subst AreFramed (append-nil (code (tree_of ops)) ∙ sym is) (framed_code (tree_of ops) [] tt)

-- and asking them in order gives the answer
pub ordered : (people : PlainPeople) (offset : ℤ) (listing : List Message) (place : ℕ)
    (ops : List (Operation Leaf)) → IsCode ops
    → in_order people offset listing place false ops
    ≡ satisfies people offset listing (tree_of ops) place
ordered people offset listing place ops is =
    ap (in_order people offset listing place false) is
    ∙ operations_answer people offset listing (tree_of ops) place false

module _ (people : PlainPeople) (offset : ℤ) (listing : List Message) (place : ℕ) where
  -- a step to what follows an operation
  pub steps_rest : (o : Operation Leaf) (rest : List (Operation Leaf)) (held next : Bool)
      → in_order people offset listing place held (o ∷ rest)
      ≡ in_order people offset listing place next rest
      → Steps people offset listing place held (o ∷ rest) next rest
  steps_rest o rest held next e = record {
    value = e;
    framed = framed_rest o rest;
    free = and_right _ (are_free rest);
    shorter = omega arith;
  }

  -- a step behind operations that are skipped
  pub steps_behind : (o : Operation Leaf) (rest : List (Operation Leaf)) (n : ℕ) (held next : Bool)
      → in_order people offset listing place held (o ∷ rest)
      ≡ in_order people offset listing place next (drop n rest)
      → Steps people offset listing place held (o ∷ rest) next (drop n rest)
  steps_behind o rest n held next e = record {
    value = e;
    framed = λ f. framed_drop n rest (framed_rest o rest f);
    free = λ f. free_drop n rest (and_right _ (are_free rest) f);
    shorter = omega (arith, length-drop n rest);
  }

-- operations without those that are skipped
asked_behind : (n : ℕ) (rest : List (Operation Asked))
    → drop n (asked_operations rest) ≡ asked_operations (drop n rest)
asked_behind n rest = drop-map (operation_map plain_asked) n rest

pub asked_front : (n : ℕ) (rest : List (Operation Asked))
    → take n (asked_operations rest) ≡ asked_operations (take n rest)
asked_front n rest = take-map (operation_map plain_asked) n rest

and_left : (a b : Bool) → (a && b) ≡ true → a ≡ true
and_left true b e = refl
and_left false b e = e

free_take : (n : ℕ) (ops : List (Operation Leaf)) → are_free ops ≡ true
    → are_free (take n ops) ≡ true
free_take zero ops f = refl
free_take (suc n) [] f = refl
free_take (suc n) (o ∷ ops) f =
    ap (λ b. b && are_free (take n ops)) (and_left (passes takes_none true o) (are_free ops) f)
    ∙ free_take n ops (and_right (passes takes_none true o) (are_free ops) f)

-- a pattern of others takes no memory
pub free_front : (relation : Relation) (n : ℕ) (rest front : List (Operation Asked))
    → front ≡ take n rest
    → are_free (operation.Others relation n ∷ asked_operations rest) ≡ true
    → are_free (asked_operations front) ≡ true
free_front relation n rest front e f =
    ap (λ xs. are_free (asked_operations xs)) e
    ∙ ap are_free (sym (asked_front n rest))
    ∙ free_take n (asked_operations rest) f

-- and is whole
pub whole_front : (relation : Relation) (n : ℕ) (rest front : List (Operation Asked))
    → front ≡ take n rest
    → AreFramed (operation.Others relation n ∷ asked_operations rest)
    → IsCode (asked_operations front)
whole_front relation n rest front e f =
    subst IsCode (asked_front n rest ∙ ap asked_operations (sym e)) f.0

module _ (people : PlainPeople) (offset : ℤ) (listing : List Message) (place : ℕ) where
  -- the steps of the operations that skip others
  pub steps_unless : (n : ℕ) (held : Bool) (rest left : List (Operation Asked))
      → left ≡ (if not held then drop n rest else rest)
      → Steps people offset listing place held
      (operation.SkipUnless n ∷ asked_operations rest) held (asked_operations left)
  steps_unless n true rest left e =
      subst (λ xs. Steps people offset listing place true
      (operation.SkipUnless n ∷ asked_operations rest) true (asked_operations xs)) (sym e)
      (steps_rest people offset listing place (operation.SkipUnless n) (asked_operations rest)
      true true refl)
  steps_unless n false rest left e =
      subst (λ xs. Steps people offset listing place false
      (operation.SkipUnless n ∷ asked_operations rest) false xs)
      (asked_behind n rest ∙ ap asked_operations (sym e))
      (steps_behind people offset listing place (operation.SkipUnless n) (asked_operations rest)
      n false false (run_drop (asks_at people offset listing place)
      (λ relation t. some_related listing relation place (satisfies people offset listing t))
      n false (asked_operations rest)))

  pub steps_if : (n : ℕ) (held : Bool) (rest left : List (Operation Asked))
      → left ≡ (if held then drop n rest else rest)
      → Steps people offset listing place held
      (operation.SkipIf n ∷ asked_operations rest) held (asked_operations left)
  steps_if n false rest left e =
      subst (λ xs. Steps people offset listing place false
      (operation.SkipIf n ∷ asked_operations rest) false (asked_operations xs)) (sym e)
      (steps_rest people offset listing place (operation.SkipIf n) (asked_operations rest)
      false false refl)
  steps_if n true rest left e =
      subst (λ xs. Steps people offset listing place true
      (operation.SkipIf n ∷ asked_operations rest) true xs)
      (asked_behind n rest ∙ ap asked_operations (sym e))
      (steps_behind people offset listing place (operation.SkipIf n) (asked_operations rest)
      n true true (run_drop (asks_at people offset listing place)
      (λ relation t. some_related listing relation place (satisfies people offset listing t))
      n true (asked_operations rest)))

  pub steps_others : (relation : Relation) (n : ℕ) (held found : Bool)
      (rest front left : List (Operation Asked))
      → found ≡ some_related listing relation place
      (satisfies people offset listing (asked_tree front))
      → front ≡ take n rest → left ≡ drop n rest
      → Steps people offset listing place held
      (operation.Others relation n ∷ asked_operations rest) found (asked_operations left)
  steps_others relation n held found rest front left answer taken left_is =
      let tree : tree_of (take n (asked_operations rest)) ≡ asked_tree front =
      ap tree_of (asked_front n rest ∙ ap asked_operations (sym taken)) in
      let others = λ (t : Tree). some_related listing relation place
      (satisfies people offset listing t) in
      subst (λ xs. Steps people offset listing place held
      (operation.Others relation n ∷ asked_operations rest) found xs)
      (asked_behind n rest ∙ ap asked_operations (sym left_is))
      (steps_behind people offset listing place (operation.Others relation n)
      (asked_operations rest) n held found
      (run_drop (asks_at people offset listing place)
      (λ relation t. some_related listing relation place (satisfies people offset listing t))
      n (others (tree_of (take n (asked_operations rest)))) (asked_operations rest)
      ∙ ap (λ b. in_order people offset listing place b (drop n (asked_operations rest)))
      (ap others tree ∙ sym answer)))

-- a test of each operation is the test of the pattern
pub every_code : (test : Leaf → Bool) (others : Bool) (t : Tree)
    → list_all (passes test others) (code t) ≡ every test others t
every_code test others (Asks leaf) = and-true (test leaf)
every_code test others (Not t) =
    list_all-append (passes test others) (code t) (operation.Negate ∷ [])
    ∙ and-true _ ∙ every_code test others t
every_code test others (Group t) =
    list_all-append (passes test others) (code t) (operation.Group ∷ [])
    ∙ and-true _ ∙ every_code test others t
every_code test others (And a b) =
    let skip = operation.SkipUnless (length (code b)) in
    ap (list_all (passes test others)) (sym (append-nil (code (And a b)))
    ∙ around skip (code a) (code b) operation.Both [])
    ∙ list_all-append (passes test others) (code a)
    (operation.SkipUnless (length (code b)) ∷ (code b ++ operation.Both ∷ []))
    ∙ ap (λ r. list_all (passes test others) (code a) && r)
    (list_all-append (passes test others) (code b) (operation.Both ∷ []) ∙ and-true _)
    ∙ ap (λ r. r && list_all (passes test others) (code b)) (every_code test others a)
    ∙ ap (λ r. every test others a && r) (every_code test others b)
every_code test others (Or a b) =
    let skip = operation.SkipIf (length (code b)) in
    ap (list_all (passes test others)) (sym (append-nil (code (Or a b)))
    ∙ around skip (code a) (code b) operation.Either [])
    ∙ list_all-append (passes test others) (code a)
    (operation.SkipIf (length (code b)) ∷ (code b ++ operation.Either ∷ []))
    ∙ ap (λ r. list_all (passes test others) (code a) && r)
    (list_all-append (passes test others) (code b) (operation.Either ∷ []) ∙ and-true _)
    ∙ ap (λ r. r && list_all (passes test others) (code b)) (every_code test others a)
    ∙ ap (λ r. every test others a && r) (every_code test others b)
every_code test true (Related relation t) =
    list_all-append (passes test true) (code t) (operation.Related relation ∷ [])
    ∙ and-true _ ∙ every_code test true t
every_code test false (Related relation t) = refl
