-- Patterns made of others.
use Rattle.std.proofs.Common.{◌≡◌, ◌∙◌, ◌++◌, List, [], ◌∷◌, length, sym, ap, arith}
use Rattle.std.specs.Prelude.{Vec, vec_len}
use Rattle.std.specs.declared.alloc.Global.{Global}
use Rattle.std.proofs.lemmas.List.{length-map, map-append}
use Rattle.patterns.specs.Needs.{plain_need}
use Rattle.patterns_match.specs.Operations.{IsCode, code, operation_map}
use Rattle.patterns.specs.Needs.{made, plain_operations}
use Rattle.patterns_match.specs.Trees.{Tree}
use Rattle.patterns.specs.declared.need.Need.{Need}
use Rattle.patterns_match.specs.declared.operation.Operation.{Operation}
use Rattle.patterns_match.proofs.OperationLemmas.{is_code}

pub vec_length : {X : Type 0} (v : Vec X Global) → vec_len v ≡ length v.items
vec_length v = omega arith

-- the tree of operations, which are those of a pattern
pub record Makes (operations : List (Operation Need)) (tree : Tree) : Type 0 where
  pub tree_is : made operations ≡ tree
  pub is_code : IsCode (plain_operations operations)

pub makes : (operations : List (Operation Need)) (tree : Tree)
    → plain_operations operations ≡ code tree → Makes operations tree
makes operations tree is =
    let found = is_code (plain_operations operations) tree is in
    record { tree_is = found.0; is_code = found.1 }

pub with_last : (f : Tree → Tree) (o : Operation Need) (xs ys : List (Operation Need))
    → ys ≡ xs ++ o ∷ [] → IsCode (plain_operations xs)
    → ((t : Tree) → code (f t) ≡ code t ++ operation_map plain_need o ∷ [])
    → Makes ys (f (made xs))
with_last f o xs ys is coded step =
    makes ys (f (made xs))
    (ap plain_operations is ∙ map-append (operation_map plain_need) xs (o ∷ [])
    ∙ ap (λ l. l ++ operation_map plain_need o ∷ []) coded ∙ sym (step (made xs)))

around : (xs zs : List (Operation Need)) (o p : Operation Need)
    → plain_operations (xs ++ o ∷ [] ++ zs ++ p ∷ [])
    ≡ plain_operations xs ++ operation_map plain_need o ∷ [] ++ plain_operations zs
    ++ operation_map plain_need p ∷ []
around xs zs o p = simp map-append

pub joined : (f : Tree → Tree → Tree) (o p : Operation Need) (xs zs ys : List (Operation Need))
    → ys ≡ xs ++ o ∷ [] ++ zs ++ p ∷ [] → IsCode (plain_operations xs)
    → IsCode (plain_operations zs)
    → ((a b : Tree) → length (code b) ≡ length zs → code (f a b)
    ≡ code a ++ operation_map plain_need o ∷ [] ++ code b ++ operation_map plain_need p ∷ [])
    → Makes ys (f (made xs) (made zs))
joined f o p xs zs ys is left right step =
    let long : length (code (made zs)) ≡ length zs =
    ap length (sym right) ∙ length-map zs (operation_map plain_need) in
    makes ys (f (made xs) (made zs))
    (ap plain_operations is ∙ around xs zs o p
    ∙ ap (λ l. l ++ operation_map plain_need o ∷ [] ++ plain_operations zs
    ++ operation_map plain_need p ∷ []) left
    ∙ ap (λ l. code (made xs) ++ operation_map plain_need o ∷ [] ++ l
    ++ operation_map plain_need p ∷ []) right
    ∙ sym (step (made xs) (made zs) long))

pub related : (f : Tree → Tree) (o p : Operation Need) (zs ys : List (Operation Need))
    → ys ≡ [] ++ o ∷ [] ++ zs ++ p ∷ [] → IsCode (plain_operations zs)
    → ((b : Tree) → length (code b) ≡ length zs → code (f b)
    ≡ operation_map plain_need o ∷ [] ++ code b ++ operation_map plain_need p ∷ [])
    → Makes ys (f (made zs))
related f o p zs ys is right step =
    let long : length (code (made zs)) ≡ length zs =
    ap length (sym right) ∙ length-map zs (operation_map plain_need) in
    makes ys (f (made zs))
    (ap plain_operations is ∙ around [] zs o p
    ∙ ap (λ l. operation_map plain_need o ∷ [] ++ l ++ operation_map plain_need p ∷ []) right
    ∙ sym (step (made zs) long))
