-- Parentheses that are open, the last one at the end of a list.
use Rattle.std.proofs.Common.{◌≡◌, ◌∙◌, ◌++◌, List, [], ◌∷◌, ℕ, Some, None, Err, length, map}
use Rattle.std.proofs.Common.{reverse, refl, ap}
use Rattle.std.proofs.lemmas.List.{length-map, length-reverse, map-append, reverse-append}
use Rattle.patterns.specs.Faults.{Unbalanced}
use Rattle.patterns.specs.Patterns.{Opened, Side, ended, first_opened}
use Rattle.patterns.specs.States.{first_place, plain_opened}
use Rattle.patterns.specs.declared.state.Opened.{Opened as HeldOpened}

pub opened_last : (xs : List HeldOpened) (x : HeldOpened)
    → reverse (map plain_opened (xs ++ x ∷ []))
    ≡ plain_opened x ∷ reverse (map plain_opened xs)
opened_last xs x =
    ap reverse (map-append plain_opened xs (x ∷ []))
    ∙ reverse-append (map plain_opened xs) (plain_opened x ∷ [])

pub opened_length : (xs : List HeldOpened) → length (reverse (map plain_opened xs)) ≡ length xs
opened_length xs = length-reverse (map plain_opened xs) ∙ length-map xs plain_opened

first_last : (o p : Opened) (os : List Opened) → first_opened o (os ++ p ∷ []) ≡ p.place
first_last o p [] = refl
first_last o p (q ∷ os) = first_last q p os

ended_last : (side : Side) (os : List Opened) (p : Opened)
    → ended side (os ++ p ∷ []) ≡ Err (Unbalanced p.place)
ended_last side [] p = refl
ended_last side (o ∷ os) p = ap (λ n. Err (Unbalanced n)) (first_last o p os)

first_behind : (x : HeldOpened) (xs : List HeldOpened)
    → reverse (map plain_opened (x ∷ xs)) ≡ reverse (map plain_opened xs) ++ plain_opened x ∷ []
first_behind x xs = reverse-append (plain_opened x ∷ []) (map plain_opened xs)

pub ended_open : (side : Side) (xs : List HeldOpened) (place : ℕ) → first_place xs ≡ Some place
    → ended side (reverse (map plain_opened xs)) ≡ Err (Unbalanced place)
ended_open side [] place is = cc
ended_open side (x ∷ xs) place is =
    let same : x.place ≡ place = cc in
    ap (ended side) (first_behind x xs)
    ∙ ended_last side (reverse (map plain_opened xs)) (plain_opened x)
    ∙ ap (λ n. Err (Unbalanced n)) same

pub none_open : (xs : List HeldOpened) → first_place xs ≡ None
    → reverse (map plain_opened xs) ≡ []
none_open [] is = refl
none_open (x ∷ xs) is = cc
