-- Messages one behind another, in order and by their keys.
use Rattle.std.proofs.Common.{◌≡◌, ◌++◌, ◌&&◌, ◌||◌, ℕ, Bool, true, false, List, [], ◌∷◌, refl, sym}
use Rattle.std.proofs.Common.{ap}
use Rattle.std.specs.Str.{bytes_eq}
use Rattle.std.proofs.lemmas.Slice.Eq.{bytes_eq-Decides}
use Rattle.folder_core.specs.Message.{Message, are_in_order, has_key, stands_before}

true_false : ◌≡◌ {A = Bool} true false → ⊥
true_false e = cc

pub order_more : (front : List Message) (a b : Message) → are_in_order (front ++ a ∷ []) ≡ true
    → stands_before a b ≡ true → are_in_order (front ++ a ∷ b ∷ []) ≡ true
order_more [] a b ordered before = ap (λ (t : Bool). t && true) before
order_more (first ∷ []) a b ordered before =
    by_test (stands_before first a) ordered
  where
    by_test : (t : Bool) → (t && true) ≡ true → (t && (stands_before a b && true)) ≡ true
    by_test true is = ap (λ (t : Bool). t && true) before
    by_test false is = absurd (true_false (sym is))
order_more (first ∷ second ∷ front) a b ordered before =
    by_test (stands_before first second) ordered
    (λ rest. order_more (second ∷ front) a b rest before)
  where
    by_test : (t : Bool) → (t && are_in_order (second ∷ front ++ a ∷ [])) ≡ true
        → (are_in_order (second ∷ front ++ a ∷ []) ≡ true
        → are_in_order (second ∷ front ++ a ∷ b ∷ []) ≡ true)
        → (t && are_in_order (second ∷ front ++ a ∷ b ∷ [])) ≡ true
    by_test true is again = again is
    by_test false is again = absurd (true_false (sym is))

pub key_more : (key : List ℕ) (messages more : List Message) → has_key key messages ≡ true
    → has_key key (messages ++ more) ≡ true
key_more key [] more is = absurd (true_false (sym is))
key_more key (message ∷ messages) more is =
    by_test (bytes_eq message.key key) is (λ rest. key_more key messages more rest)
  where
    by_test : (t : Bool) → (t || has_key key messages) ≡ true
        → (has_key key messages ≡ true → has_key key (messages ++ more) ≡ true)
        → (t || has_key key (messages ++ more)) ≡ true
    by_test true is again = refl
    by_test false is again = again is

pub key_last : (front : List Message) (message : Message)
    → has_key message.key (front ++ message ∷ []) ≡ true
key_last [] message = ap (λ (t : Bool). t || false)
    ((bytes_eq-Decides message.key message.key).1 refl)
key_last (first ∷ front) message = by_test (bytes_eq first.key message.key) (key_last front message)
  where
    by_test : (t : Bool) → has_key message.key (front ++ message ∷ []) ≡ true
        → (t || has_key message.key (front ++ message ∷ [])) ≡ true
    by_test true again = refl
    by_test false again = again
