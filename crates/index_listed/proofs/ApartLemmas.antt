-- Numbers that differ.
use Rattle.std.proofs.Common.{◌≡◌, ◌∙◌, ◌++◌, ◌∷◌, [], ◌||◌, ℕ, Bool, false, List, ap, arith}
use Rattle.std.proofs.Common.{length, nat_eq, ◌≤◌, refl, slice_index_or, sym}
use Rattle.std.proofs.Common.{◌+◌, suc, cond, not, nat_lt, Option, Some, None, map}
use Rattle.std.specs.Prelude.{position}
use Rattle.threads.specs.Message.{PlainMessage, numbers as thread_numbers}
use Rattle.threads.specs.Threads.{place_of}
use Rattle.std.proofs.lemmas.Bool.{le-ltb, or_parts, eqb-false, eqb-true, false_from_ne_true}
use Rattle.mail_base.specs.declared.kind.Id.{Id}
use Rattle.std.specs.List.{AllByRecursion, IsDistinct, list_any, position_or_len}
use Rattle.index_listed.specs.Listed.{ids, plain_listed}
use Rattle.index_listed.specs.Places.{numbers}
use Rattle.index_listed.specs.declared.listed.Listed.{Listed}

other_way : (x n : ℕ) → nat_eq x n ≡ false → nat_eq n x ≡ false
other_way x n apart = false_from_ne_true (nat_eq n x)
    (λ same. eqb-false x n apart (sym (eqb-true n x same)))

apart_from : (x n : ℕ) (front rest : List ℕ)
    → AllByRecursion (λ y. nat_eq x y ≡ false) (front ++ n ∷ rest) → nat_eq x n ≡ false
apart_from x n [] rest apart = apart.0
apart_from x n (y ∷ front) rest apart = apart_from x n front rest apart.1

-- a number that differs from those in front of it is not among them
pub absent_next : (front rest : List ℕ) (n : ℕ) → IsDistinct nat_eq (front ++ n ∷ rest)
    → list_any (nat_eq n) front ≡ false
unfolding IsDistinct
absent_next [] rest n apart = refl
absent_next (x ∷ front) rest n apart =
    ap (λ (b : Bool). b || list_any (nat_eq n) front)
    (other_way x n (apart_from x n front rest apart.0))
    ∙ absent_next front rest n apart.1

-- the first id differs from those in front of it
pub absent_first : (front : List ℕ) (ids : List Id) (d : Id) → 1 ≤ length ids
    → IsDistinct nat_eq (front ++ numbers ids)
    → list_any (nat_eq (slice_index_or ids 0 d).0) front ≡ false
absent_first front [] d some apart = absurd (omega arith)
absent_first front (id ∷ ids) d some apart = absent_next front (numbers ids) id.0 apart

one_more : (n : ℕ) → 1 + n ≡ suc n
one_more n = omega arith

not_less : (n : ℕ) → nat_lt n n ≡ false
not_less n = le-ltb n n (omega arith)

-- what passes nowhere has no place
module _ {X : Type 0} (p : X → Bool) where
  far : (xs : List X) → list_any p xs ≡ false → position_or_len p xs ≡ length xs
  far [] none = refl
  far (x ∷ xs) none =
      let parts = or_parts (p x) (list_any p xs) none in
      ap (λ (b : Bool). cond (not b) (1 + position_or_len p xs) 0) parts.0
      ∙ ap (λ n. 1 + n) (far xs parts.1) ∙ one_more (length xs)

  pub not_placed : (xs : List X) → list_any p xs ≡ false → position p xs ≡ None
  not_placed xs none =
      ap (λ n. cond {A = Option ℕ} (nat_lt n (length xs)) (Some n) None) (far xs none)
      ∙ ap (λ (b : Bool). cond {A = Option ℕ} b (Some (length xs)) None) (not_less (length xs))

-- the first of messages to be put into threads is not there
pub absent_listed : (ms : List PlainMessage) (ls : List Listed) (l : Listed) → 1 ≤ length ls
    → l ≡ slice_index_or ls 0 l
    → IsDistinct nat_eq (thread_numbers ms ++ ids (map plain_listed ls))
    → place_of ms l.id ≡ None
absent_listed ms [] l some at apart = absurd (omega arith)
absent_listed ms (x ∷ ls) l some at apart =
    ap (λ (y : Listed). place_of ms y.id) at
    ∙ not_placed (nat_eq x.id.0) (thread_numbers ms)
    (absent_next (thread_numbers ms) (ids (map plain_listed ls)) x.id.0 apart)
