-- Texts that are cut at a byte.
use Rattle.std.proofs.Common.{◌≡◌, ◌+◌, ◌==◌, ◌++◌, ℕ, suc, Bool, true}
use Rattle.std.proofs.Common.{false}
use Rattle.std.proofs.Common.{not, List, [], ◌∷◌, Option, Some, None, length, nat_lt, cond}
use Rattle.std.proofs.Common.{refl, sym, ◌∙◌, ap, arith, take}
use Rattle.std.proofs.Common.{drop, length-append, option_map, one-add, position}
use Rattle.std.proofs.Math.Dec.{leb-suc-suc}
use Rattle.std.proofs.Math.Seq.{take-append_seam, drop-append-add}
use Rattle.std.proofs.lemmas.Bool.{and_from, and_parts, lt-ltb}
use Rattle.std.proofs.lemmas.Bool.Decides.{nat_tests}
use Rattle.std.specs.List.{list_all, position_or_len}
use Rattle.mail_base.specs.Places.{around, split_once}
use Rattle.mail_base.proofs.RoundPlaces.{prefix_all, prefix_stop}

true_false : ◌≡◌ {A = Bool} true false → ⊥
true_false e = cc

none_some : {A : Type 0} (x : A) → ◌≡◌ {A = Option A} None (Some x) → ⊥
none_some x e = cc

some_same : {A : Type 0} (x y : A) → ◌≡◌ {A = Option A} (Some x) (Some y) → x ≡ y
some_same x y e = cc

-- no byte is so
abbrev pub lacks : (ℕ → Bool) → List ℕ → Bool
lacks p xs = list_all (λ x. not (p x)) xs

abbrev pub is_end : ℕ → Bool
is_end b = b == 10

abbrev pub is_colon : ℕ → Bool
is_colon b = b == 58

abbrev pub is_dash : ℕ → Bool
is_dash b = b == 45

-- Texts that are cut.

pub split_read : (q : ℕ) (xs rest : List ℕ) → lacks (λ x. x == q) xs ≡ true
    → split_once q (xs ++ q ∷ rest) ≡ Some (xs, rest)
split_read q xs rest none =
    let place : position_or_len (λ x. x == q) (xs ++ q ∷ rest) ≡ length xs =
    prefix_stop (λ x. not (x == q)) xs q rest none (grind (arith, nat_tests)) in
    let long = length-append xs (q ∷ rest) in
    let within : nat_lt (length xs) (length (xs ++ q ∷ rest)) ≡ true = grind (arith, nat_tests) in
    let at : position (λ x. x == q) (xs ++ q ∷ rest) ≡ Some (length xs) =
    rw (place, within) refl in
    ap (option_map (around (xs ++ q ∷ rest))) at
    ∙ ap (λ l. Some (l, drop (length xs + 1) (xs ++ q ∷ rest))) (take-append_seam xs (q ∷ rest))
    ∙ ap (λ l. Some (xs, l)) (drop-append-add xs (q ∷ rest) 1)

pub no_split : (q : ℕ) (xs : List ℕ) → lacks (λ x. x == q) xs ≡ true → split_once q xs ≡ None
no_split q xs none =
    let place : position_or_len (λ x. x == q) xs ≡ length xs =
    prefix_all (λ x. not (x == q)) xs none in
    let past : nat_lt (length xs) (length xs) ≡ false = grind (arith, nat_tests) in
    let at : position (λ x. x == q) xs ≡ None = rw (place, past) refl in
    ap (option_map (around xs)) at

abbrev onto : ℕ → List ℕ × List ℕ → List ℕ × List ℕ
onto c p = (c ∷ p.0, p.1)

abbrev cut_at : List ℕ → ℕ → Bool → Option (List ℕ × List ℕ)
cut_at text place within = option_map (around text) (cond within (Some place) None)

split_here : (b c : ℕ) (text : List ℕ) → (c == b) ≡ true
    → split_once b (c ∷ text) ≡ Some ([], text)
split_here b c text is =
    let m = position_or_len (λ x. x == b) text in
    ap (λ t. cut_at (c ∷ text) (cond (not t) (1 + m) 0)
    (nat_lt (cond (not t) (1 + m) 0) (suc (length text)))) is
    ∙ ap (cut_at (c ∷ text) 0) (lt-ltb 0 (suc (length text)) (omega arith))

cut_later : (c : ℕ) (text : List ℕ) (m : ℕ) (within : Bool)
    → cut_at (c ∷ text) (suc m) within ≡ option_map (onto c) (cut_at text m within)
cut_later c text m false = refl
cut_later c text m true =
    let at : suc m + 1 ≡ suc (m + 1) = omega arith in
    ap (λ n. Some (c ∷ take m text, drop n (c ∷ text))) at

split_later : (b c : ℕ) (text : List ℕ) → (c == b) ≡ false
    → split_once b (c ∷ text) ≡ option_map (onto c) (split_once b text)
split_later b c text is =
    let m = position_or_len (λ x. x == b) text in
    ap (λ t. cut_at (c ∷ text) (cond (not t) (1 + m) 0)
    (nat_lt (cond (not t) (1 + m) 0) (suc (length text)))) is
    ∙ ap (λ n. cut_at (c ∷ text) n (nat_lt n (suc (length text)))) (one-add m)
    ∙ ap (cut_at (c ∷ text) (suc m)) (leb-suc-suc (suc m) (length text))
    ∙ cut_later c text m (nat_lt m (length text))

-- what stands before the cut lacks the byte, and what the text lacks
pub front_lacks : (q : ℕ) (p : ℕ → Bool) (text : List ℕ) (cut : List ℕ × List ℕ)
    → split_once q text ≡ Some cut → lacks p text ≡ true
    → (lacks (λ x. x == q) cut.0 ≡ true) × (lacks p cut.0 ≡ true)
front_lacks q p [] cut is none = absurd (none_some cut is)
front_lacks q p (c ∷ text) cut is none =
    let both = and_parts (not (p c)) (lacks p text) none in
    by (c == q) refl both.0 (split_once q text) refl
    (λ rest at. front_lacks q p text rest at both.1)
  where
    by : (t : Bool) → (c == q) ≡ t → not (p c) ≡ true → (behind : Option (List ℕ × List ℕ))
        → split_once q text ≡ behind
        → ((rest : List ℕ × List ℕ) → split_once q text ≡ Some rest
        → (lacks (λ x. x == q) rest.0 ≡ true) × (lacks p rest.0 ≡ true))
        → (lacks (λ x. x == q) cut.0 ≡ true) × (lacks p cut.0 ≡ true)
    by true here other behind at again =
        let same = some_same ([], text) cut (sym (split_here q c text here) ∙ is) in (
          ap (λ (x : List ℕ × List ℕ). lacks (λ y. y == q) x.0) (sym same),
          ap (λ (x : List ℕ × List ℕ). lacks p x.0) (sym same),
        )
    by false here other None at again =
        absurd (none_some cut (sym (ap (option_map (onto c)) at) ∙ sym (split_later q c text here)
        ∙ is))
    by false here other (Some rest) at again =
        let same = some_same (onto c rest) cut (sym (ap (option_map (onto c)) at)
        ∙ sym (split_later q c text here) ∙ is) in
        let both = again rest at in (
          ap (λ (x : List ℕ × List ℕ). lacks (λ y. y == q) x.0) (sym same)
              ∙ and_from (not (c == q)) (lacks (λ y. y == q) rest.0) (ap not here) both.0,
          ap (λ (x : List ℕ × List ℕ). lacks p x.0) (sym same)
              ∙ and_from (not (p c)) (lacks p rest.0) other both.1,
        )
