-- Numbers of digits, brought below the greatest order.
use Rattle.std.proofs.Common.{◌≡◌, ◌+◌, ◌-◌, ◌*◌, ◌<◌, ◌≤◌, ℕ, true}
use Rattle.std.proofs.Common.{false, min, List, [], ◌∷◌, arith}
use Rattle.std.proofs.Common.{if◌then◌else◌, ⊎_elim, ap, refl, length}
use Rattle.std.proofs.Common.{take, drop, slice_index_or, ◌∙◌}
use Rattle.std.proofs.lemmas.List.{take_all}
use Rattle.std.proofs.lemmas.Bool.{cases_lt}
use Rattle.std.specs.Char.{is_ascii_digit}
use Rattle.maildir_names.specs.BaseOrder.{last_order, number_behind, with_digit}

-- no number gets smaller by digits behind it
pub number_grows : (n : ℕ) (text : List ℕ) → n ≤ number_behind n text
number_grows n [] = omega arith
number_grows n (b ∷ rest) =
    let more = number_grows (n * 10 + (b - 48)) rest in
    elim (is_ascii_digit b) as (λ t. n ≤ (if t then number_behind (n * 10 + (b - 48)) rest else n))
    [ true ↦ omega arith | false ↦ omega arith ]

-- numbers that are one where they are brought below it stay so
pub capped : (a b : ℕ) (rest : List ℕ) → min a last_order ≡ min b last_order
    → min (number_behind a rest) last_order ≡ min (number_behind b rest) last_order
capped a b rest same =
    ⊎_elim (λ below. ap (λ n. min (number_behind n rest) last_order) (equal below))
    (λ above. both_above (number_grows a rest) (number_grows b rest) above)
    (cases_lt a last_order)
  where
    equal : a < last_order → a ≡ b
    equal below = omega arith

    both_above : a ≤ number_behind a rest → b ≤ number_behind b rest → last_order ≤ a
        → min (number_behind a rest) last_order ≡ min (number_behind b rest) last_order
    both_above more_a more_b above = omega arith

-- at a digit
pub digit_capped : (n b : ℕ) (rest : List ℕ) → is_ascii_digit b ≡ true
    → min (number_behind (with_digit n b) rest) last_order
    ≡ min (number_behind n (b ∷ rest)) last_order
digit_capped n b rest digit =
    rw digit (capped (with_digit n b) (n * 10 + (b - 48)) rest (omega arith))

-- at another byte the number ends
pub number_ends : (n b : ℕ) (rest : List ℕ) → is_ascii_digit b ≡ false
    → number_behind n (b ∷ rest) ≡ n
number_ends n b rest other = rw other refl

-- a step at a digit, as a slice is read
pub digit_step : (n : ℕ) (text : List ℕ) → 1 ≤ length text
    → is_ascii_digit (slice_index_or text 0 0) ≡ true
    → min (number_behind (with_digit n (slice_index_or text 0 0)) (take (length text - 1)
    (drop 1 text))) last_order
    ≡ min (number_behind n text) last_order
digit_step n [] some digit = absurd (omega arith)
digit_step n (b ∷ rest) some digit =
    ap (λ t. min (number_behind (with_digit n b) t) last_order)
    (take_all (length (b ∷ rest) - 1) rest (omega arith))
    ∙ digit_capped n b rest digit
