-- Texts round a byte that is not in them.
use Rattle.std.proofs.Common.{◌≡◌, ◌==◌, ◌+◌, ◌∙◌, ◌&&◌, ◌++◌, ℕ, Bool, true, false, not, List, []}
use Rattle.std.proofs.Common.{◌∷◌, Some, None, drop, length, nat_lt, option_map, refl, ap, arith}
use Rattle.std.proofs.Common.{length-append, position}
use Rattle.std.proofs.Math.Seq.{take-append_seam, drop-append-add}
use Rattle.std.proofs.lemmas.Bool.{and_parts}
use Rattle.std.proofs.lemmas.Bool.Decides.{nat_tests}
use Rattle.std.specs.Char.{is_ascii_digit}
use Rattle.std.specs.List.{list_all, position_or_len}
use Rattle.std.specs.Str.{all_ascii_digits}
use Rattle.mail_base.specs.Places.{around, split_once}
use Rattle.mail_base.proofs.RoundPlaces.{prefix_all, prefix_stop}
use Rattle.patterns.specs.Printed.{lacks}

-- what holds of each digit holds of digits
pub digits_all : (q : ℕ → Bool) → ((d : ℕ) → is_ascii_digit d ≡ true → q d ≡ true)
    → (ds : List ℕ) → all_ascii_digits ds ≡ true → list_all q ds ≡ true
digits_all q each [] all = refl
digits_all q each (d ∷ ds) all =
    let both = and_parts (is_ascii_digit d) (all_ascii_digits ds) all in
    ap (λ b. b && list_all q ds) (each d both.0) ∙ digits_all q each ds both.1

-- what stands round the first such byte
pub split_read : (q : ℕ) (xs rest : List ℕ) → lacks q xs ≡ true
    → split_once q (xs ++ q ∷ rest) ≡ Some (xs, rest)
split_read q xs rest none =
    let place : position_or_len (λ x. x == q) (xs ++ q ∷ rest) ≡ length xs =
    prefix_stop (λ x. not (x == q)) xs q rest none (grind (arith, nat_tests)) in
    let long = length-append xs (q ∷ rest) in
    let within : nat_lt (length xs) (length (xs ++ q ∷ rest)) ≡ true = grind (arith, nat_tests) in
    let at : position (λ x. x == q) (xs ++ q ∷ rest) ≡ Some (length xs) =
    rw (place, within) refl in
    ap (option_map (around (xs ++ q ∷ rest))) at
    ∙ ap (λ l. Some (l, drop (length xs + 1) (xs ++ q ∷ rest))) (take-append_seam xs (q ∷ rest))
    ∙ ap (λ l. Some (xs, l)) (drop-append-add xs (q ∷ rest) 1)

pub no_split : (q : ℕ) (xs : List ℕ) → lacks q xs ≡ true → split_once q xs ≡ None
no_split q xs none =
    let place : position_or_len (λ x. x == q) xs ≡ length xs =
    prefix_all (λ x. not (x == q)) xs none in
    let past : nat_lt (length xs) (length xs) ≡ false = grind (arith, nat_tests) in
    let at : position (λ x. x == q) xs ≡ None = rw (place, past) refl in
    ap (option_map (around xs)) at
