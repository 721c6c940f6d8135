-- What is written into a tail file is read again.
use Rattle.std.proofs.Common.{Bool, List, Some, [], ap, arith, codes, false, nat_lt, refl}
use Rattle.std.proofs.Common.{subst, sym, true, ℕ, ⊎_elim, ◌*◌, ◌+◌, ◌++◌, ◌<◌, ◌==◌, ◌^◌, ◌∙◌}
use Rattle.std.proofs.Common.{◌∷◌, ◌≡◌, ◌≤◌, ◌||◌}
use Rattle.std.proofs.lemmas.Bool.{and_from, cases_Bool, cond-false, cond-true, lt-ltb, ne_eqb}
use Rattle.std.proofs.lemmas.Bool.Decides.{nat_tests}
use Rattle.std.proofs.lemmas.Fmt.{decimal_is_IsNumeral}
use Rattle.std.proofs.lemmas.Slice.Eq.{bytes_eq-Decides}
use Rattle.std.proofs.lemmas.Str.Parse.{digit_from_value}
use Rattle.std.proofs.lemmas.Str.{digit_value_digit}
use Rattle.std.specs.Char.{digit_value, is_ascii_digit}
use Rattle.std.specs.Fmt.{decimal}
use Rattle.std.specs.Int.{IsInRange}
use Rattle.std.specs.Str.{bytes_eq}
use Rattle.std.specs.Str.Parse.{AllDigits, digits_value_after}
use Rattle.folder_tails.specs.Tails.{is_head, is_next_digit, number_line, read_tail, tail_text}
use Rattle.folder_tails.specs.Tails.{with_digit}

-- more digits write no less
no_less : (n : ℕ) (ds : List ℕ) → n ≤ digits_value_after 10 n ds
no_less n [] = omega arith
no_less n (c ∷ cs) =
    let more = no_less (n * 10 + digit_value c) cs in omega (arith, more)

is_digit : (c : ℕ) → IsInRange 48 57 c → is_ascii_digit c ≡ true
is_digit c is = grind (arith, nat_tests)

next : (n c : ℕ) (cs : List ℕ) → IsInRange 48 57 c → digits_value_after 10 n (c ∷ cs) < 2 ^ 64
    → (with_digit n c ≡ n * 10 + digit_value c) × (is_next_digit n c ≡ true)
next n c cs is small =
    let value = digit_value_digit c is in
    let same : with_digit n c ≡ n * 10 + digit_value c = omega (arith, value) in
    let more = no_less (n * 10 + digit_value c) cs in (
      same,
      and_from (is_ascii_digit c) (nat_lt (with_digit n c) (2 ^ 64)) (is_digit c is)
          (lt-ltb (with_digit n c) (2 ^ 64) (omega (arith, same, more, small))),
    )

digits_line : (n : ℕ) (ds rest : List ℕ) → AllDigits 10 ds → digits_value_after 10 n ds < 2 ^ 64
    → number_line n (ds ++ 10 ∷ rest) ≡ Some (digits_value_after 10 n ds, rest)
digits_line n [] rest all small = refl
digits_line n (c ∷ cs) rest all small =
    let is = digit_from_value c all.0 in
    let step = next n c cs is small in
    cond-false (c == 10) _ _ (ne_eqb c 10 (λ e. absurd (omega (arith, is, e))))
    ∙ cond-true (is_next_digit n c) _ _ step.1
    ∙ ap (λ (m : ℕ). number_line m (cs ++ 10 ∷ rest)) step.0
    ∙ digits_line (n * 10 + digit_value c) cs rest all.1 small

decimal_line : (at : ℕ) (tail : List ℕ) → at < 2 ^ 64
    → number_line 0 (decimal at ++ 10 ∷ tail) ≡ Some (at, tail)
decimal_line at tail small =
    let is = decimal_is_IsNumeral at small in
    digits_line 0 (decimal at) tail is.0.1 (subst (λ (n : ℕ). n < 2 ^ 64) (sym is.1) small)
    ∙ ap (λ (n : ℕ). Some (n, tail)) is.1

by_head : (head other : List ℕ) (at : ℕ) (tail : List ℕ) → bytes_eq head other ≡ true
    → read_tail (tail_text other at tail) ≡ Some (at, tail)
    → read_tail (tail_text head at tail) ≡ Some (at, tail)
by_head head other at tail is reads =
    subst (λ (h : List ℕ). read_tail (tail_text h at tail) ≡ Some (at, tail))
    (sym ((bytes_eq-Decides head other).0 is)) reads

pub text_read : (head : List ℕ) (at : ℕ) (tail : List ℕ) → is_head head ≡ true → at < 2 ^ 64
    → read_tail (tail_text head at tail) ≡ Some (at, tail)
text_read head at tail is small = ⊎_elim
    (λ (mbox : bytes_eq head (codes "mbox ") ≡ true).
    by_head head (codes "mbox ") at tail mbox (decimal_line at tail small))
    (λ (other : bytes_eq head (codes "mbox ") ≡ false).
    let mmdf : bytes_eq head (codes "mmdf ") ≡ true =
    ap (λ (b : Bool). b || bytes_eq head (codes "mmdf ")) (sym other) ∙ is in
    by_head head (codes "mmdf ") at tail mmdf (decimal_line at tail small))
    (cases_Bool (bytes_eq head (codes "mbox ")))
