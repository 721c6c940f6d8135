-- Characters that fit the columns, one after the other.
use Rattle.std.proofs.Common.{◌≡◌, ℕ, ◌+◌, ◌-◌, ◌<◌, ◌≤◌, Bool, true, false, List, [], ◌∷◌, ◌++◌}
use Rattle.std.proofs.Common.{length, get_or, drop}
use Rattle.std.proofs.Common.{map, cond, sym, ap, ◌∙◌, nat_le, arith}
use Rattle.std.proofs.lemmas.List.{at_drop_more, at_drop_all}
use Rattle.std.proofs.lemmas.Bool.Decides.{nat_tests}
use Rattle.std.specs.Prelude.{encode_utf8}
use Rattle.std.specs.Str.{encode_utf8_all}
use Rattle.expando.specs.Columns.{columns_of, shown_char}
use Rattle.expando.specs.Cut.{fitting}
use Rattle.expando.specs.Lines.{blank_in}

-- what the characters from a place on add to a line with so many columns left
abbrev pub added : ℕ → List ℕ → List ℕ
added left cs = encode_utf8_all (fitting left (map shown_char cs))

le_true : (a b : ℕ) → a ≤ b → nat_le a b ≡ true
le_true a b le = grind (arith, nat_tests)

lt_false : (a b : ℕ) → b < a → nat_le a b ≡ false
lt_false a b lt = grind (arith, nat_tests)

-- the character at a place, and those behind it
added_more : (left n c : ℕ) (cs : List ℕ) → (n < length cs) × (c ≡ get_or cs n c)
    → added left (drop n cs) ≡ added left (c ∷ drop (n + 1) cs)
added_more left n c cs at =
    at_drop_more (added left) cs n c at.0
    ∙ ap (λ (x : ℕ). added left (x ∷ drop (n + 1) cs)) (sym at.1)

-- a character that fits
pub added_fit : (left n c : ℕ) (cs : List ℕ) → (n < length cs) × (c ≡ get_or cs n c)
    → columns_of (shown_char c) ≤ left
    → added left (drop n cs)
    ≡ encode_utf8 (shown_char c) ++ added (left - columns_of (shown_char c)) (drop (n + 1) cs)
added_fit left n c cs at fits = added_more left n c cs at ∙ first
  where
    first : added left (c ∷ drop (n + 1) cs)
        ≡ encode_utf8 (shown_char c) ++ added (left - columns_of (shown_char c)) (drop (n + 1) cs)
    first = ap (λ (fits : Bool). encode_utf8_all (cond fits
        (shown_char c ∷ fitting (left - columns_of (shown_char c))
        (map shown_char (drop (n + 1) cs)))
        (blank_in left))) (le_true (columns_of (shown_char c)) left fits)

-- a character that does not fit
pub added_cut : (left n c : ℕ) (cs : List ℕ) → (n < length cs) × (c ≡ get_or cs n c)
    → left < columns_of (shown_char c)
    → added left (drop n cs) ≡ encode_utf8_all (blank_in left)
added_cut left n c cs at wide = added_more left n c cs at ∙ first
  where
    first : added left (c ∷ drop (n + 1) cs) ≡ encode_utf8_all (blank_in left)
    first = ap (λ (fits : Bool). encode_utf8_all (cond fits
        (shown_char c ∷ fitting (left - columns_of (shown_char c))
        (map shown_char (drop (n + 1) cs)))
        (blank_in left))) (lt_false (columns_of (shown_char c)) left wide)

-- no character is left
pub added_end : (left n : ℕ) (cs : List ℕ) → length cs ≤ n → added left (drop n cs) ≡ []
added_end left n cs all = at_drop_all (added left) cs n all
