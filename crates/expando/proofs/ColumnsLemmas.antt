-- Characters that are kept at the front of a text, one after the other.
use Rattle.std.proofs.Common.{◌≡◌, ℕ, ◌+◌, ◌-◌, ◌<◌, ◌≤◌, Bool, true, false, List, [], ◌∷◌, ◌++◌}
use Rattle.std.proofs.Common.{length, get_or, drop, map, cond, sym, ap, ◌∙◌, nat_le, arith}
use Rattle.std.proofs.lemmas.Grind.{replicate_next}
use Rattle.std.proofs.lemmas.List.{at_drop_more, at_drop_all, map-append}
use Rattle.std.proofs.lemmas.Bool.Decides.{nat_tests}
use Rattle.expando.specs.Columns.{blanks, columns_of, kept, shown_char}
use Rattle.expando.specs.declared.cell.Cell.TheVariants.{Shown}

-- one more blank
pub blanks_next : (n : ℕ) → map Shown (blanks (n + 1)) ≡ map Shown (blanks n) ++ Shown 32 ∷ []
blanks_next n = ap (map Shown) (replicate_next n 32) ∙ map-append Shown (blanks n) (32 ∷ [])

-- what the characters from a place on keep of so many columns
abbrev pub kept_from : ℕ → List ℕ → List ℕ
kept_from left cs = kept left (map shown_char cs)

le_true : (a b : ℕ) → a ≤ b → nat_le a b ≡ true
le_true a b le = grind (arith, nat_tests)

lt_false : (a b : ℕ) → b < a → nat_le a b ≡ false
lt_false a b lt = grind (arith, nat_tests)

-- the character at a place, and those behind it
kept_more : (left n c : ℕ) (cs : List ℕ) → (n < length cs) × (c ≡ get_or cs n c)
    → kept_from left (drop n cs) ≡ kept_from left (c ∷ drop (n + 1) cs)
kept_more left n c cs at =
    at_drop_more (kept_from left) cs n c at.0
    ∙ ap (λ (x : ℕ). kept_from left (x ∷ drop (n + 1) cs)) (sym at.1)

-- a character that fits
pub kept_fit : (left n c : ℕ) (cs : List ℕ) → (n < length cs) × (c ≡ get_or cs n c)
    → columns_of (shown_char c) ≤ left
    → kept_from left (drop n cs)
    ≡ shown_char c ∷ kept_from (left - columns_of (shown_char c)) (drop (n + 1) cs)
kept_fit left n c cs at fits =
    kept_more left n c cs at
    ∙ ap (λ (fits : Bool). cond fits
    (shown_char c ∷ kept_from (left - columns_of (shown_char c)) (drop (n + 1) cs)) [])
    (le_true (columns_of (shown_char c)) left fits)

-- a character that does not fit
pub kept_cut : (left n c : ℕ) (cs : List ℕ) → (n < length cs) × (c ≡ get_or cs n c)
    → left < columns_of (shown_char c) → kept_from left (drop n cs) ≡ []
kept_cut left n c cs at wide =
    kept_more left n c cs at
    ∙ ap (λ (fits : Bool). cond fits
    (shown_char c ∷ kept_from (left - columns_of (shown_char c)) (drop (n + 1) cs)) [])
    (lt_false (columns_of (shown_char c)) left wide)

-- no character is left
pub kept_end : (left n : ℕ) (cs : List ℕ) → length cs ≤ n → kept_from left (drop n cs) ≡ []
kept_end left n cs all = at_drop_all (kept_from left) cs n all

-- the columns of a character are counted
pub counted_more : (limit left width rest : ℕ) → left ≤ limit → width ≤ left
    → limit - (left - width) + rest ≡ limit - left + (width + rest)
counted_more limit left width rest within fits = omega arith
