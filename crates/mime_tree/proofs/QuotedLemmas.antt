-- How bodies in quoted-printable are decoded from one `=` to the next.
use Rattle.std.proofs.Common.{◌≡◌, ℕ, zero, suc, ◌+◌, ◌<◌, ◌==◌, true, false, List, [], ◌∷◌, ◌++◌}
use Rattle.std.proofs.Common.{length, take, drop, Option, Some, None, refl, sym, ap, subst, ◌∙◌}
use Rattle.std.proofs.Common.{arith, position, slice_index, option_map, MatchOption}
use Rattle.std.specs.Prelude.{if◌then◌else◌}
use Rattle.std.specs.Str.{byte}
use Rattle.std.proofs.lemmas.List.Quantifiers.{position-Some}
use Rattle.std.proofs.lemmas.List.Sums.{fails_before_first}
use Rattle.mail_base.specs.Places.{around, split_once}
use Rattle.mail_base.proofs.PlacesLemmas.{place_none}
use Rattle.mime_tree.specs.Quoted.{escaped_byte, unquoted, unquoted_from}

-- what an `=` at the front of a text gives, and what follows
abbrev pub escaped_text : List ℕ → List ℕ
escaped_text rest = (escaped_byte rest).0 ∷ unquoted_from (escaped_byte rest).1 rest

plain_front : (k : ℕ) (s : List ℕ) → k < length s → (slice_index s k == byte "=") ≡ true
    → ((j : ℕ) → j < k → (slice_index s j == byte "=") ≡ false)
    → unquoted s ≡ take k s ++ escaped_text (drop (suc k) s)
plain_front k [] less at before = absurd (omega arith)
plain_front zero (b ∷ rest) less at before =
    ap (λ t. if t then escaped_text rest else b ∷ unquoted rest) at
plain_front (suc k) (b ∷ rest) less at before =
    ap (λ t. if t then escaped_text rest else b ∷ unquoted rest) (before 0 (omega arith))
    ∙ ap (λ l. b ∷ l)
    (plain_front k rest (omega arith) at (λ j below. before (suc j) (omega arith)))

-- a text up to its first `=`, and behind it
unquoted_some : (s : List ℕ) (k : ℕ) → position (λ b. b == byte "=") s ≡ Some k
    → unquoted s ≡ take k s ++ escaped_text (drop (k + 1) s)
unquoted_some s k found =
    let first = position-Some (λ b. b == byte "=") s k 0 found in
    let next : suc k ≡ k + 1 = omega arith in
    plain_front k s first.0 first.1 first.2 ∙ ap (λ n. take k s ++ escaped_text (drop n s)) next

all_plain : (s : List ℕ) → ((j : ℕ) → j < length s → (slice_index s j == byte "=") ≡ false)
    → unquoted s ≡ s
all_plain [] none = refl
all_plain (b ∷ rest) none =
    ap (λ t. if t then escaped_text rest else b ∷ unquoted rest) (none 0 (omega arith))
    ∙ ap (λ l. b ∷ l) (all_plain rest (λ j below. none (suc j) (omega arith)))

-- a text without `=` stays
unquoted_none : (s : List ℕ) → position (λ b. b == byte "=") s ≡ None → unquoted s ≡ s
unquoted_none s none =
    let past = place_none (λ b. b == byte "=") s none in
    all_plain s (λ j below. fails_before_first (λ b. b == byte "=") s j 0 (omega arith))

by_place : (s : List ℕ) (place : Option ℕ) → position (λ b. b == byte "=") s ≡ place
    → (o : Option (List ℕ × List ℕ))
    → o ≡ option_map (around s) place
    → MatchOption o (unquoted s ≡ s) (λ p. unquoted s ≡ p.0 ++ escaped_text p.1)
by_place s None none o e =
    let Is : Option (List ℕ × List ℕ) → Type 0 =
    λ o. MatchOption o (unquoted s ≡ s) (λ p. unquoted s ≡ p.0 ++ escaped_text p.1) in
    subst Is (sym e) (unquoted_none s none)
by_place s (Some k) found o e =
    let Is : Option (List ℕ × List ℕ) → Type 0 =
    λ o. MatchOption o (unquoted s ≡ s) (λ p. unquoted s ≡ p.0 ++ escaped_text p.1) in
    subst Is (sym e) (unquoted_some s k found)

-- a text cut at its first `=`
pub unquoted-split_once : (s : List ℕ) (o : Option (List ℕ × List ℕ)) → o ≡ split_once (byte "=") s
    → MatchOption o (unquoted s ≡ s) (λ p. unquoted s ≡ p.0 ++ escaped_text p.1)
unquoted-split_once s o e = by_place s (position (λ b. b == byte "=") s) refl o e
