-- How white space is left out of a text, run by run.
use Rattle.std.proofs.Common.{◌≡◌, ℕ, zero, suc, ◌+◌, ◌<◌, ◌==◌, Bool, true, false, not, List, []}
use Rattle.std.proofs.Common.{◌∷◌, ◌++◌, length, take, drop, Option, Some, None, position, filter}
use Rattle.std.proofs.Common.{refl, ap, sym, subst, ◌∙◌, arith, slice_index, option_map}
use Rattle.std.proofs.Common.{MatchOption, nat_lt}
use Rattle.std.specs.List.{list_all}
use Rattle.std.specs.Str.{byte}
use Rattle.std.proofs.lemmas.Bool.{and_parts, eqb-true}
use Rattle.std.proofs.lemmas.Bool.Decides.{nat_tests}
use Rattle.std.proofs.lemmas.List.Quantifiers.{position-Some}
use Rattle.mail_base.specs.Places.{around, split_once}
use Rattle.mime_tree.specs.Base64Body.{is_solid}
use Rattle.std.specs.Prelude.{if◌then◌else◌}
use Rattle.std.specs.List.{before_first, after_first, position_or_len}
use Rattle.std.proofs.lemmas.List.{append-nil}
use Rattle.mail_base.proofs.PlacesLemmas.{before_first_some, after_first_some, before_first_none}
use Rattle.mail_base.proofs.PlacesLemmas.{after_first_none}

-- what a run that goes on, or one that ends here, leaves
runs_by : {X : Type 0} (p : X → Bool) (x : X) (xs : List X) (len : ℕ) (t : Bool)
    → filter p xs ≡ take len xs ++ filter p (drop (len + 1) xs)
    → (if t then x ∷ filter p xs else filter p xs)
    ≡ take (if not (not t) then 1 + len else 0) (x ∷ xs)
    ++ filter p (drop ((if not (not t) then 1 + len else 0) + 1) (x ∷ xs))
runs_by p x xs len true more =
    let at : suc len ≡ 1 + len = omega arith in
    let past : suc (len + 1) ≡ 1 + len + 1 = omega arith in
    ap (λ l. x ∷ l) more
    ∙ ap (λ n. take n (x ∷ xs) ++ filter p (drop (suc (len + 1)) (x ∷ xs))) at
    ∙ ap (λ n. take (1 + len) (x ∷ xs) ++ filter p (drop n (x ∷ xs))) past
runs_by p x xs len false more = refl

-- the run at the front, and what stays behind the first that goes
filter_runs : {X : Type 0} (p : X → Bool) (xs : List X)
    → filter p xs ≡ before_first (λ x. not (p x)) xs ++ filter p (after_first (λ x. not (p x)) xs)
filter_runs p [] = refl
filter_runs p (x ∷ xs) =
    runs_by p x xs (position_or_len (λ y. not (p y)) xs) (p x) (filter_runs p xs)

pub filter_some : {X : Type 0} (p : X → Bool) (xs : List X) (k : ℕ)
    → position (λ x. not (p x)) xs ≡ Some k
    → filter p xs ≡ take k xs ++ filter p (drop (k + 1) xs)
filter_some p xs k found =
    filter_runs p xs
    ∙ ap (λ l. l ++ filter p (after_first (λ x. not (p x)) xs))
    (before_first_some (λ x. not (p x)) xs k found)
    ∙ ap (λ l. take k xs ++ filter p l) (after_first_some (λ x. not (p x)) xs k found)

pub filter_none : {X : Type 0} (p : X → Bool) (xs : List X) → position (λ x. not (p x)) xs ≡ None
    → filter p xs ≡ xs
filter_none p xs none =
    filter_runs p xs
    ∙ ap (λ l. l ++ filter p (after_first (λ x. not (p x)) xs))
    (before_first_none (λ x. not (p x)) xs none)
    ∙ ap (λ l. xs ++ filter p l) (after_first_none (λ x. not (p x)) xs none)
    ∙ append-nil xs

solid_above : (b : ℕ) → nat_lt 32 b ≡ true → is_solid b ≡ true
solid_above b above = grind (arith, nat_tests)

-- a text whose bytes are all above the blank has no white space
pub filter_above : (s : List ℕ) → list_all (λ b. nat_lt 32 b) s ≡ true → filter is_solid s ≡ s
filter_above [] above = refl
filter_above (b ∷ rest) above =
    let both = and_parts (nat_lt 32 b) (list_all (λ c. nat_lt 32 c) rest) above in
    ap (λ t. if t then b ∷ filter is_solid rest else filter is_solid rest) (solid_above b both.0)
    ∙ ap (λ l. b ∷ l) (filter_above rest both.1)

solid_by : (b : ℕ) (rest front back : List ℕ) (t : Bool)
    → filter is_solid rest ≡ filter is_solid front ++ back
    → (if t then b ∷ filter is_solid rest else filter is_solid rest)
    ≡ (if t then b ∷ filter is_solid front else filter is_solid front) ++ back
solid_by b rest front back true more = ap (λ l. b ∷ l) more
solid_by b rest front back false more = more

cut_at_feed : (k : ℕ) (s : List ℕ) → k < length s → (slice_index s k == byte "\n") ≡ true
    → filter is_solid s ≡ filter is_solid (take k s) ++ filter is_solid (drop (suc k) s)
cut_at_feed k [] less at = absurd (omega arith)
cut_at_feed zero (b ∷ rest) less at =
    ap (λ c. filter is_solid (c ∷ rest)) (eqb-true b (byte "\n") at)
cut_at_feed (suc k) (b ∷ rest) less at =
    solid_by b rest (take k rest) (filter is_solid (drop (suc k) rest)) (is_solid b)
    (cut_at_feed k rest (omega arith) at)

abbrev IsCut : List ℕ → Option (List ℕ × List ℕ) → Type 0
IsCut s o = MatchOption o Unit (λ p. filter is_solid s ≡ filter is_solid p.0 ++ filter is_solid p.1)

cut_by : (s : List ℕ) (place : Option ℕ) → position (λ b. b == byte "\n") s ≡ place
    → IsCut s (option_map (around s) place)
cut_by s None none = tt
cut_by s (Some k) found =
    let first = position-Some (λ b. b == byte "\n") s k 0 found in
    let next : suc k ≡ k + 1 = omega arith in
    cut_at_feed k s first.0 first.1
    ∙ ap (λ n. filter is_solid (take k s) ++ filter is_solid (drop n s)) next

-- a text cut at its first line feed
pub filter_cut : (s : List ℕ) (o : Option (List ℕ × List ℕ)) → o ≡ split_once (byte "\n") s
    → MatchOption o Unit (λ p. filter is_solid s ≡ filter is_solid p.0 ++ filter is_solid p.1)
filter_cut s o is = subst (IsCut s) (sym is) (cut_by s (position (λ b. b == byte "\n") s) refl)
