-- Tests of the messages of a listing.
use Rattle.std.proofs.Common.{◌≡◌, ◌==◌, ◌∙◌, ◌||◌, ◌&&◌, ◌<◌, ℕ, zero, suc, Bool, true, false}
use Rattle.std.proofs.Common.{List, [], ◌∷◌, length, refl, sym, ap, arith, zero-add}
use Rattle.std.proofs.Math.Bool.{or-true}
use Rattle.std.proofs.lemmas.Bool.{eq-eqb, eqb-true, false≢true}
use Rattle.std.proofs.lemmas.Option.{none-some, slice_get-get_or}
use Rattle.std.proofs.lemmas.List.Folds.{list_any_at, list_any_none}
use Rattle.std.proofs.lemmas.List.FromFn.{get_or-range_with_len, length-range_with_len}
use Rattle.std.proofs.Common.{Option, Some, None, option_map, unwrap_or}
use Rattle.std.specs.Prelude.{slice_get}
use Rattle.std.specs.List.{list_any, range_with_len}
use Rattle.patterns_match.specs.Listings.{Message}
use Rattle.patterns_match.specs.Satisfies.{are_related, is_place, is_related, passes}
use Rattle.patterns_match.specs.Satisfies.{some_related}
use Rattle.patterns_match.specs.declared.relation.Relation.{Relation}
use Rattle.patterns_match.specs.declared.relation.Relation.TheVariants.{Parent}

pub any_at : (p : Message → Bool) (xs : List Message) (k : ℕ) → passes p (slice_get xs k) ≡ true
    → list_any p xs ≡ true
any_at p [] k e = e
any_at p (x ∷ xs) zero e = ap (λ b. b || list_any p xs) e
any_at p (x ∷ xs) (suc k) e = ap (λ b. p x || b) (any_at p xs k e) ∙ or-true (p x)

pub any_none : (p : Message → Bool) (xs : List Message)
    → ((k : ℕ) → k < length xs → passes p (slice_get xs k) ≡ false) → list_any p xs ≡ false
any_none p [] none = refl
any_none p (x ∷ xs) none =
    ap (λ b. b || list_any p xs) (none 0 (omega arith))
    ∙ any_none p xs (λ k within. none (suc k) (omega arith))

pub range_at : (p : ℕ → Bool) (n k : ℕ) → k < n → p k ≡ true
    → list_any p (range_with_len 0 n) ≡ true
range_at p n k within here =
    list_any_at p (range_with_len 0 n) k 0 (omega (arith, length-range_with_len 0 n))
    (ap p (get_or-range_with_len 0 n k 0 within ∙ zero-add k) ∙ here)

pub range_none : (p : ℕ → Bool) (n : ℕ) → ((k : ℕ) → k < n → p k ≡ false)
    → list_any p (range_with_len 0 n) ≡ false
range_none p n none =
    list_any_none p (range_with_len 0 n) (λ k d within.
    let inside : k < n = omega (arith, length-range_with_len 0 n) in
    ap p (get_or-range_with_len 0 n k d inside ∙ zero-add k) ∙ none k inside)

-- the parent of a message passes a test
pub parent_passes : (o : Option Message) (parent : Option ℕ) (place : ℕ)
    → Some parent ≡ option_map (λ m. m.parent) o
    → passes (λ m. is_place place m.parent) o ≡ is_place place parent
parent_passes None parent place e = absurd (none-some parent (sym e))
parent_passes (Some m) parent place e = sym (ap (λ o. is_place place (unwrap_or o parent)) e)

-- whether a message that is so related passes a test: none where there is no message
pub none_related : (listing : List Message) (relation : Relation) (place : ℕ) (test : ℕ → Bool)
    → None ≡ slice_get listing place → some_related listing relation place test ≡ false
none_related listing relation place test e =
    range_none (λ k. are_related listing relation place k && test k) (length listing)
    (λ k within. ap
    (λ o. passes (λ m. passes (is_related relation place m k) (slice_get listing k)) o
    && test k) (sym e))

-- one that was found
pub one_related : (listing : List Message) (relation : Relation) (place : ℕ) (test : ℕ → Bool)
    (m : Message) (k : ℕ)
    → Some m ≡ slice_get listing place → k < length listing
    → passes (is_related relation place m k) (slice_get listing k) ≡ true → test k ≡ true
    → some_related listing relation place test ≡ true
one_related listing relation place test m k e within related passed =
    range_at (λ j. are_related listing relation place j && test j) (length listing) k within
    (ap (λ o. passes (λ n. passes (is_related relation place n k) (slice_get listing k)) o
    && test k)
    (sym e) ∙ ap (λ b. b && test k) related ∙ passed)

-- or none of all
pub nobody_related : (listing : List Message) (relation : Relation) (place : ℕ)
    (test : ℕ → Bool)
    → ((k : ℕ) → k < length listing → (are_related listing relation place k && test k) ≡ false)
    → some_related listing relation place test ≡ false
nobody_related listing relation place test none =
    range_none (λ k. are_related listing relation place k && test k) (length listing) none

-- of two tests the second fails where the first holds
under_test : (o : Option Message) (b t : Bool) → (b ≡ true → t ≡ false)
    → (passes (λ n. b) o && t) ≡ false
under_test None b t f = refl
under_test (Some n) true t f = f refl
under_test (Some n) false t f = refl

-- there is no parent
pub parentless : (listing : List Message) (place : ℕ) (test : ℕ → Bool) (m : Message)
    → Some m ≡ slice_get listing place → None ≡ m.parent
    → some_related listing Parent place test ≡ false
parentless listing place test m e none =
    nobody_related listing Parent place test (λ k within.
    ap (λ o. passes (λ n. passes (is_related Parent place n k) (slice_get listing k)) o && test k)
    (sym e)
    ∙ ap (λ p. passes (λ n. is_place k p) (slice_get listing k) && test k) (sym none)
    ∙ under_test (slice_get listing k) false (test k) (λ b. absurd (false≢true b)))

-- the parent alone is asked
pub parent_alone : (listing : List Message) (place : ℕ) (test : ℕ → Bool) (m : Message)
    (parent : ℕ)
    → Some m ≡ slice_get listing place → Some parent ≡ m.parent → parent < length listing
    → some_related listing Parent place test ≡ test parent
parent_alone listing place test m parent e is within =
    let by_test : (t : Bool) → test parent ≡ t → some_related listing Parent place test ≡ t =
    λ t. elim t as (λ t. test parent ≡ t → some_related listing Parent place test ≡ t) [
      | true ↦ λ passed. one_related listing Parent place test m parent e within
          (ap (passes (λ n. is_place parent m.parent)) (slice_get-get_or listing parent m within)
          ∙ ap (is_place parent) (sym is) ∙ eq-eqb parent parent refl)
          passed
      | false ↦ λ failed. nobody_related listing Parent place test (λ k inside.
          ap (λ o. passes (λ n. passes (is_related Parent place n k) (slice_get listing k)) o
          && test k) (sym e)
          ∙ ap (λ p. passes (λ n. is_place k p) (slice_get listing k) && test k) (sym is)
          ∙ under_test (slice_get listing k) (k == parent) (test k)
          (λ same. ap test (eqb-true k parent same) ∙ failed))
    ] in
    by_test (test parent) refl
