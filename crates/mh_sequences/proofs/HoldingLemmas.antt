-- What sequences hold once they are changed.
use Rattle.std.proofs.Common.{◌≡◌, ◌==◌, ◌+◌, ◌≤◌, ◌&&◌, ◌||◌, ℕ, Bool, true, false, not, nat_le}
use Rattle.std.proofs.Common.{List, [], ◌∷◌, refl, ap, ap₂, ◌∙◌, arith, min, max, if◌then◌else◌}
use Rattle.std.specs.List.{list_all}
use Rattle.std.proofs.lemmas.Bool.{and_parts}
use Rattle.std.proofs.lemmas.Bool.Decides.{nat_tests}
use Rattle.std.proofs.lemmas.List.Folds.{list_any-append}
use Rattle.mh_sequences.specs.declared.range.Range.{Range}
use Rattle.mh_sequences.specs.Laws.{is_upright}
use Rattle.mh_sequences.specs.Ranges.{any_holds, holds as range_holds, is_before, joined, one}
use Rattle.mh_sequences.specs.Ranges.{parts}
use Rattle.mh_sequences.specs.Ranges.{with_range, without}

-- the bounds of ranges that meet hold what either holds
joined_bounds : (m a b c d : ℕ) → a ≤ b → c ≤ d → c ≤ b + 1 → a ≤ d + 1
    → (nat_le (min a c) m && nat_le m (max b d))
    ≡ ((nat_le a m && nat_le m b) || (nat_le c m && nat_le m d))
joined_bounds m a b c d up_1 up_2 meet_1 meet_2 = grind (arith, nat_tests)

not_before : (r s : Range) → is_before r s ≡ false → s.first ≤ r.last + 1
not_before r s meets = grind (arith, nat_tests)

upright_bounds : (r : Range) → is_upright r ≡ true → r.first ≤ r.last
upright_bounds r up = grind (arith, nat_tests)

pub joined_holds : (m : ℕ) (r s : Range) → is_upright r ≡ true → is_upright s ≡ true
    → is_before r s ≡ false → is_before s r ≡ false
    → range_holds m (joined r s) ≡ (range_holds m r || range_holds m s)
joined_holds m r s up_r up_s meet_1 meet_2 =
    joined_bounds m r.first r.last s.first s.last (upright_bounds r up_r) (upright_bounds s up_s)
    (not_before r s meet_1) (not_before s r meet_2)

pub joined_upright : (r s : Range) → is_upright r ≡ true → is_upright s ≡ true
    → is_upright (joined r s) ≡ true
joined_upright r s up_r up_s = grind (arith, nat_tests)

pub or_swapped : (a b c : Bool) → (a || (b || c)) ≡ (b || (a || c))
or_swapped true true c = refl
or_swapped true false c = refl
or_swapped false b c = refl

pub or_three : (a b c : Bool) → ((a || b) || c) ≡ (a || (b || c))
or_three true b c = refl
or_three false b c = refl

pub one_holds : (m n : ℕ) → range_holds m (one n) ≡ (m == n)
one_holds m n = grind (arith, nat_tests)

pub one_upright : (n : ℕ) → is_upright (one n) ≡ true
one_upright n = grind (arith, nat_tests)

-- with one more range
pub holds_with : (m : ℕ) (new : Range) (ranges : List Range) → is_upright new ≡ true
    → list_all is_upright ranges ≡ true
    → any_holds m (with_range new ranges) ≡ (range_holds m new || any_holds m ranges)
holds_with m new [] up all = refl
holds_with m new (r ∷ ranges) up all =
    let both = and_parts (is_upright r) (list_all is_upright ranges) all in
    by_place (is_before new r) (is_before r new) refl refl both.0
    (λ x up_x. holds_with m x ranges up_x both.1)
  where
    by_place : (s t : Bool) → is_before new r ≡ s → is_before r new ≡ t → is_upright r ≡ true
        → ((x : Range) → is_upright x ≡ true
        → any_holds m (with_range x ranges) ≡ (range_holds m x || any_holds m ranges))
        → any_holds m (if s then new ∷ r ∷ ranges
        else (if t then r ∷ with_range new ranges else with_range (joined new r) ranges))
        ≡ (range_holds m new || (range_holds m r || any_holds m ranges))
    by_place true t before behind up_r more = refl
    by_place false true before behind up_r more =
        ap (λ x. range_holds m r || x) (more new up)
        ∙ or_swapped (range_holds m r) (range_holds m new) (any_holds m ranges)
    by_place false false before behind up_r more =
        more (joined new r) (joined_upright new r up up_r)
        ∙ ap (λ x. x || any_holds m ranges) (joined_holds m new r up up_r before behind)
        ∙ or_three (range_holds m new) (range_holds m r) (any_holds m ranges)

-- without a number
holds_parts : (m n : ℕ) (r : Range) → any_holds m (parts n r) ≡ (not (m == n) && range_holds m r)
holds_parts m n r = grind (arith, nat_tests)

pub not_or : (t a b : Bool) → ((not t && a) || (not t && b)) ≡ (not t && (a || b))
not_or true a b = refl
not_or false a b = refl

pub holds_without : (m n : ℕ) (ranges : List Range)
    → any_holds m (without n ranges) ≡ (not (m == n) && any_holds m ranges)
holds_without m n [] = by_test (m == n)
  where
    by_test : (t : Bool) → false ≡ (not t && false)
    by_test true = refl
    by_test false = refl
holds_without m n (r ∷ ranges) =
    list_any-append (range_holds m) (parts n r) (without n ranges)
    ∙ ap₂ (λ x y. x || y) (holds_parts m n r) (holds_without m n ranges)
    ∙ not_or (m == n) (range_holds m r) (any_holds m ranges)
