-- Ranges that rise are told by the numbers that they hold.
use Rattle.std.proofs.Common.{◌≡◌, ◌+◌, ◌<◌, ◌≤◌, ◌&&◌, ◌||◌, ℕ, Bool, true, false, not, nat_le}
use Rattle.std.proofs.Common.{nat_lt, List, [], ◌∷◌}
use Rattle.std.proofs.Common.{refl, sym, ap, ap₂, ◌∙◌, arith, min, subst, suc, if◌then◌else◌}
use Rattle.std.specs.List.{list_all, list_any}
use Rattle.std.specs.List.Sorted.{IsNonDecreasingBy, IsPermutation}
use Rattle.std.proofs.lemmas.Bool.{and_parts, and_from}
use Rattle.std.proofs.lemmas.Bool.Decides.{nat_tests}
use Rattle.std.proofs.lemmas.List.Sorted.{list_any-IsPermutation}
use Rattle.mh_sequences.specs.declared.range.Range.{Range}
use Rattle.mh_sequences.specs.Laws.{is_upright}
use Rattle.mh_sequences.specs.Ranges.{added_to, any_holds, holds as range_holds, in_order}
use Rattle.mh_sequences.specs.Ranges.{is_before}
use Rattle.mh_sequences.specs.Ranges.{joined}
use Rattle.mh_sequences.specs.Ranges.{joined_behind, joined_sorted, rises_from, with_range}
use Rattle.mh_sequences.proofs.HoldingLemmas.{holds_with, joined_holds, joined_upright, or_three}
use Rattle.mh_sequences.proofs.UprightLemmas.{ordered_upright}

abbrev pub all_up : List Range → Bool
all_up ranges = list_all is_upright ranges

from_less : (k n m : ℕ) → nat_le k n ≡ true → m ≤ k → nat_le m n ≡ true
from_less k n m low less = grind (arith, nat_tests)

rises_less : (k m : ℕ) (ranges : List Range) → rises_from k ranges ≡ true → m ≤ k
    → rises_from m ranges ≡ true
rises_less k m [] rises less = refl
rises_less k m (r ∷ ranges) rises less =
    let both = and_parts (nat_le k r.first) (rises_from (r.last + 2) ranges) rises in
    and_from (nat_le m r.first) _ (from_less k r.first m both.0 less) both.1

pub up_bounds : (r : Range) → is_upright r ≡ true → r.first ≤ r.last
up_bounds r up = grind (arith, nat_tests)

pub le_true : (m n : ℕ) → nat_le m n ≡ true → m ≤ n
le_true m n e = grind (arith, nat_tests)

true_le : (m n : ℕ) → m ≤ n → nat_le m n ≡ true
true_le m n h = grind (arith, nat_tests)

before_true : (r s : Range) → is_before r s ≡ true → r.last + 2 ≤ s.first
before_true r s e = grind (arith, nat_tests)

min_low : (k a b : ℕ) → k ≤ a → k ≤ b → nat_le k (min a b) ≡ true
min_low k a b low_a low_b = grind (arith, nat_tests)

-- with one more they rise too
rises_with : (k : ℕ) (new : Range) (ranges : List Range) → is_upright new ≡ true
    → all_up ranges ≡ true
    → nat_le k new.first ≡ true → rises_from k ranges ≡ true
    → rises_from k (with_range new ranges) ≡ true
rises_with k new [] up all low rises = and_from (nat_le k new.first) true low refl
rises_with k new (r ∷ ranges) up all low rises =
    let ups = and_parts (is_upright r) (all_up ranges) all in
    let rise = and_parts (nat_le k r.first) (rises_from (r.last + 2) ranges) rises in
    let higher : rises_from k ranges ≡ true =
    rises_less (r.last + 2) k ranges rise.1
    (omega (arith, up_bounds r ups.0, le_true k r.first rise.0)) in
    by_place (is_before new r) (is_before r new) refl refl ups.0 rise.0 rise.1
    (λ behind. rises_with (r.last + 2) new ranges up ups.1
    (true_le (r.last + 2) new.first (before_true r new behind)) rise.1)
    (rises_with k (joined new r) ranges (joined_upright new r up ups.0) ups.1
    (min_low k new.first r.first (le_true k new.first low) (le_true k r.first rise.0)) higher)
  where
    by_place : (s t : Bool) → is_before new r ≡ s → is_before r new ≡ t → is_upright r ≡ true
        → nat_le k r.first ≡ true → rises_from (r.last + 2) ranges ≡ true
        → (is_before r new ≡ true → rises_from (r.last + 2) (with_range new ranges) ≡ true)
        → rises_from k (with_range (joined new r) ranges) ≡ true
        → rises_from k (if s then new ∷ r ∷ ranges
        else (if t then r ∷ with_range new ranges else with_range (joined new r) ranges)) ≡ true
    by_place true t before behind up_r low_r rise more join =
        and_from (nat_le k new.first) _ low
        (and_from (nat_le (new.last + 2) r.first) _
        (true_le (new.last + 2) r.first (before_true new r before)) rise)
    by_place false true before behind up_r low_r rise more join =
        and_from (nat_le k r.first) _ low_r (more behind)
    by_place false false before behind up_r low_r rise more join = join

-- no number below the first is held
pub none_below : (k n : ℕ) (ranges : List Range) → rises_from k ranges ≡ true
    → all_up ranges ≡ true → n < k
    → any_holds n ranges ≡ false
none_below k n [] rises all low = refl
none_below k n (r ∷ ranges) rises all low =
    let ups = and_parts (is_upright r) (all_up ranges) all in
    let rise = and_parts (nat_le k r.first) (rises_from (r.last + 2) ranges) rises in
    let here : range_holds n r ≡ false = outside n r (omega (arith, le_true k r.first rise.0)) in
    let later : any_holds n ranges ≡ false =
    none_below (r.last + 2) n ranges rise.1 ups.1
    (omega (arith, up_bounds r ups.0, le_true k r.first rise.0)) in
    ap₂ (λ x y. x || y) here later
  where
    outside : (n : ℕ) (r : Range) → n < r.first → range_holds n r ≡ false
    outside n r low = grind (arith, nat_tests)

within : (n : ℕ) (r : Range) → r.first ≤ n → n ≤ r.last → range_holds n r ≡ true
within n r low high = grind (arith, nat_tests)

above : (n : ℕ) (r : Range) → r.last < n → range_holds n r ≡ false
above n r low = grind (arith, nat_tests)

or_true : (a b : Bool) → a ≡ true → (a || b) ≡ true
or_true true b e = refl
or_true false b e = cc

-- the first range does not begin later than another that holds the same
first_low : (r s : Range) (xs ys : List Range) → is_upright r ≡ true → all_up (s ∷ ys) ≡ true
    → rises_from 0 (s ∷ ys) ≡ true
    → ((n : ℕ) → any_holds n (r ∷ xs) ≡ any_holds n (s ∷ ys)) → s.first ≤ r.first
first_low r s xs ys up all rises same = by_order (nat_lt r.first s.first) refl
  where
    held : any_holds r.first (r ∷ xs) ≡ true
    held = or_true (range_holds r.first r) (any_holds r.first xs)
        (within r.first r (omega arith) (up_bounds r up))

    missed : r.first < s.first → any_holds r.first (s ∷ ys) ≡ false
    missed low =
        let rise = and_parts (nat_le 0 s.first) (rises_from (s.last + 2) ys) rises in
        none_below s.first r.first (s ∷ ys)
        (and_from (nat_le s.first s.first) _ (true_le s.first s.first (omega arith)) rise.1) all low

    by_order : (t : Bool) → nat_lt r.first s.first ≡ t → s.first ≤ r.first
    by_order true e =
        let low : r.first < s.first = grind (arith, nat_tests) in
        let no = missed low in
        let yes = held in
        let is = same r.first in
        absurd (cc)
    by_order false e = grind (arith, nat_tests)

-- nor does it end earlier
last_low : (r s : Range) (xs ys : List Range) → is_upright r ≡ true → all_up (r ∷ xs) ≡ true
    → rises_from 0 (r ∷ xs) ≡ true → r.first ≡ s.first
    → ((n : ℕ) → any_holds n (r ∷ xs) ≡ any_holds n (s ∷ ys)) → s.last ≤ r.last
last_low r s xs ys up all rises firsts same = by_order (nat_lt r.last s.last) refl
  where
    held : r.last < s.last → any_holds (r.last + 1) (s ∷ ys) ≡ true
    held low = or_true (range_holds (r.last + 1) s) (any_holds (r.last + 1) ys)
        (within (r.last + 1) s (omega (arith, up_bounds r up, firsts)) (omega arith))

    missed : any_holds (r.last + 1) (r ∷ xs) ≡ false
    missed =
        let ups = and_parts (is_upright r) (all_up xs) all in
        let rise = and_parts (nat_le 0 r.first) (rises_from (r.last + 2) xs) rises in
        ap₂ (λ x y. x || y) (above (r.last + 1) r (omega arith))
        (none_below (r.last + 2) (r.last + 1) xs rise.1 ups.1 (omega arith))

    by_order : (t : Bool) → nat_lt r.last s.last ≡ t → s.last ≤ r.last
    by_order true e =
        let low : r.last < s.last = grind (arith, nat_tests) in
        let yes = held low in
        let no = missed in
        let is = same (r.last + 1) in
        absurd (cc)
    by_order false e = grind (arith, nat_tests)

same_range : (r s : Range) → r.first ≡ s.first → r.last ≡ s.last → r ≡ s
same_range r s firsts lasts =
    ap₂ (λ (a b : ℕ). let x : Range = record { first = a; last = b } in x) firsts lasts

or_later : (a b x y : Bool) → a ≡ false → b ≡ false → (a || x) ≡ (b || y) → x ≡ y
or_later false false x y none_a none_b is = is
or_later true b x y none_a none_b is = absurd (cc)
or_later false true x y none_a none_b is = absurd (cc)

some_held : (r : Range) (xs : List Range) → is_upright r ≡ true → any_holds r.first (r ∷ xs) ≡ true
some_held r xs up = or_true (range_holds r.first r) (any_holds r.first xs)
    (within r.first r (omega arith) (up_bounds r up))

-- ranges that rise and hold the same are the same
pub unique : (xs ys : List Range) → all_up xs ≡ true → all_up ys ≡ true → rises_from 0 xs ≡ true
    → rises_from 0 ys ≡ true → ((n : ℕ) → any_holds n xs ≡ any_holds n ys) → xs ≡ ys
unique [] [] up_x up_y rise_x rise_y same = refl
unique [] (s ∷ ys) up_x up_y rise_x rise_y same =
    let yes = some_held s ys (and_parts (is_upright s) (all_up ys) up_y).0 in
    let is = same s.first in
    absurd (cc)
unique (r ∷ xs) [] up_x up_y rise_x rise_y same =
    let yes = some_held r xs (and_parts (is_upright r) (all_up xs) up_x).0 in
    let is = same r.first in
    absurd (cc)
unique (r ∷ xs) (s ∷ ys) up_x up_y rise_x rise_y same =
    let ups_x = and_parts (is_upright r) (all_up xs) up_x in
    let ups_y = and_parts (is_upright s) (all_up ys) up_y in
    let later_x = and_parts (nat_le 0 r.first) (rises_from (r.last + 2) xs) rise_x in
    let later_y = and_parts (nat_le 0 s.first) (rises_from (s.last + 2) ys) rise_y in
    let back : (n : ℕ) → any_holds n (s ∷ ys) ≡ any_holds n (r ∷ xs) = λ n. sym (same n) in
    let firsts : r.first ≡ s.first =
    omega (
      arith,
      first_low r s xs ys ups_x.0 up_y rise_y same,
      first_low s r ys xs ups_y.0 up_x
          rise_x back,
    ) in
    let lasts : r.last ≡ s.last =
    omega (
      arith,
      last_low r s xs ys ups_x.0 up_x rise_x firsts same,
      last_low s r ys xs ups_y.0 up_y rise_y (sym firsts) back,
    ) in
    ap₂ (λ (x : Range) (l : List Range). x ∷ l) (same_range r s firsts lasts)
    (unique xs ys ups_x.1 ups_y.1 (rises_less (r.last + 2) 0 xs later_x.1 (omega arith))
    (rises_less (s.last + 2) 0 ys later_y.1 (omega arith))
    (λ n. by_order n (nat_lt n (r.last + 2)) refl ups_x.1 ups_y.1 later_x.1 later_y.1 lasts))
  where
    by_order : (n : ℕ) (t : Bool) → nat_lt n (r.last + 2) ≡ t → all_up xs ≡ true → all_up ys ≡ true
        → rises_from (r.last + 2) xs ≡ true → rises_from (s.last + 2) ys ≡ true → r.last ≡ s.last
        → any_holds n xs ≡ any_holds n ys
    by_order n true e ups_x ups_y later_x later_y lasts =
        let low : n < r.last + 2 = grind (arith, nat_tests) in
        none_below (r.last + 2) n xs later_x ups_x low
        ∙ sym (none_below (s.last + 2) n ys later_y ups_y (omega arith))
    by_order n false e ups_x ups_y later_x later_y lasts =
        let high : r.last + 2 ≤ n = grind (arith, nat_tests) in
        or_later (range_holds n r) (range_holds n s) (any_holds n xs) (any_holds n ys)
        (above n r (omega arith)) (above n s (omega arith)) (same n)

-- Ranges in order.

ordered_up : (ranges : List Range) → all_up ranges ≡ true → all_up (added_to [] ranges) ≡ true
ordered_up ranges all = ordered_upright ranges all

pub ordered_rises : (ranges : List Range) → all_up ranges ≡ true
    → rises_from 0 (added_to [] ranges) ≡ true
ordered_rises [] all = refl
ordered_rises (r ∷ ranges) all =
    let both = and_parts (is_upright r) (all_up ranges) all in
    rises_with 0 r (added_to [] ranges) both.0 (ordered_up ranges both.1) (true_le 0 r.first
    (omega arith))
    (ordered_rises ranges both.1)

pub ordered_holds : (n : ℕ) (ranges : List Range) → all_up ranges ≡ true
    → any_holds n (added_to [] ranges) ≡ any_holds n ranges
ordered_holds n [] all = refl
ordered_holds n (r ∷ ranges) all =
    let both = and_parts (is_upright r) (all_up ranges) all in
    holds_with n r (added_to [] ranges) both.0 (ordered_up ranges both.1)
    ∙ ap (λ x. range_holds n r || x) (ordered_holds n ranges both.1)

-- Ranges in rising order of their first numbers.

abbrev pub sorted_from : ℕ → List Range → Bool
sorted_from k [] = true
sorted_from k (r ∷ ranges) = nat_le k r.first && sorted_from r.first ranges

sorted_less : (k m : ℕ) (ranges : List Range) → sorted_from k ranges ≡ true → m ≤ k
    → sorted_from m ranges ≡ true
sorted_less k m [] sorted less = refl
sorted_less k m (r ∷ ranges) sorted less =
    let both = and_parts (nat_le k r.first) (sorted_from r.first ranges) sorted in
    and_from (nat_le m r.first) _ (from_less k r.first m both.0 less) both.1

min_less : (a b : ℕ) → min a b ≤ b
min_less a b = omega arith

pass_up : (r : Range) (ranges : List Range) → is_upright r ≡ true → all_up ranges ≡ true
    → all_up (joined_behind r ranges) ≡ true
pass_up r [] up all = and_from (is_upright r) true up refl
pass_up r (s ∷ ranges) up all =
    let both = and_parts (is_upright s) (all_up ranges) all in
    by_place (is_before r s) (pass_up s ranges both.0 both.1)
    (pass_up (joined r s) ranges (joined_upright r s up both.0) both.1)
  where
    by_place : (t : Bool) → all_up (joined_behind s ranges) ≡ true
        → all_up (joined_behind (joined r s) ranges) ≡ true
        → all_up (if t then r ∷ joined_behind s ranges else joined_behind (joined r s) ranges) ≡
        true
    by_place true apart meet = and_from (is_upright r) _ up apart
    by_place false apart meet = meet

pass_rises : (k : ℕ) (r : Range) (ranges : List Range) → is_upright r ≡ true → all_up ranges ≡ true
    → nat_le k r.first ≡ true → sorted_from r.first ranges ≡ true
    → rises_from k (joined_behind r ranges) ≡ true
pass_rises k r [] up all low sorted = and_from (nat_le k r.first) true low refl
pass_rises k r (s ∷ ranges) up all low sorted =
    let both = and_parts (is_upright s) (all_up ranges) all in
    let parts = and_parts (nat_le r.first s.first) (sorted_from s.first ranges) sorted in
    by_place (is_before r s) refl
    (λ before. pass_rises (r.last + 2) s ranges both.0 both.1
    (true_le (r.last + 2) s.first (before_true r s before)) parts.1)
    (pass_rises k (joined r s) ranges (joined_upright r s up both.0) both.1
    (min_low k r.first s.first (le_true k r.first low)
    (omega (arith, le_true k r.first low, le_true r.first s.first parts.0)))
    (sorted_less s.first (min r.first s.first) ranges parts.1 (min_less r.first s.first)))
  where
    by_place : (t : Bool) → is_before r s ≡ t
        → (is_before r s ≡ true → rises_from (r.last + 2) (joined_behind s ranges) ≡ true)
        → rises_from k (joined_behind (joined r s) ranges) ≡ true
        → rises_from k (if t then r ∷ joined_behind s ranges else joined_behind (joined r s)
        ranges) ≡ true
    by_place true e apart meet = and_from (nat_le k r.first) _ low (apart e)
    by_place false e apart meet = meet

not_behind : (r s : Range) → r.first ≤ s.first → s.first ≤ s.last → is_before s r ≡ false
not_behind r s low up = grind (arith, nat_tests)

pass_holds : (n : ℕ) (r : Range) (ranges : List Range) → is_upright r ≡ true → all_up ranges ≡ true
    → sorted_from r.first ranges ≡ true
    → any_holds n (joined_behind r ranges) ≡ (range_holds n r || any_holds n ranges)
pass_holds n r [] up all sorted = refl
pass_holds n r (s ∷ ranges) up all sorted =
    let both = and_parts (is_upright s) (all_up ranges) all in
    let parts = and_parts (nat_le r.first s.first) (sorted_from s.first ranges) sorted in
    by_place (is_before r s) refl both.0 (not_behind r s (le_true r.first s.first parts.0)
    (up_bounds s both.0))
    (pass_holds n s ranges both.0 both.1 parts.1)
    (pass_holds n (joined r s) ranges (joined_upright r s up both.0) both.1
    (sorted_less s.first (min r.first s.first) ranges parts.1 (min_less r.first s.first)))
  where
    by_place : (t : Bool) → is_before r s ≡ t → is_upright s ≡ true → is_before s r ≡ false
        → any_holds n (joined_behind s ranges) ≡ (range_holds n s || any_holds n ranges)
        → any_holds n (joined_behind (joined r s) ranges) ≡ (range_holds n (joined r s) ||
        any_holds n ranges)
        → any_holds n (if t then r ∷ joined_behind s ranges else joined_behind (joined r s) ranges)
        ≡ (range_holds n r || (range_holds n s || any_holds n ranges))
    by_place true e up_s behind apart meet = ap (λ x. range_holds n r || x) apart
    by_place false e up_s behind apart meet =
        meet ∙ ap (λ x. x || any_holds n ranges) (joined_holds n r s up up_s e behind)
        ∙ or_three (range_holds n r) (range_holds n s) (any_holds n ranges)

not_all : (ranges : List Range) → all_up ranges ≡ not (list_any (λ r. not (is_upright r)) ranges)
not_all [] = refl
not_all (r ∷ ranges) = by_test (is_upright r) (not_all ranges)
  where
    by_test : (t : Bool) → all_up ranges ≡ not (list_any (λ r. not (is_upright r)) ranges)
        → (t && all_up ranges) ≡ not (not t || list_any (λ r. not (is_upright r)) ranges)
    by_test true e = e
    by_test false e = refl

up_moved : (xs ys : List Range) → IsPermutation xs ys → all_up xs ≡ true → all_up ys ≡ true
up_moved xs ys moved all =
    not_all ys ∙ ap not (sym (list_any-IsPermutation (λ r. not (is_upright r)) xs ys moved))
    ∙ sym (not_all xs) ∙ all

-- the same numbers, in rising order
sorted_is : (xs ys : List Range) → all_up xs ≡ true → IsPermutation xs ys → sorted_from 0 ys ≡ true
    → joined_sorted ys ≡ in_order xs
sorted_is xs [] all moved sorted =
    unique [] (in_order xs) refl (ordered_up xs all) refl (ordered_rises xs all)
    (λ n. sym (list_any-IsPermutation (range_holds n) xs [] moved) ∙ sym (ordered_holds n xs all))
sorted_is xs (y ∷ ys) all moved sorted =
    let up = up_moved xs (y ∷ ys) moved all in
    let both = and_parts (is_upright y) (all_up ys) up in
    let parts = and_parts (nat_le 0 y.first) (sorted_from y.first ys) sorted in
    unique (joined_behind y ys) (in_order xs) (pass_up y ys both.0 both.1) (ordered_up xs all)
    (pass_rises 0 y ys both.0 both.1 parts.0 parts.1) (ordered_rises xs all)
    (λ n. pass_holds n y ys both.0 both.1 parts.1
    ∙ sym (list_any-IsPermutation (range_holds n) xs (y ∷ ys) moved) ∙ sym (ordered_holds n xs all))

tail_sorted : (r : Range) (ranges : List Range)
    → IsNonDecreasingBy (λ (x : Range). x.first) (r ∷ ranges)
    → IsNonDecreasingBy (λ (x : Range). x.first) ranges
tail_sorted r ranges sorted = λ i j d low high. sorted (suc i) (suc j) d (omega arith) (omega arith)

sorted_list : (ranges : List Range) (k : ℕ) → IsNonDecreasingBy (λ (x : Range). x.first) ranges
    → ((r : Range) (rest : List Range) → ranges ≡ r ∷ rest → k ≤ r.first)
    → sorted_from k ranges ≡ true
sorted_list [] k sorted first = refl
sorted_list (r ∷ []) k sorted first = and_from (nat_le k r.first) true (true_le k r.first (first
    r [] refl)) refl
sorted_list (r ∷ s ∷ ranges) k sorted first =
    let next : r.first ≤ s.first = sorted 0 1 r (omega arith) (omega arith) in
    and_from (nat_le k r.first) _ (true_le k r.first (first r (s ∷ ranges) refl))
    (sorted_list (s ∷ ranges) r.first (tail_sorted r (s ∷ ranges) sorted)
    (λ x rest is. let e : s ≡ x = cc in subst (λ (z : Range). r.first ≤ z.first) e next))

pub sorted_order : (xs ys : List Range) → all_up xs ≡ true → IsPermutation xs ys
    → IsNonDecreasingBy (λ (x : Range). x.first) ys → joined_sorted ys ≡ in_order xs
sorted_order xs ys all moved sorted =
    sorted_is xs ys all moved (sorted_list ys 0 sorted (λ r rest is. omega arith))
