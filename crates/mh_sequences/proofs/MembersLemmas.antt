-- A search in halves among ranges in rising order.
use Rattle.std.proofs.Common.{◌≡◌, ◌+◌, ◌<◌, ◌≤◌, ◌||◌, ℕ, zero, suc, Bool, true, false, nat_le}
use Rattle.std.proofs.Common.{nat_lt, List, [], ◌∷◌, length}
use Rattle.std.proofs.Common.{refl, ◌∙◌, arith}
use Rattle.std.specs.Prelude.{slice_get, slice_index_or}
use Rattle.std.specs.List.{list_all}
use Rattle.std.specs.List.Sorted.{IsPartitionPoint}
use Rattle.std.proofs.lemmas.Bool.{and_parts}
use Rattle.std.proofs.lemmas.Bool.Decides.{nat_tests}
use Rattle.mh_sequences.specs.declared.range.Range.{Range}
use Rattle.mh_sequences.specs.Laws.{is_upright}
use Rattle.mh_sequences.specs.Ranges.{any_holds, begins_by, holds as range_holds, in_order}
use Rattle.mh_sequences.specs.Ranges.{rises_from}
use Rattle.mh_sequences.proofs.RisingLemmas.{all_up, le_true, none_below, ordered_rises, up_bounds}
use Rattle.mh_sequences.proofs.UprightLemmas.{ordered_upright}

-- as they stand in a set of members
pub record Rise (ranges : List Range) : Type 0 where
  pub upright : list_all is_upright ranges ≡ true
  pub rises : rises_from 0 ranges ≡ true

pub ordered : (ranges : List Range) → list_all is_upright ranges ≡ true → Rise (in_order ranges)
ordered ranges all = record {
  upright = ordered_upright ranges all;
  rises = ordered_rises ranges all;
}

-- it ends before the number
abbrev pub ends_below : ℕ → Range → Bool
ends_below n r = nat_lt r.last n

-- each range ends at this number or behind it
last_high : (k j : ℕ) (d : Range) (ranges : List Range) → rises_from k ranges ≡ true
    → all_up ranges ≡ true → j < length ranges → k ≤ (slice_index_or ranges j d).last
last_high k j d [] rises all within = absurd (omega (arith, within))
last_high k zero d (r ∷ ranges) rises all within =
    let rise = and_parts (nat_le k r.first) (rises_from (r.last + 2) ranges) rises in
    let up = and_parts (is_upright r) (all_up ranges) all in
    omega (arith, le_true k r.first rise.0, up_bounds r up.0)
last_high k (suc j) d (r ∷ ranges) rises all within =
    let rise = and_parts (nat_le k r.first) (rises_from (r.last + 2) ranges) rises in
    let up = and_parts (is_upright r) (all_up ranges) all in
    let high : r.last + 2 ≤ (slice_index_or ranges j d).last =
    last_high (r.last + 2) j d ranges rise.1 up.1 (omega (arith, within)) in
    omega (arith, le_true k r.first rise.0, up_bounds r up.0, high)

below_less : (n a b : ℕ) → a ≤ b → nat_lt b n ≡ true → nat_lt a n ≡ true
below_less n a b less low = grind (arith, nat_tests)

-- the ranges that end before a number stand in front
pub parted : (n k : ℕ) (ranges : List Range) → rises_from k ranges ≡ true
    → all_up ranges ≡ true → (i j : ℕ) (d : Range) → i ≤ j → j < length ranges
    → ends_below n (slice_index_or ranges j d) ≡ true
    → ends_below n (slice_index_or ranges i d) ≡ true
parted n k [] rises all i j d low within ends = absurd (omega (arith, within))
parted n k (r ∷ ranges) rises all zero zero d low within ends = ends
parted n k (r ∷ ranges) rises all (suc i) zero d low within ends = absurd (omega (arith, low))
parted n k (r ∷ ranges) rises all zero (suc j) d low within ends =
    let rise = and_parts (nat_le k r.first) (rises_from (r.last + 2) ranges) rises in
    let up = and_parts (is_upright r) (all_up ranges) all in
    let high : r.last + 2 ≤ (slice_index_or ranges j d).last =
    last_high (r.last + 2) j d ranges rise.1 up.1 (omega (arith, within)) in
    below_less n r.last (slice_index_or ranges j d).last (omega (arith, high)) ends
parted n k (r ∷ ranges) rises all (suc i) (suc j) d low within ends =
    let rise = and_parts (nat_le k r.first) (rises_from (r.last + 2) ranges) rises in
    let up = and_parts (is_upright r) (all_up ranges) all in
    parted n (r.last + 2) ranges rise.1 up.1 i j d (omega (arith, low)) (omega (arith, within)) ends

ends_held : (n : ℕ) (r : Range) (later : Bool) → nat_lt r.last n ≡ false → later ≡ false
    → (range_holds n r || later) ≡ nat_le r.first n
ends_held n r later ends none = grind (arith, nat_tests)

ended : (n : ℕ) (r : Range) (later : Bool) → nat_lt r.last n ≡ true
    → (range_holds n r || later) ≡ later
ended n r later ends = grind (arith, nat_tests)

not_ended : (n : ℕ) (r : Range) → nat_lt r.last n ≡ false → n < r.last + 2
not_ended n r ends = grind (arith, nat_tests)

-- the number is in the first range that does not end before it, or in none
pub searched : (n k i : ℕ) (ranges : List Range) → rises_from k ranges ≡ true
    → all_up ranges ≡ true
    → IsPartitionPoint (λ r. ends_below n r ≡ true) (λ r. ends_below n r ≡ false) ranges i
    → any_holds n ranges ≡ begins_by n (slice_get ranges i)
searched n k i [] rises all point = refl
searched n k zero (r ∷ ranges) rises all point =
    let rise = and_parts (nat_le k r.first) (rises_from (r.last + 2) ranges) rises in
    let up = and_parts (is_upright r) (all_up ranges) all in
    let here : nat_lt r.last n ≡ false = point.1 0 r (omega arith) (omega arith) in
    ends_held n r (any_holds n ranges) here
    (none_below (r.last + 2) n ranges rise.1 up.1 (not_ended n r here))
searched n k (suc i) (r ∷ ranges) rises all point =
    let rise = and_parts (nat_le k r.first) (rises_from (r.last + 2) ranges) rises in
    let up = and_parts (is_upright r) (all_up ranges) all in
    ended n r (any_holds n ranges) (point.0 0 r (omega arith) (omega arith))
    ∙ searched n (r.last + 2) i ranges rise.1 up.1 (
      (λ j d low high. point.0 (suc j) d (omega (arith, low)) (omega (arith, high))),
      (λ j d low high. point.1 (suc j) d (omega (arith, low)) (omega (arith, high))),
    )
