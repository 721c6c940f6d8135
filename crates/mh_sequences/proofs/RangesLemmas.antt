-- Ranges in rising order.
use Rattle.std.proofs.Common.{◌≡◌, ◌<◌, true, List, [], ◌∷◌, length, refl, ap, ◌∙◌, arith}
use Rattle.std.proofs.lemmas.Bool.{and_parts}
use Rattle.mh_sequences.specs.declared.range.Range.{Range}
use Rattle.mh_sequences.specs.Ranges.{in_order, is_before, is_rising, with_range}

-- a range alone rises
pub short_rises : (ranges : List Range) → length ranges < 2 → is_rising ranges ≡ true
short_rises [] short = refl
short_rises (r ∷ []) short = refl
short_rises (r ∷ s ∷ ranges) short = absurd (omega arith)

-- ranges that rise stay as they are
pub rising_stays : (ranges : List Range) → is_rising ranges ≡ true → in_order ranges ≡ ranges
rising_stays [] rising = refl
rising_stays (r ∷ []) rising = refl
rising_stays (r ∷ s ∷ ranges) rising =
    let both = and_parts (is_before r s) (is_rising (s ∷ ranges)) rising in
    ap (with_range r) (rising_stays (s ∷ ranges) both.1)
    ∙ rw both.0 refl
