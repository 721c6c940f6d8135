-- Ranges of numbers or days.
use Rattle.std.specs.Prelude.{◌==◌, ◌&&◌, ℕ, Bool, nat_le, nat_lt}
use Rattle.patterns_match.specs.declared.range.Range.{Range}
use Rattle.patterns_match.specs.declared.range.Range.TheVariants as range

-- the same range of other values
abbrev pub range_map : {X Y : Type 0} → (X → Y) → Range X → Range Y
range_map f (range.Exactly x) = range.Exactly (f x)
range_map f (range.Between x y) = range.Between (f x) (f y)
range_map f (range.UpTo x) = range.UpTo (f x)
range_map f (range.From x) = range.From (f x)
range_map f (range.Below x) = range.Below (f x)
range_map f (range.Above x) = range.Above (f x)

-- the number lies in the range
abbrev pub holds : Range ℕ → ℕ → Bool
holds (range.Exactly n) x = x == n
holds (range.Between low high) x = nat_le low x && nat_le x high
holds (range.UpTo high) x = nat_le x high
holds (range.From low) x = nat_le low x
holds (range.Below n) x = nat_lt x n
holds (range.Above n) x = nat_lt n x
