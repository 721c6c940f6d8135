-- Moments of a clock.
use Rattle.std.specs.Prelude.{ℤ, pos, ◌≤ℤ◌}
use Rattle.std.specs.Int.{int_min, int_max}

-- seconds since 1970 in the range of a clock
abbrev pub in_clock_range : ℤ → ℤ
in_clock_range seconds = int_max (pos 0) (int_min seconds (pos 253_000_000_000))

-- the moment is in the range of a clock
pub record IsClockMoment (moment : ℤ) : Type 0 where
  pub least : pos 0 ≤ℤ moment
  pub greatest : moment ≤ℤ pos 253_000_000_000
