-- What holds of moments.
use Rattle.std.specs.Prelude.{◌≤ℤ◌, ℤ, pos, neg_ℤ}
use Rattle.session_state.specs.declared.instant.Instant.{Instant}

-- a moment that the calendar has
pub record IsMoment (moment : ℤ) : Type 0 where
  pub low : pos 0 ≤ℤ moment
  pub high : moment ≤ℤ pos 253_000_000_000

-- the same, and an offset of less than a day
pub record IsInstant (time : Instant) : Type 0 where
  pub moment : IsMoment time.seconds
  pub west : neg_ℤ (pos 86_400) ≤ℤ time.offset
  pub east : time.offset ≤ℤ pos 86_400
