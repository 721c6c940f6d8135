-- What the parts of a time stamp are bounded by.
use Rattle.std.specs.Prelude.{ℕ, ℤ, pos, neg_ℤ, ◌≤◌, ◌≤ℤ◌}
use Rattle.mail_base.specs.Zone.{IsOffset}

-- a year of four digits and an offset
abbrev pub IsEnding : ℕ × ℤ → Type 0
IsEnding ending = (ending.0 ≤ 9999) × IsOffset ending.1

-- the number of a month, from 1
abbrev pub IsMonth : ℕ → Type 0
IsMonth month = (1 ≤ month) × (month ≤ 12)

-- the seconds from 1970 to the start of a day with a year of four digits
abbrev pub IsMidnight : ℤ → Type 0
IsMidnight start = (neg_ℤ (pos 400_000_000_000) ≤ℤ start) × (start ≤ℤ pos 400_000_000_000)
