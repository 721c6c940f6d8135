-- Days of moments.
use Rattle.std.specs.Prelude.{◌+ℤ◌, ℤ, pos}
use Rattle.std.specs.Int.{int_div_euclid}

-- the day on which a moment falls, by an offset from UTC
abbrev pub day_number : ℤ → ℤ → ℤ
day_number moment offset = int_div_euclid (moment +ℤ offset) (pos 86_400)
