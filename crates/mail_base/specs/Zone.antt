-- Time zones as offsets in digits (RFC 5322, section 3.3).
use Rattle.std.specs.Prelude.{◌==◌, ◌&&◌, ◌+◌, ◌-◌, ◌*◌, ◌≤ℤ◌, ℕ, ℤ, pos, neg_ℤ, nat_le}
use Rattle.std.specs.Prelude.{List, [], ◌∷◌, Option, Some, None, if◌then◌else◌}
use Rattle.std.specs.Char.{is_ascii_digit}

-- the number that two digits write
abbrev pub two_digits : ℕ → ℕ → Option ℕ
two_digits a b =
    if is_ascii_digit a && is_ascii_digit b then Some ((a - 48) * 10 + (b - 48)) else None

-- hours and minutes east of Greenwich, or west of it, in seconds
abbrev pub offset_at : ℕ → Option ℕ → Option ℕ → Option ℤ
offset_at sign (Some hours) (Some minutes) =
    if nat_le hours 23 && nat_le minutes 59
    then (if sign == 43 then Some (pos (hours * 3600 + minutes * 60))
    else (if sign == 45 then Some (neg_ℤ (pos (hours * 3600 + minutes * 60))) else None))
    else None
offset_at _ _ _ = None

-- `+hhmm` or `-hhmm` in seconds
abbrev pub numeric_zone : List ℕ → Option ℤ
numeric_zone (sign ∷ a ∷ b ∷ c ∷ d ∷ []) = offset_at sign (two_digits a b) (two_digits c d)
numeric_zone _ = None

-- an offset from UTC in seconds, of less than a day
abbrev pub IsOffset : ℤ → Type 0
IsOffset offset = (neg_ℤ (pos 86_399) ≤ℤ offset) × (offset ≤ℤ pos 86_399)
