-- The ids of References fields, of which the last 64 count.
use Rattle.std.specs.Prelude.{ℕ, List, take, reverse}

-- the last 64, from the last on
abbrev pub last_ids : List (List ℕ) → List (List ℕ)
last_ids ids = take 64 (reverse ids)
