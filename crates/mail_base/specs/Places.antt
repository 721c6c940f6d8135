-- The first and the last place of a list at which a test passes. The first is what `position`
-- gives.
use Rattle.std.specs.Prelude.{◌≡◌, ◌==◌, ◌+◌, ◌<◌, ℕ, Bool, true, false, List, length, take, drop}
use Rattle.std.specs.Prelude.{position, Option, MatchOption, option_map, slice_index_or}

-- the test passes at no place from low on
abbrev pub Nowhere : {X : Type 0} → (X → Bool) → List X → ℕ → Type 0
Nowhere {X} p xs low =
    (j : ℕ) (d : X) → low < j + 1 → j < length xs → p (slice_index_or xs j d) ≡ false

-- the test passes there
abbrev pub PassesAt : {X : Type 0} → (X → Bool) → List X → ℕ → Type 0
PassesAt {X} p xs k = (k < length xs) × ((d : X) → p (slice_index_or xs k d) ≡ true)

-- the last place at which the test passes
abbrev pub IsLastPlace : {X : Type 0} → (X → Bool) → List X → Option ℕ → Type 0
IsLastPlace p xs r = MatchOption r (Nowhere p xs 0) (λ k. PassesAt p xs k × Nowhere p xs (k + 1))

-- what stands before and behind a place
abbrev pub around : {X : Type 0} → List X → ℕ → List X × List X
around xs place = (take place xs, drop (place + 1) xs)

-- what stands before and behind the first such byte
abbrev pub split_once : ℕ → List ℕ → Option (List ℕ × List ℕ)
split_once byte s = option_map (around s) (position (λ b. b == byte) s)
