-- Tables of the first value that each number is given.
use Rattle.std.specs.Prelude.{◌≡◌, ℕ, List, Option, None, Some, find, nat_eq, option_map}
use Rattle.std.specs.Prelude.{slice_index_or, slice_set}
use Rattle.std.specs.Option.{option_or}

-- the value of the first of some things that bears a number
abbrev pub first_of : {X T : Type 0} → (X → ℕ) → (X → T) → List X → ℕ → Option T
first_of number value xs n = option_map value (find (λ x. nat_eq n (number x)) xs)

-- a table has the value of the first of some things that bears each number
abbrev pub HasFirsts : {X T : Type 0} → (X → ℕ) → (X → T) → List (Option T) → List X → Type 0
HasFirsts number value table xs =
    (n : ℕ) → slice_index_or table n None ≡ first_of number value xs n

-- a number is given a value, unless it has one
abbrev pub put : {T : Type 0} → List (Option T) → ℕ → T → List (Option T)
put table n value = slice_set table n (option_or (slice_index_or table n None) (Some value))
