-- Which messages satisfy the limit.
use Rattle.std.specs.Prelude.{ℕ, Bool, true, List, length, map, Option, Some, None}
use Rattle.std.specs.List.{range_with_len}
use Rattle.patterns_match.specs.Listings.{Message}
use Rattle.patterns_match.specs.Pattern.{PlainPattern}
use Rattle.patterns_match.specs.Satisfies.{satisfies}
use Rattle.people.specs.People.{PlainPeople}

-- the message at a place satisfies a pattern
abbrev pub passes : PlainPeople → PlainPattern → List Message → ℕ → Bool
passes people limit messages p = satisfies people limit.offset messages limit.tree p

-- the message at a place satisfies the limit, if there is one
abbrev pub is_within : PlainPeople → Option PlainPattern → List Message → ℕ → Bool
is_within people None messages p = true
is_within people (Some limit) messages p = passes people limit messages p

-- which messages satisfy the limit
abbrev pub all_within : PlainPeople → Option PlainPattern → List Message → List Bool
all_within people limit messages =
    map (is_within people limit messages) (range_with_len 0 (length messages))
