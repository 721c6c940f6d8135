-- Links without cycles: the first listed message of each cycle has none.
use Rattle.std.specs.Prelude.{◌==◌, ◌&&◌, ◌||◌, ℕ, zero, suc, Bool, false, List, length, map}
use Rattle.std.specs.Prelude.{Option, Some, None, slice_index_or, if◌then◌else◌}
use Rattle.std.specs.List.{range_with_len}
use Rattle.threads.specs.Links.{links, target}
use Rattle.threads.specs.Message.{PlainMessage, is_listed_before}
use Rattle.threads.specs.declared.options.ThreadOptions.{ThreadOptions}
use Rattle.threads.specs.declared.step.Step.{Step}

-- the next place is the head, or comes behind it and passes the test
abbrev pub meets : (ℕ → ℕ → Bool) → (ℕ → Bool) → ℕ → Option ℕ → Bool
meets is_before more head None = false
meets is_before more head (Some next) = next == head || (is_before head next && more next)

-- links lead from a place to the head in at most so many steps, by places behind it alone
abbrev pub comes_to : (ℕ → ℕ → Bool) → List (Option Step) → ℕ → ℕ → ℕ → Bool
comes_to is_before links head zero place = false
comes_to is_before links head (suc n) place =
    meets is_before (comes_to is_before links head n) head (target links place)

-- a place is reached again from itself, and is the first of that cycle; no cycle has more places
-- than there are
abbrev pub heads_cycle : (ℕ → ℕ → Bool) → List (Option Step) → ℕ → Bool
heads_cycle is_before links place = comes_to is_before links place (length links) place

-- the link at a place, unless it heads a cycle
abbrev pub cut_link : (ℕ → ℕ → Bool) → List (Option Step) → ℕ → Option Step
cut_link is_before links place =
    if heads_cycle is_before links place then None else slice_index_or links place None

-- links of which each cycle is cut
abbrev pub without_cycles : (ℕ → ℕ → Bool) → List (Option Step) → List (Option Step)
without_cycles is_before links =
    map (cut_link is_before links) (range_with_len 0 (length links))

-- the parents by the ids of headers
abbrev pub reference_parents : ThreadOptions → List PlainMessage → List (Option Step)
reference_parents options messages =
    without_cycles (is_listed_before messages) (links options messages)
