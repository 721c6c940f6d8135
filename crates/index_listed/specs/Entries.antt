-- Messages in the order of the index, by their places in it.
use Rattle.std.specs.Prelude.{◌≡◌, ◌<◌, ◌||◌, ℕ, zero, suc, Bool, false, List, length}
use Rattle.std.specs.Prelude.{Option, Some, None, option_map, slice_index_or}
use Rattle.std.specs.Option.{option_map_or}
use Rattle.threads.specs.declared.options.Link.{Link}
use Rattle.threads.specs.declared.options.Link.TheVariants.{Reference}
use Rattle.index_listed.specs.declared.entry.Entry.{Entry}

-- what stands for a message at a place behind the last one
abbrev pub no_entry : Entry
no_entry = record { parent = None; root = 0; satisfies = false; is_shut = false }

-- the message at a place
abbrev pub at : List Entry → ℕ → Entry
at entries p = slice_index_or entries p no_entry

-- where the parent of a message stands
abbrev pub parent : List Entry → ℕ → Option ℕ
parent entries p = option_map (λ a. a.place) (at entries p).parent

-- by what a message follows its parent
abbrev pub link : List Entry → ℕ → Link
link entries p = option_map_or (λ a. a.link) (at entries p).parent Reference

-- some place below a number passes a test
abbrev pub some_below : (ℕ → Bool) → ℕ → Bool
some_below passes zero = false
some_below passes (suc n) = some_below passes n || passes n

-- the root of each message is among them
abbrev pub RootsWithin : List Entry → Type 0
RootsWithin entries = (p : ℕ) → p < length entries → (at entries p).root < length entries

-- each message stands behind its parent, so no parents go in a circle
abbrev pub ParentsFirst : List Entry → Type 0
ParentsFirst entries = (p q : ℕ) → parent entries p ≡ Some q → q < p

-- For the code alone.

-- a list tells what a function gives at each place below a number
pub record Tells {X : Type 0} (blank : X) (f : ℕ → X) (count : ℕ) (xs : List X) : Type 0 where
  pub long : length xs ≡ count
  pub each : (p : ℕ) → p < count → slice_index_or xs p blank ≡ f p
