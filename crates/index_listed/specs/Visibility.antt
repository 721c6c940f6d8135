-- Which messages are visible: those that satisfy the limit, and of a shut thread only the first.
use Rattle.std.specs.Prelude.{◌≡◌, ◌==◌, ◌<◌, ◌&&◌, ◌||◌, ℕ, Bool, false, not, List, length}
use Rattle.std.specs.Prelude.{slice_index_or}
use Rattle.std.specs.List.{filter, range_with_len}
use Rattle.index_listed.specs.Entries.{at, some_below}
use Rattle.index_listed.specs.declared.entry.Entry.{Entry}

-- the message at a place satisfies the limit
abbrev pub satisfies : List Entry → ℕ → Bool
satisfies entries p = (at entries p).satisfies

-- a message stands in the thread with this root, and passes a test
abbrev pub in_thread : List Entry → (ℕ → Bool) → ℕ → ℕ → Bool
in_thread entries passes root p = ((at entries p).root == root) && passes p

-- a message of the same thread that stands before this one satisfies the limit
abbrev pub comes_later : List Entry → ℕ → Bool
comes_later entries p = some_below (in_thread entries (satisfies entries) (at entries p).root) p

-- a message satisfies the limit, and is the first of its thread to do so where that is shut
abbrev pub is_visible : List Entry → ℕ → Bool
is_visible entries p =
    satisfies entries p && (not (at entries p).is_shut || not (comes_later entries p))

-- where the visible messages stand in the order of the index
abbrev pub visible : List Entry → List ℕ
visible entries = filter (is_visible entries) (range_with_len 0 (length entries))

-- a message satisfies the limit, and is not visible
abbrev pub is_hidden : List Entry → ℕ → Bool
is_hidden entries p = satisfies entries p && not (is_visible entries p)

-- a message is the visible one of a shut thread in which another one is hidden
abbrev pub hides : List Entry → ℕ → Bool
hides entries p = is_visible entries p && ((at entries p).is_shut
    && some_below (in_thread entries (is_hidden entries) (at entries p).root) (length entries))

-- For the code alone.

-- the threads, by their roots, in which a message below a place passes a test
pub record AreThreadsWith (passes : ℕ → Bool) (entries : List Entry) (count : ℕ)
    (marks : List Bool) : Type 0 where
  pub long : length marks ≡ length entries
  pub marked : (root : ℕ) → root < length entries
      → slice_index_or marks root false ≡ some_below (in_thread entries passes root) count
