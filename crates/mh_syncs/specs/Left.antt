-- Stamps behind a sync.
use Rattle.std.specs.Prelude.{[], ◌∷◌, ℕ, Bool, true, false, List, Option, Some, None}
use Rattle.std.specs.Prelude.{if◌then◌else◌}
use Rattle.index_items.specs.Changes.{Alters, Discards, PlainChange}

-- a message stays of which this becomes
abbrev pub stays : Option PlainChange → Bool
stays None = true
stays (Some (Alters added cleared)) = true
stays (Some Discards) = false

-- a stamp where its message stays
abbrev pub stamp_if : Bool → ℕ → List ℕ
stamp_if is_left stamp = if is_left then stamp ∷ [] else []
