-- Keys that wait to be pressed.
use Rattle.std.specs.Prelude.{◌≡◌, ℕ, List, [], ◌∷◌, Option, Some, None}
use Rattle.keymap.specs.declared.key.Key.{Key}

-- the most replacements for one typed key
abbrev pub most_replacements : ℕ
most_replacements = 1024

-- the keys in the order in which they will be pressed, how many more can be put without taking
-- memory, and how many
-- replacements were made since the last typed key
pub record PlainQueue : Type 0 where
  pub items : List Key
  pub room : ℕ
  pub replaced : ℕ

-- the same keys and count, whatever the room
pub record IsAsBefore (old new : PlainQueue) : Type 0 where
  pub items : new.items ≡ old.items
  pub replaced : new.replaced ≡ old.replaced

-- the first key was taken, or there was none
abbrev pub TakesFirst : Option Key → List Key → List Key → Type 0
TakesFirst None old new = (old ≡ []) × (new ≡ [])
TakesFirst (Some key) old new = old ≡ key ∷ new
