-- How the paths of a folder with one file a message are read.
use Rattle.std.specs.Prelude.{◌≡◌, ◌⊎◌, ℕ, Bool, true, false, List, Option, Some}

-- Whether a file of these bytes is a message, the key of a message whose file may stand at a path,
-- whether a path is inside the folder, and the order of keys.
pub record Shape : Type 0 where
  pub counts : List ℕ → Bool
  pub slot : List ℕ → Option (List ℕ)
  pub home : List ℕ → Bool
  pub before : List ℕ → List ℕ → Bool

-- A strict order in which of two keys that differ one comes first.
pub record IsOrder (before : List ℕ → List ℕ → Bool) : Type 0 where
  pub never : (a : List ℕ) → before a a ≡ false
  pub trans : (a b c : List ℕ) → before a b ≡ true → before b c ≡ true → before a c ≡ true
  pub either : (a b : List ℕ) → (a ≡ b) ⊎ ((before a b ≡ true) ⊎ (before b a ≡ true))

-- The files of messages are inside, and their keys are in order.
pub record IsWellFormed (shape : Shape) : Type 0 where
  pub inside : (path key : List ℕ) → shape.slot path ≡ Some key → shape.home path ≡ true
  pub order : IsOrder shape.before
