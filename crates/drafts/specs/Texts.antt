-- Texts in slices. For the code alone: no public clause cites this.
use Rattle.std.specs.Prelude.{ℕ, List, map}
use Rattle.mail_base.specs.Series.{Held}

-- the texts of a slice, without their rooms
abbrev pub texts : List (Held ℕ) → List (List ℕ)
texts items = map (λ text. text.items) items
