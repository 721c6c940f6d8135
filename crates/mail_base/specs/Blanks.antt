-- Blanks, and texts without the blanks at their ends.
use Rattle.std.specs.Prelude.{◌-◌, ◌==◌, ◌||◌, ℕ, Bool, List, [], ◌∷◌, length, take, if◌then◌else◌}
use Rattle.std.specs.List.{list_all, suffix_len}
use Rattle.std.specs.Str.{byte}

-- a blank is a space or a tab
abbrev pub is_blank : ℕ → Bool
is_blank b = b == byte " " || b == byte "\t"

-- a text of blanks alone
abbrev pub is_all_blank : List ℕ → Bool
is_all_blank s = list_all is_blank s

-- without the blanks at the front
abbrev pub without_blanks : List ℕ → List ℕ
without_blanks [] = []
without_blanks (b ∷ rest) = if is_blank b then without_blanks rest else b ∷ rest

-- without the blanks at the end
abbrev pub without_last_blanks : List ℕ → List ℕ
without_last_blanks s = take (length s - suffix_len is_blank s) s

-- without the blanks at both ends
abbrev pub trimmed : List ℕ → List ℕ
trimmed s = without_last_blanks (without_blanks s)
