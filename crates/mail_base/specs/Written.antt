-- How texts are written that are read back. For laws alone: no function reads by these words.
use Rattle.std.specs.Prelude.{◌==◌, ◌&&◌, ◌||◌, ℕ, Bool, not, List, [], ◌∷◌, if◌then◌else◌}
use Rattle.std.specs.Str.{byte}

-- a byte that a text on one line may hold
abbrev pub is_line_byte : ℕ → Bool
is_line_byte b = not (b == byte "\n") && not (b == byte "\r")

-- a quote and a backslash stand behind a backslash (RFC 5322, section 3.2.4)
abbrev pub escaped : List ℕ → List ℕ
escaped [] = []
escaped (b ∷ s) =
    if b == byte "\"" || b == byte "\\" then byte "\\" ∷ b ∷ escaped s else b ∷ escaped s
