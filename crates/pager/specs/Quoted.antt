-- Lines that quote another message.
use Rattle.std.specs.Prelude.{◌==◌, ℕ, Bool, false, not, List, [], ◌∷◌, filter}
use Rattle.std.specs.Str.{byte}
use Rattle.mail_base.specs.Blanks.{without_blanks}

-- a text that begins with `>`
abbrev pub begins_quote : List ℕ → Bool
begins_quote [] = false
begins_quote (b ∷ rest) = b == byte ">"

-- a line whose first non-blank is `>`
abbrev pub is_quoted : List ℕ → Bool
is_quoted line = begins_quote (without_blanks line)

-- the lines that quote nothing
abbrev pub unquoted : List (List ℕ) → List (List ℕ)
unquoted lines = filter (λ line. not (is_quoted line)) lines
