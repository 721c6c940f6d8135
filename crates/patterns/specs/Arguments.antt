-- Arguments of patterns.
use Rattle.std.specs.Prelude.{◌==◌, ◌||◌, ℕ, Bool, List, [], ◌∷◌, Option, Some, drop, take}
use Rattle.std.specs.Prelude.{if◌then◌else◌}
use Rattle.std.specs.List.{position_or_len}
use Rattle.std.specs.Str.{byte}
use Rattle.mail_base.specs.Blanks.{is_blank, without_blanks}
use Rattle.mail_base.specs.Places.{split_once}

-- it ends an argument without quotes
abbrev pub is_end : ℕ → Bool
is_end b = is_blank b || b == byte "|" || b == byte ")"

-- how many bytes of such an argument stand at the front
abbrev pub plain_len : List ℕ → ℕ
plain_len text = position_or_len is_end text

-- an argument without quotes, and what follows it
abbrev pub plain_argument : List ℕ → List ℕ × List ℕ
plain_argument text = (take (plain_len text) text, drop (plain_len text) text)

-- a quote, which has no escapes in it
abbrev pub is_quote : ℕ → Bool
is_quote b = b == byte "\"" || b == byte "'"

-- the argument at the front of a text, behind blanks, and what follows it; nothing where its quote
-- is not closed
abbrev pub argument_at : List ℕ → Option (List ℕ × List ℕ)
argument_at [] = Some ([], [])
argument_at (b ∷ rest) =
    if is_quote b then split_once b rest else Some (plain_argument (b ∷ rest))

-- the same behind blanks
abbrev pub argument : List ℕ → Option (List ℕ × List ℕ)
argument text = argument_at (without_blanks text)
