-- The texts of hooks for messages, as they are read (Mutt's manual, "default_hook").
use Rattle.std.specs.Prelude.{◌==◌, ◌||◌, ◌++◌, ℕ, Bool, List, codes, if◌then◌else◌}
use Rattle.std.specs.List.{list_any}
use Rattle.std.specs.Str.{byte}
use Rattle.patterns.specs.Printed.{lacks, printed_argument}

-- a term of a pattern stands in the text
abbrev pub holds_sign : List ℕ → Bool
holds_sign text = list_any (λ b. b == byte "~" || b == byte "=") text

-- messages by somebody else in whose From the expression is found, and the reader's own ones in
-- whose To or Cc it is
abbrev pub people_pattern : List ℕ → List ℕ
people_pattern text =
    codes "~f " ++ printed_argument text ++ codes " !~P | (~P ~C " ++ printed_argument text
    ++ codes ")"

-- the pattern as which a text is read
abbrev pub hook_pattern : List ℕ → List ℕ
hook_pattern text = if holds_sign text then text else people_pattern text

-- For the code alone.

-- the quote in which a text stands: the other one where it holds this one
abbrev pub quote_for : List ℕ → ℕ
quote_for text = if lacks (byte "\"") text then byte "\"" else byte "'"
