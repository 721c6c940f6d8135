-- Words that are one text.
use Rattle.std.specs.Prelude.{◌++◌, ℕ, List, [], ◌∷◌}

-- words, with a blank before each
abbrev pub with_blanks : List (List ℕ) → List ℕ
with_blanks [] = []
with_blanks (word ∷ words) = 32 ∷ (word ++ with_blanks words)

-- words, with a blank between them
abbrev pub joined : List (List ℕ) → List ℕ
joined [] = []
joined (word ∷ words) = word ++ with_blanks words
