-- The words of the command that turns a variable over (Mutt's manual, "toggle").
use Rattle.std.specs.Prelude.{◌∷◌, [], ℕ, List, codes}

-- the words of the command for the variable with the name
abbrev pub toggle_words : List ℕ → List (List ℕ)
toggle_words name = codes "toggle" ∷ name ∷ []
