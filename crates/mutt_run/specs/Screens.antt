-- Lines as they are printed.
use Rattle.std.specs.Prelude.{ℕ, List, [], ◌∷◌, ◌++◌}

-- each line with its LF
abbrev pub printed_lines : List (List ℕ) → List ℕ
printed_lines [] = []
printed_lines (line ∷ lines) = line ++ 10 ∷ printed_lines lines

-- a screen: its lines, and then form feed and LF
abbrev pub screen_text : List (List ℕ) → List ℕ
screen_text lines = printed_lines lines ++ 12 ∷ 10 ∷ []
