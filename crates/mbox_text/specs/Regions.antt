-- What is told of the last of some lines. For the code alone: no public clause cites this.
use Rattle.std.specs.Prelude.{ℕ, Bool, List, [], ◌∷◌}
use Rattle.mail_base.specs.Lines.{is_empty_line}

-- the last line is empty; where there is none, what is told of the line before them
abbrev pub last_empty : Bool → List (List ℕ) → Bool
last_empty empty [] = empty
last_empty empty (line ∷ lines) = last_empty (is_empty_line line) lines
