-- How many lines stand in the body of a message.
use Rattle.std.specs.Prelude.{ℕ, List, length}
use Rattle.bstr.specs.Text.{lines_of}
use Rattle.mail_base.specs.Lines.{after_block, behind_first}

-- how many lines stand behind the empty line that ends the header block
abbrev pub body_lines : List ℕ → ℕ
body_lines text = length (behind_first (after_block (lines_of text)))
