-- What goes in front of a message that is added to a mailbox (mbox(5)).
use Rattle.std.specs.Prelude.{ℕ, Bool, true, List, [], ◌∷◌, ◌++◌, codes, if◌then◌else◌}
use Rattle.bstr.specs.Text.{lines_of}
use Rattle.mail_base.specs.Lines.{is_empty_line}

-- the last of the lines is empty, or there is none
abbrev pub end_empty : List (List ℕ) → Bool
end_empty [] = true
end_empty (line ∷ []) = is_empty_line line
end_empty (line ∷ next ∷ lines) = end_empty (next ∷ lines)

-- as many LF as make the bytes of a file end with an empty line
unfoldable pub feeds_before : List ℕ → List ℕ
feeds_before bytes =
    if end_empty (lines_of bytes) then []
    else (if end_empty (lines_of (bytes ++ codes "\n")) then codes "\n" else codes "\n\n")
