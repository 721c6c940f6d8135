-- Lines that stand for what is not shown, or before it (Mutt's manual, "MIME").
use Rattle.std.specs.Prelude.{ℕ, List, ◌++◌, codes}
use Rattle.std.specs.Fmt.{decimal}
use Rattle.mail_base.specs.Shown.{utf8_text}

-- the line before the part of the number, counted from 1 among its siblings
abbrev pub part_mark : ℕ → List ℕ → List ℕ
part_mark number content =
    codes "[-- Part " ++ decimal number ++ codes ": " ++ utf8_text content ++ codes " --]"

-- the line in place of a part of a type that is not shown
abbrev pub unsupported_mark : List ℕ → List ℕ
unsupported_mark content = codes "[-- " ++ utf8_text content ++ codes " is unsupported --]"

-- the line before a body whose parts nest too deep
abbrev pub deep_mark : List ℕ
deep_mark = codes "[-- Nesting too deep --]"
