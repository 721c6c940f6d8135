-- A message with other flags in its status fields.
use Rattle.std.specs.Prelude.{◌+◌, ℕ, ◌++◌, drop, length, List, [], ◌∷◌, codes, if◌then◌else◌}
use Rattle.std.specs.List.{concat}
use Rattle.bstr.specs.Text.{lines_of}
use Rattle.mail_base.specs.declared.flags.Flags.{Flags}
use Rattle.mail_base.specs.Lines.{after_block, body_at, first_line, header_block}
use Rattle.folder_core.specs.Mbox.{kept_lines, with_feed}

-- the line of the field Status, where the flags have one
abbrev pub status_line : Flags → List (List ℕ)
status_line flags =
    if flags.seen then codes "Status: RO\n" ∷ []
    else (if flags.aged then codes "Status: O\n" ∷ [] else [])

-- the line of the field X-Status, where the flags have one
abbrev pub x_status_line : Flags → List (List ℕ)
x_status_line flags =
    if flags.replied
    then (if flags.flagged then codes "X-Status: AF\n" ∷ [] else codes "X-Status: A\n" ∷ [])
    else (if flags.flagged then codes "X-Status: F\n" ∷ [] else [])

-- the lines of both
abbrev pub status_lines : Flags → List (List ℕ)
status_lines flags = status_line flags ++ x_status_line flags

-- the lines of a message with further ones last in its header block
abbrev pub with_fields : List (List ℕ) → List (List ℕ) → List (List ℕ)
with_fields more [] = more
with_fields more (first ∷ lines) = first ∷ (header_block lines ++ (more ++ after_block lines))

-- the lines of a message without its status fields, the last with the LF that it may lack
abbrev pub kept_text : List ℕ → List ℕ
kept_text region = with_feed (concat (kept_lines (lines_of region)))

-- a message with these flags in place of its own, which stand last in its header block
unfoldable pub with_status : Flags → List ℕ → List ℕ
with_status flags region = concat (with_fields (status_lines flags) (lines_of (kept_text region)))

-- the place behind the header block of a message
abbrev pub block_end : List ℕ → ℕ
block_end text =
    length (first_line (lines_of text))
    + body_at (drop (length (first_line (lines_of text))) text)
