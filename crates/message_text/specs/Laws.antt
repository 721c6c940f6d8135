-- What is so of every message that is shown.
use Rattle.std.specs.Prelude.{◌≡◌, ◌+◌, ℕ, false, List, length, take, drop, map, filter, Some}
use Rattle.std.specs.Prelude.{IsPermutation}
use Rattle.mail_base.specs.Lines.{PlainField, message_fields}
use Rattle.mime_tree.specs.Part.{PlainPart}
use Rattle.mime_tree.specs.Parts.{parts_of}
use Rattle.message_text.specs.Branch.{branch_lines}
use Rattle.message_text.specs.Header.{field_line}
use Rattle.message_text.specs.Message.{lines_from, message_lines}
use Rattle.message_text.specs.Weeding.{PlainWeeding, is_kept, shown_fields}

-- with no weeding a message begins with a line for each of its fields, in their order
abbrev pub UnweededFieldsAreAllShown : Type 0
UnweededFieldsAreAllShown =
    (w : PlainWeeding) (raw : List ℕ) → w.weed ≡ false
    → take (length (message_fields raw)) (message_lines w raw)
    ≡ map field_line (message_fields raw)

-- each field that is not left out is shown once, whatever the order
abbrev pub KeptFieldsAreShownOnce : Type 0
KeptFieldsAreShownOnce =
    (w : PlainWeeding) (fields : List PlainField)
    → IsPermutation (filter (is_kept w) fields) (shown_fields w fields)

-- no part is left out for want of levels: with more than a message may have it is shown alike
abbrev pub LevelsAreEnough : Type 0
LevelsAreEnough =
    (w : PlainWeeding) (raw : List ℕ) (parts : List PlainPart) (number more : ℕ)
    → parts_of raw ≡ Some parts
    → branch_lines (33 + more) w raw (drop number parts)
    ≡ lines_from w raw (drop number parts)
