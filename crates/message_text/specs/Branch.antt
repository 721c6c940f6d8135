-- The lines of a part and of those that stand in it (RFC 2046, section 5).
-- A part is named by the parts of the message from it on, in the order of reading: it is the first,
-- and those that stand in it are the next ones that nest deeper.
use Rattle.std.specs.Prelude.{◌+◌, ◌==◌, ℕ, zero, suc, nat_le, List, [], ◌∷◌, ◌++◌, Option}
use Rattle.std.specs.Prelude.{Some, None, codes, if◌then◌else◌}
use Rattle.std.specs.List.{find, slice_range}
use Rattle.std.specs.Str.{bytes_eq}
use Rattle.mail_base.specs.Lines.{behind_line}
use Rattle.mime_tree.specs.Part.{PlainPart}
use Rattle.mime_tree.specs.Text.{decoded_lines}
use Rattle.message_text.specs.Header.{header_lines}
use Rattle.message_text.specs.Look.{is_text, look_of}
use Rattle.message_text.specs.Marks.{part_mark, unsupported_mark}
use Rattle.message_text.specs.Weeding.{PlainWeeding}
use Rattle.message_text.specs.declared.look.Look.{Look}
use Rattle.message_text.specs.declared.look.Look.TheVariants as look

-- the content type of a part
abbrev pub content_of : List PlainPart → List ℕ
content_of [] = []
content_of (p ∷ behind) = p.content

-- the parts that stand directly in a part of the nesting, among the parts behind it: those that
-- nest one deeper, up to the first that does not stand in it
abbrev pub children : ℕ → List PlainPart → List (List PlainPart)
children nesting [] = []
children nesting (p ∷ behind) =
    if nat_le p.nesting nesting then []
    else (if p.nesting == nesting + 1 then (p ∷ behind) ∷ children nesting behind
    else children nesting behind)

-- the one of several that all say the same which is shown: the first of plain text, else the first
-- text (section 5.1.4)
abbrev pub chosen_with : Option (List PlainPart) → List (List PlainPart) → Option (List PlainPart)
chosen_with (Some plain) branches = Some plain
chosen_with None branches = find (λ b. is_text (content_of b)) branches

-- the one that is shown of the parts of an alternative
abbrev pub chosen : List (List PlainPart) → Option (List PlainPart)
chosen branches =
    chosen_with (find (λ b. bytes_eq (content_of b) (codes "text/plain")) branches) branches

-- the line before a part, before which so many siblings stand; the first has none
abbrev pub mark_before : ℕ → List ℕ → List (List ℕ)
mark_before zero content = []
mark_before (suc before) content = part_mark (suc before + 1) content ∷ []

-- parts one behind the other, before which so many siblings stand
abbrev pub mixed_lines : (List PlainPart → List (List ℕ)) → ℕ → List (List PlainPart)
    → List (List ℕ)
mixed_lines lines before [] = []
mixed_lines lines before (b ∷ branches) =
    mark_before before (content_of b) ++ lines b ++ mixed_lines lines (before + 1) branches

-- the part of an alternative that is chosen, else all of them
abbrev pub alternative_lines : (List PlainPart → List (List ℕ)) → List (List PlainPart)
    → Option (List PlainPart)
    → List (List ℕ)
alternative_lines lines branches (Some b) = lines b
alternative_lines lines branches None = mixed_lines lines 0 branches

-- the body of a part as it stands, behind the empty line that ends its header block
abbrev pub raw_body : List ℕ → PlainPart → List ℕ
raw_body raw p = behind_line (slice_range raw p.body_at p.body_end)

-- a part by its look, with the parts that stand directly in it and the lines of each
abbrev pub looked_lines : (List PlainPart → List (List ℕ)) → PlainWeeding → List ℕ → PlainPart
    → List (List PlainPart) → Look
    → List (List ℕ)
looked_lines lines w raw p branches look.Text =
    decoded_lines p.encoding p.charset (slice_range raw p.body_at p.body_end)
looked_lines lines w raw p branches look.Alternative =
    alternative_lines lines branches (chosen branches)
looked_lines lines w raw p branches look.Mixed = mixed_lines lines 0 branches
looked_lines lines w raw p branches look.Message =
    header_lines w (raw_body raw p) ++ [] ∷ mixed_lines lines 0 branches
looked_lines lines w raw p branches look.Unsupported = unsupported_mark p.content ∷ []

-- a part in which others may stand so many levels deep with itself
unfoldable pub branch_lines : ℕ → PlainWeeding → List ℕ → List PlainPart → List (List ℕ)
branch_lines zero w raw branch = []
branch_lines (suc levels) w raw [] = []
branch_lines (suc levels) w raw (p ∷ behind) =
    looked_lines (branch_lines levels w raw) w raw p (children p.nesting behind)
    (look_of p.content)
