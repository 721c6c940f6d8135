-- How the body of a multipart is cut at its delimiter lines (RFC 2046, section 5.1.1).
use Rattle.std.specs.Prelude.{◌+◌, ℕ, Bool, List, [], ◌∷◌, ◌++◌, length, if◌then◌else◌}
use Rattle.bstr.specs.Text.{without_terminator}
use Rattle.mime_tree.specs.Delimiter.{is_delimiter, kind_of}
use Rattle.mime_tree.specs.declared.delimiter.LineKind.{LineKind}
use Rattle.mime_tree.specs.declared.delimiter.LineKind.TheVariants.{Text, Delimiter, Closing}
use Rattle.mime_tree.specs.declared.section.Section.{Section}

-- a range of a message that holds a part: where it starts, its bytes, and whether it stands in a
-- digest
pub record PlainSection : Type 0 where
  pub start : ℕ
  pub text : List ℕ
  pub in_digest : Bool

-- a part's bytes and the lines up to the next delimiter line, to which the line end before it
-- belongs
abbrev pub section_text : List ℕ → List ℕ → List (List ℕ) → List ℕ
section_text boundary front [] = front
section_text boundary front (line ∷ lines) =
    if is_delimiter (kind_of boundary line) then without_terminator front
    else section_text boundary (front ++ line) lines

-- the part that begins at a place, with the lines behind it
abbrev pub section_at : List ℕ → Bool → ℕ → List (List ℕ) → PlainSection
section_at boundary in_digest at lines =
    record { start = at; text = section_text boundary [] lines; in_digest = in_digest }

-- the part behind a line that begins one, and those behind it; none stands behind the closing line
abbrev pub sections_with : LineKind → PlainSection → List PlainSection → List PlainSection
sections_with Text first more = more
sections_with Delimiter first more = first ∷ more
sections_with Closing first more = []

-- the parts of a multipart of the boundary in lines that begin at a place
abbrev pub sections : List ℕ → Bool → ℕ → List (List ℕ) → List PlainSection
sections boundary in_digest at [] = []
sections boundary in_digest at (line ∷ lines) =
    sections_with (kind_of boundary line) (section_at boundary in_digest (at + length line) lines)
    (sections boundary in_digest (at + length line) lines)

-- a section as contracts see it
abbrev pub plain_section : Section → PlainSection
plain_section s = record { start = s.start; text = s.text.now; in_digest = s.in_digest }
