-- A section cut at its first delimiter line. For the code alone: no public clause cites this.
use Rattle.std.specs.Prelude.{◌+◌, ◌-◌, ℕ, false, List, [], ◌∷◌, length, Option, Some, None}
use Rattle.std.specs.Prelude.{if◌then◌else◌}
use Rattle.bstr.specs.Text.{lines_of}
use Rattle.mail_base.specs.Lines.{body_of}
use Rattle.mime_tree.specs.Section.{PlainSection, plain_section, section_at, sections}
use Rattle.mime_tree.specs.declared.cut.Cut.{Cut}

-- the parts of a multipart in a section
abbrev pub sections_of : List ℕ → PlainSection → List PlainSection
sections_of boundary s = sections boundary s.in_digest s.start (lines_of s.text)

-- the part at the front of a section
abbrev pub first_of : List ℕ → PlainSection → PlainSection
first_of boundary s = section_at boundary s.in_digest s.start (lines_of s.text)

-- the front of a section that is cut, else the section
abbrev pub front_of : PlainSection → Option Cut → PlainSection
front_of s None = s
front_of s (Some cut) = plain_section cut.front

-- the parts behind the line at which a section is cut
abbrev pub behind_cut : List ℕ → Option Cut → List PlainSection
behind_cut boundary None = []
behind_cut boundary (Some cut) =
    if cut.closes then []
    else first_of boundary (plain_section cut.rest) ∷ sections_of boundary (plain_section cut.rest)

-- how many lines that begin with two dashes are left, with the one at which a section is cut
abbrev pub lines_left : Option Cut → ℕ
lines_left None = 0
lines_left (Some cut) = length cut.rest.dashes.now + 1

-- what stands behind the header block of a part
abbrev pub body_section : PlainSection → PlainSection
body_section s = record {
  start = s.start + (length s.text - length (body_of s.text));
  text = body_of s.text;
  in_digest = false;
}
