-- The lines that begin with two dashes, among which all delimiter lines are (RFC 2046, section
-- 5.1.1).
-- For the code alone: no public clause cites this.
use Rattle.std.specs.Prelude.{◌+◌, ℕ, Bool, nat_lt, nat_le, List, [], ◌∷◌, length, drop, map}
use Rattle.std.specs.Prelude.{Option, Some, None, is_some, codes, if◌then◌else◌}
use Rattle.std.specs.List.{position_or_len}
use Rattle.bstr.specs.Text.{lines_of, without_terminator}
use Rattle.mail_base.specs.Fronts.{◌>>=◌, behind_text}
use Rattle.mail_base.specs.Lines.{first_line}
use Rattle.mime_tree.specs.Delimiter.{is_delimiter, kind_behind, kind_of}
use Rattle.mime_tree.specs.declared.delimiter.LineKind.{LineKind}

-- a line that begins with two dashes: where it starts, and what stands behind the dashes, without
-- the line end
pub record DashLine : Type 0 where
  pub start : ℕ
  pub text : List ℕ

-- what stands behind the two dashes with which a line begins
abbrev pub behind_dashes : List ℕ → Option (List ℕ)
behind_dashes line = behind_text (codes "--") (without_terminator line)

-- a line at a place by what stands behind its dashes, and those behind it
abbrev pub dash_lines_with : ℕ → Option (List ℕ) → List DashLine → List DashLine
dash_lines_with at None more = more
dash_lines_with at (Some text) more = record { start = at; text = text } ∷ more

-- those among lines that begin at a place
abbrev pub dash_lines : ℕ → List (List ℕ) → List DashLine
dash_lines at [] = []
dash_lines at (line ∷ lines) =
    dash_lines_with at (behind_dashes line) (dash_lines (at + length line) lines)

-- what a line is in a multipart of the boundary, by what stands behind its dashes
abbrev pub dash_kind : List ℕ → List ℕ → LineKind
dash_kind boundary text = kind_behind (behind_text boundary text)

-- a delimiter line, be it the closing one
abbrev pub delimits : List ℕ → DashLine → Bool
delimits boundary line = is_delimiter (dash_kind boundary line.text)

-- the lines from the first on that starts at a place or behind it
abbrev pub from_place : ℕ → List DashLine → List DashLine
from_place place [] = []
from_place place (line ∷ lines) =
    if nat_lt line.start place then from_place place lines else line ∷ lines

-- where lines that begin with two dashes start
abbrev pub dash_starts : ℕ → List (List ℕ) → List ℕ
dash_starts at lines = map (λ d. d.start) (dash_lines at lines)

-- the places from the first on that is a place or behind it
abbrev pub starts_from : ℕ → List ℕ → List ℕ
starts_from place starts = drop (position_or_len (λ at. nat_le place at) starts) starts

-- the line that starts at a place of a text is a delimiter line
abbrev pub delimits_at : List ℕ → List ℕ → ℕ → Bool
delimits_at boundary text place =
    is_delimiter (kind_of boundary (first_line (lines_of (drop place text))))

-- two dashes and the boundary stand at the front of a text
abbrev pub may_delimit : List ℕ → List ℕ → Bool
may_delimit boundary text = is_some (behind_text (codes "--") text >>= behind_text boundary)
