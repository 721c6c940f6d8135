-- The file of sequences (mh-sequence(5)), line by line, and what a change makes of it.
use Rattle.std.specs.Prelude.{◌==◌, ℕ, Bool, true, false, List, [], ◌∷◌, ◌++◌, map, codes}
use Rattle.std.specs.Prelude.{if◌then◌else◌}
use Rattle.std.specs.List.{flat_map, list_any}
use Rattle.mh_sequences.specs.declared.range.Range.{Range}
use Rattle.mh_sequences.specs.declared.sequence_line.SequenceLine.{SequenceLine}
use Rattle.mh_sequences.specs.SequenceLine.{PlainLine, empty_line, has_name, line_holds, line_of}
use Rattle.mh_sequences.specs.SequenceLine.{line_text, plain_line, ranges_named}
use Rattle.mh_sequences.specs.SequenceLine.{with_number as line_with}
use Rattle.mh_sequences.specs.SequenceLine.{without_number as line_without}

-- lines as contracts see them
abbrev pub plain_lines : List SequenceLine → List PlainLine
plain_lines lines = map plain_line lines

-- a last line without a line end counts where it is not empty
abbrev pub last_line : List ℕ → List PlainLine
last_line [] = []
last_line (b ∷ text) = line_of (b ∷ text) ∷ []

-- the lines of a text, of which the first has these bytes so far
abbrev pub lines_from : List ℕ → List ℕ → List PlainLine
lines_from so_far [] = last_line so_far
lines_from so_far (b ∷ rest) =
    if b == 10 then line_of so_far ∷ lines_from [] rest else lines_from (so_far ++ b ∷ []) rest

-- one of the lines is the sequence of a name
abbrev pub any_has_name : List ℕ → List PlainLine → Bool
any_has_name name lines = list_any (has_name name) lines

-- a name that no line has gets one, behind all
abbrev pub with_name : List ℕ → List PlainLine → List PlainLine
with_name name lines = if any_has_name name lines then lines else lines ++ empty_line name ∷ []

-- the lines of a file, and the sequences of flags that it lacks in the order in which new ones come
abbrev pub sequences_of : List ℕ → List PlainLine
sequences_of bytes =
    with_name (codes "replied") (with_name (codes "flagged") (with_name (codes "unseen")
    (lines_from [] bytes)))

-- of two lines of one name both count
abbrev pub holds : List ℕ → ℕ → List PlainLine → Bool
holds name n lines = list_any (line_holds name n) lines

-- the ranges of all lines of the name
abbrev pub ranges_of : List ℕ → List PlainLine → List Range
ranges_of name lines = flat_map (ranges_named name) lines

-- in the first line of the name, or in a new one
abbrev pub with_member : List ℕ → ℕ → List PlainLine → List PlainLine
with_member name n [] = line_with n (empty_line name) ∷ []
with_member name n (line ∷ lines) =
    if has_name name line then line_with n line ∷ lines else line ∷ with_member name n lines

-- a line without a member, if it is the sequence of a name
abbrev pub line_without_member : List ℕ → ℕ → PlainLine → PlainLine
line_without_member name n line = if has_name name line then line_without n line else line

-- in no line of the name
abbrev pub without_member : List ℕ → ℕ → List PlainLine → List PlainLine
without_member name n lines = map (line_without_member name n) lines

-- the lines once a number is to be a member or not; they stay where it is so already
abbrev pub put : List ℕ → ℕ → Bool → List PlainLine → List PlainLine
put name n true lines = if holds name n lines then lines else with_member name n lines
put name n false lines = if holds name n lines then without_member name n lines else lines

-- in no line at all
abbrev pub without_number : ℕ → List PlainLine → List PlainLine
without_number n lines = map (line_without n) lines

-- lines as they are written
abbrev pub file_of : List PlainLine → List ℕ
file_of lines = flat_map line_text lines
