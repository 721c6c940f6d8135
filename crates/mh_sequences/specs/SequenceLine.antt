-- Lines of the file of sequences (mh-sequence(5)): `name: ranges`, and others.
use Rattle.std.specs.Prelude.{◌≡◌, ◌&&◌, ℕ, Bool, false, not, nat_lt, List, [], ◌∷◌, ◌++◌}
use Rattle.std.specs.Prelude.{length, Option, Some, None, unwrap_or, codes}
use Rattle.std.specs.Prelude.{if◌then◌else◌}
use Rattle.std.specs.List.{flat_map, list_any}
use Rattle.std.specs.Str.{byte, bytes_eq}
use Rattle.mail_base.specs.Blanks.{is_blank}
use Rattle.mail_base.specs.Fronts.{◌>>=◌}
use Rattle.mail_base.specs.Places.{split_once}
use Rattle.mh_sequences.specs.declared.range.Range.{Range}
use Rattle.mh_sequences.specs.declared.sequence_line.SequenceLine.{SequenceLine}
use Rattle.mh_sequences.specs.declared.sequence_line.SequenceLine.TheVariants as line
use Rattle.mh_sequences.specs.Ranges.{any_holds, in_order, one, range_of, text_of, with_range}
use Rattle.mh_sequences.specs.Ranges.{without}

-- a sequence by its name and its ranges, or any other line as it is
pub data PlainLine : Type 0 where
  Named : List ℕ → List Range → PlainLine
  Kept : List ℕ → PlainLine

-- a line as contracts see it
abbrev pub plain_line : SequenceLine → PlainLine
plain_line (line.Named name ranges) = Named name.items ranges.items
plain_line (line.Kept text) = Kept text.items

-- a name has a blank
abbrev pub has_blank : List ℕ → Bool
has_blank name = list_any is_blank name

-- a name is not empty, and has no blank and no colon
abbrev pub is_name : List ℕ → Bool
is_name name = nat_lt 0 (length name) && not (has_blank name)

-- the ranges with that of a word, if it is well-formed; an empty word gives none
abbrev pub with_word : List Range → List ℕ → Option (List Range)
with_word ranges [] = Some ranges
with_word ranges (b ∷ word) = range_of (b ∷ word) >>= λ r. Some (ranges ++ r ∷ [])

-- what a call says that adds the range of a word, if it is well-formed
abbrev pub PushesWord : List Range → List ℕ → List Range → Bool → Type 0
PushesWord old word new is_range =
    with_word old word ≡ (if is_range then Some new else None)

-- the ranges behind others in a text, of which the first word has these bytes so far
abbrev pub ranges_from : List Range → List ℕ → List ℕ → Option (List Range)
ranges_from ranges word [] = with_word ranges word
ranges_from ranges word (b ∷ rest) =
    if is_blank b then with_word ranges word >>= (λ more. ranges_from more [] rest)
    else ranges_from ranges (word ++ b ∷ []) rest

-- the sequence of a line that is cut at its colon, if it is one
abbrev pub named_by : List ℕ × List ℕ → Option PlainLine
named_by parts =
    if is_name parts.0
    then ranges_from [] [] parts.1 >>= (λ ranges. Some (Named parts.0 (in_order ranges)))
    else None

-- a name, a colon and well-formed ranges with blanks between
abbrev pub named_line : List ℕ → Option PlainLine
named_line text = split_once (byte ":") text >>= named_by

-- a line of the file: a sequence, or one that is kept as it is
abbrev pub line_of : List ℕ → PlainLine
line_of text = unwrap_or (named_line text) (Kept text)

-- a sequence without members
abbrev pub empty_line : List ℕ → PlainLine
empty_line name = Named name []

-- a line is the sequence of a name
abbrev pub has_name : List ℕ → PlainLine → Bool
has_name name (Named own ranges) = bytes_eq own name
has_name name (Kept text) = false

-- a line is the sequence of a name and holds a number
abbrev pub line_holds : List ℕ → ℕ → PlainLine → Bool
line_holds name n (Named own ranges) = bytes_eq own name && any_holds n ranges
line_holds name n (Kept text) = false

-- its ranges, if it is a sequence of the name
abbrev pub ranges_if : Bool → List Range → List Range
ranges_if is_named ranges = if is_named then ranges else []

-- the ranges of a line, if it is the sequence of a name
abbrev pub ranges_named : List ℕ → PlainLine → List Range
ranges_named name (Named own ranges) = ranges_if (bytes_eq own name) ranges
ranges_named name (Kept text) = []

-- a sequence with one more number
abbrev pub with_number : ℕ → PlainLine → PlainLine
with_number n (Named name ranges) = Named name (with_range (one n) ranges)
with_number n (Kept text) = Kept text

-- a sequence without a number
abbrev pub without_number : ℕ → PlainLine → PlainLine
without_number n (Named name ranges) = Named name (without n ranges)
without_number n (Kept text) = Kept text

-- ranges as they are written
abbrev pub ranges_text : List Range → List ℕ
ranges_text ranges = flat_map text_of ranges

-- a sequence without numbers is not written
abbrev pub named_text : List ℕ → List Range → List ℕ
named_text name [] = []
named_text name (r ∷ ranges) = name ++ byte ":" ∷ ranges_text (r ∷ ranges) ++ codes "\n"

-- the line with its line end
abbrev pub line_text : PlainLine → List ℕ
line_text (Named name ranges) = named_text name ranges
line_text (Kept text) = text ++ codes "\n"
