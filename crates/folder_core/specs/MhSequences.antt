-- Which numbers stand in the sequences of an MH folder (mh-sequence(5)): lines `name: ranges`,
-- ranges being `n` or `n-m` with blanks between. Of two lines of one name both count, and a line
-- that is not of this form says nothing.
use Rattle.std.specs.Prelude.{◌==◌, ◌&&◌, ◌||◌, ℕ, Bool, false, not, nat_le, nat_lt, List, [], ◌∷◌}
use Rattle.std.specs.Prelude.{◌++◌, length, codes, Option, Some, None, unwrap_or, if◌then◌else◌}
use Rattle.std.specs.List.{list_any}
use Rattle.std.specs.Str.{byte, bytes_eq}
use Rattle.mail_base.specs.Blanks.{is_blank}
use Rattle.mail_base.specs.Fronts.{◌>>=◌}
use Rattle.mail_base.specs.Places.{split_once}
use Rattle.mail_base.specs.declared.flags.Flags.{Flags}
use Rattle.folder_core.specs.MhNumbers.{number_of}

-- the lines of a text, of which the first has these bytes so far; a last line without a line end
-- counts where it is not empty
abbrev pub last_text : List ℕ → List (List ℕ)
last_text [] = []
last_text (b ∷ line) = (b ∷ line) ∷ []

-- the lines of a text, of which the first begins with what was read so far
abbrev pub text_lines : List ℕ → List ℕ → List (List ℕ)
text_lines so_far [] = last_text so_far
text_lines so_far (b ∷ rest) =
    if b == 10 then so_far ∷ text_lines [] rest else text_lines (so_far ++ b ∷ []) rest

-- the words of a text, of which the first has these bytes so far; between two blanks stands an
-- empty one
abbrev pub words_of : List ℕ → List ℕ → List (List ℕ)
words_of so_far [] = so_far ∷ []
words_of so_far (b ∷ rest) =
    if is_blank b then so_far ∷ words_of [] rest else words_of (so_far ++ b ∷ []) rest

-- whether a number is from one to another; upside down they are no range
abbrev pub between_holds : ℕ → ℕ → ℕ → Option Bool
between_holds n first last =
    if nat_le first last then Some (nat_le first n && nat_le n last) else None

-- a number is in the range of a word, where the word is one
abbrev pub range_by : ℕ → List ℕ → Option (List ℕ × List ℕ) → Option Bool
range_by n word None = number_of word >>= λ number. Some (nat_le number n && nat_le n number)
range_by n word (Some ends) =
    number_of ends.0 >>= λ first. number_of ends.1 >>= λ last. between_holds n first last

-- whether the range that a word writes holds a number, where it writes one
abbrev pub range_holds : ℕ → List ℕ → Option Bool
range_holds n word = range_by n word (split_once (byte "-") word)

-- whether a range of the words holds a number, where each of them writes one that is not empty
abbrev pub ranges_hold : ℕ → List (List ℕ) → Option Bool
ranges_hold n [] = Some false
ranges_hold n ([] ∷ words) = ranges_hold n words
ranges_hold n ((b ∷ word) ∷ words) =
    range_holds n (b ∷ word) >>= λ held. ranges_hold n words >>= λ more. Some (held || more)

-- a name is not empty, and has no blank and no colon
abbrev pub is_sequence_name : List ℕ → Bool
is_sequence_name name = nat_lt 0 (length name) && not (list_any is_blank name)

-- a line of this name holds a number
abbrev pub named_holds : List ℕ → ℕ → List ℕ × List ℕ → Bool
named_holds name n parts =
    is_sequence_name parts.0 && bytes_eq parts.0 name
    && unwrap_or (ranges_hold n (words_of [] parts.1)) false

-- the same of a line that is cut at its colon, if it has one
abbrev pub split_holds : List ℕ → ℕ → Option (List ℕ × List ℕ) → Bool
split_holds name n None = false
split_holds name n (Some parts) = named_holds name n parts

-- the line is that of the sequence, and holds the number
abbrev pub line_has : List ℕ → ℕ → List ℕ → Bool
line_has name n line = split_holds name n (split_once (byte ":") line)

-- the number is in the sequence of that name, by the file of the sequences
abbrev pub in_sequence : List ℕ → ℕ → List ℕ → Bool
in_sequence name n bytes = list_any (line_has name n) (text_lines [] bytes)

-- the flags of a message by the file of the sequences: seen is what is not in `unseen`
abbrev pub mh_flags : List ℕ → ℕ → Flags
mh_flags bytes n = record {
  seen = not (in_sequence (codes "unseen") n bytes);
  aged = not (in_sequence (codes "unseen") n bytes);
  replied = in_sequence (codes "replied") n bytes;
  flagged = in_sequence (codes "flagged") n bytes;
  passed = false;
  draft = false;
  trashed = false;
}
