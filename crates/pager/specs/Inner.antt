-- For the code alone: texts in one buffer, and a line as it is broken character by character.
use Rattle.std.specs.Prelude.{◌+◌, ◌-◌, ◌%◌, ◌==◌, ◌&&◌, ℕ, zero, suc, Bool, nat_le, List, [], ◌∷◌}
use Rattle.std.specs.Prelude.{◌++◌, ◌^◌, length, min, sum_by}
use Rattle.std.specs.Prelude.{slice_range, encode_utf8, if◌then◌else◌}
use Rattle.std.specs.Int.{is_in_range}
use Rattle.std.specs.List.{range_with_len}
use Rattle.expando.specs.Columns.{columns_of}
use Rattle.pager.specs.Broken.{broken}
use Rattle.pager.specs.Quoted.{is_quoted}
use Rattle.pager.specs.Written.{shown}

-- texts, and one that is not ended
pub record PlainTexts : Type 0 where
  pub done : List (List ℕ)
  pub current : List ℕ

-- the texts that end at these places, from a place on
abbrev pub cut_at : ℕ → List ℕ → List ℕ → List (List ℕ)
cut_at start [] bytes = []
cut_at start (end ∷ ends) bytes = slice_range bytes start end ∷ cut_at end ends bytes

-- where the last of them ends
abbrev pub last_end : ℕ → List ℕ → ℕ
last_end start [] = start
last_end start (end ∷ ends) = last_end end ends

-- no place is before the one in front of it or behind the end
abbrev pub ascends : ℕ → List ℕ → ℕ → Bool
ascends start [] size = nat_le start size
ascends start (end ∷ ends) size = nat_le start end && ascends end ends size

-- lines that are broken, and the one that is being broken: its last piece, the columns that are
-- left in it, and how far it ends behind a multiple of eight
pub record PlainBreaker : Type 0 where
  pub done : List (List ℕ)
  pub current : List ℕ
  pub cols : ℕ
  pub left : ℕ
  pub past : ℕ

-- a line of which nothing is written yet
abbrev pub fresh : ℕ → List (List ℕ) → PlainBreaker
fresh cols done = record { done = done; current = []; cols = cols; left = cols; past = 0 }

-- one more character, at the columns where it fits
abbrev pub put : PlainBreaker → ℕ → PlainBreaker
put line c =
    if nat_le (columns_of c) line.left
    then record line {
      current = line.current ++ encode_utf8 c;
      left = line.left - columns_of c;
      past = (line.past + columns_of c) % 8;
    }
    else record line {
      done = line.done ++ line.current ∷ [];
      current = encode_utf8 c;
      left = line.cols - columns_of c;
      past = (line.past + columns_of c) % 8;
    }

-- more characters
abbrev pub put_all : PlainBreaker → List ℕ → PlainBreaker
put_all line [] = line
put_all line (c ∷ cs) = put_all (put line c) cs

-- one more character of the text, as it is written out
abbrev pub put_shown : PlainBreaker → ℕ → PlainBreaker
put_shown line c = put_all line (shown line.cols line.past c)

-- characters of the text, one behind the other
abbrev pub put_text : PlainBreaker → List ℕ → PlainBreaker
put_text line [] = line
put_text line (c ∷ cs) = put_text (put_shown line c) cs

-- a line of which no piece is begun, where no column was left
abbrev pub with_room : PlainBreaker → PlainBreaker
with_room line =
    if line.left == 0
    then record line {
      done = line.done ++ line.current ∷ [];
      current = [];
      left = line.cols;
    }
    else line

-- where the pieces of a line stand among all, from a place on, unless it is quoted
abbrev pub unquoted_at : ℕ → ℕ → List ℕ → List ℕ
unquoted_at cols place line =
    if is_quoted line then [] else range_with_len place (length (broken cols line))

-- where the pieces of unquoted lines stand among all, from a place on
abbrev pub unquoted_places : ℕ → ℕ → List (List ℕ) → List ℕ
unquoted_places cols place [] = []
unquoted_places cols place (line ∷ lines) =
    unquoted_at cols place line
    ++ unquoted_places cols (place + length (broken cols line)) lines

-- how many bytes texts have in all, as far as a number of 64 bits goes
abbrev pub size_in : List (List ℕ) → ℕ
size_in texts = min (sum_by length texts) (2 ^ 64 - 1)

-- where one of these texts begins
abbrev pub start_at : ℕ → List ℕ → ℕ → ℕ
start_at start [] place = start
start_at start (end ∷ ends) zero = start
start_at start (end ∷ ends) (suc place) = start_at end ends place

-- a printable character of US-ASCII
abbrev pub is_printable : ℕ → Bool
is_printable c = is_in_range 32 126 c
