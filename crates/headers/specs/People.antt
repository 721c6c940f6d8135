-- The persons of address fields (RFC 5322, section 3.4).
use Rattle.std.specs.Prelude.{ℕ, not, List, ◌++◌, filter, Option, Some, None, option_to_list}
use Rattle.std.specs.Prelude.{if◌then◌else◌}
use Rattle.std.specs.List.{list_all, list_any, flat_map, slice_split, before_first, after_first}
use Rattle.std.specs.List.{before_last, after_last}
use Rattle.mail_base.specs.Blanks.{is_blank, trimmed}
use Rattle.headers.specs.declared.address_byte.AddressByte.{AddressByte}
use Rattle.headers.specs.declared.address_byte.Role.TheVariants.{Quote, CommentStart, CommentEnd}
use Rattle.headers.specs.declared.address_byte.Role.TheVariants.{AngleStart, AngleEnd, GroupEnd}
use Rattle.headers.specs.declared.address_byte.Role.TheVariants.{Separator}
use Rattle.headers.specs.declared.people.Brackets.{Brackets}
use Rattle.headers.specs.AddressByte.{bytes_of, has, is_comment}
use Rattle.headers.specs.AddressState.{address_bytes}
use Rattle.headers.specs.Decode.{decoded_words}
use Rattle.headers.specs.Person.{PlainPerson}

-- a name as it is shown: it is cut from the list first, and then its encoded words are decoded
abbrev pub shown_name : List AddressByte → List ℕ
shown_name bytes = decoded_words (trimmed (bytes_of bytes))

-- the last brackets, with what stands before, in and behind them; brackets that are not closed
-- reach to the end
pub record PlainBrackets : Type 0 where
  pub before : List AddressByte
  pub inside : List AddressByte
  pub behind : List AddressByte

-- a piece cut at its last open and its first closing angle bracket
abbrev pub brackets_of : List AddressByte → Option PlainBrackets
brackets_of bytes =
    let tail = after_last (has AngleStart) bytes in
    if list_any (has AngleStart) bytes then Some (record {
      before = before_last (has AngleStart) bytes;
      inside = before_first (has AngleEnd) tail;
      behind = after_first (has AngleEnd) tail;
    })
    else None

-- the address is in the brackets, and the name is the rest without quotes
abbrev pub bracketed : PlainBrackets → PlainPerson
bracketed b = record {
  name = shown_name (filter (λ b. not (has Quote b)) (b.before ++ b.behind));
  address = trimmed (bytes_of b.inside);
}

-- the text of the first comment, or nothing
abbrev pub first_comment : List AddressByte → List AddressByte
first_comment bytes =
    before_first (has CommentEnd) (after_first (has CommentStart) bytes)

-- the address is the text without comments, and the name is the first comment
abbrev pub unbracketed : List AddressByte → PlainPerson
unbracketed bytes = record {
  name = shown_name (first_comment bytes);
  address = trimmed (bytes_of (filter (λ b. not (is_comment b)) bytes));
}

-- the person of a piece, by whether it has brackets
abbrev pub person_of : List AddressByte → Option PlainBrackets → PlainPerson
person_of bytes None = unbracketed bytes
person_of bytes (Some b) = bracketed b

-- the person of a piece between separators, behind the name of a group; blanks alone are nobody
abbrev pub person_in : List AddressByte → Option PlainPerson
person_in piece =
    let bytes = after_last (has GroupEnd) piece in
    if list_all (λ b. is_blank b.byte) bytes then None
    else Some (person_of bytes (brackets_of bytes))

-- the persons of an address list
abbrev pub people : List ℕ → List PlainPerson
people value =
    flat_map (λ piece. option_to_list (person_in piece))
    (slice_split (has Separator) (address_bytes value))

-- a piece that is cut at its brackets as contracts see it
abbrev pub plain_brackets : Brackets → PlainBrackets
plain_brackets b = record { before = b.before.now; inside = b.inside.now; behind = b.behind.now }
