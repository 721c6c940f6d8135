-- What a tail file and a lock hold.
use Rattle.std.specs.Prelude.{ℕ, ◌+◌, ◌*◌, ◌-◌, ◌^◌, ◌==◌, Bool, not, ◌&&◌, ◌||◌, List, [], ◌∷◌}
use Rattle.std.specs.Prelude.{◌++◌, length, take, drop, Option, Some, None, nat_lt, codes}
use Rattle.std.specs.Prelude.{if◌then◌else◌}
use Rattle.std.specs.Char.{is_ascii_digit}
use Rattle.std.specs.Fmt.{decimal}
use Rattle.std.specs.Str.{bytes_eq}

-- a number with one digit more
abbrev pub with_digit : ℕ → ℕ → ℕ
with_digit number digit = number * 10 + (digit - 48)

-- the byte is a digit with which the number stays one of 64 bits
abbrev pub is_next_digit : ℕ → ℕ → Bool
is_next_digit number byte = is_ascii_digit byte && nat_lt (with_digit number byte) (2 ^ 64)

-- the number that digits up to the end of the line write behind those of a number, and what stands
-- behind that line
abbrev pub number_line : ℕ → List ℕ → Option (ℕ × List ℕ)
number_line number [] = None
number_line number (byte ∷ bytes) =
    if byte == 10 then Some (number, bytes)
    else if is_next_digit number byte then number_line (with_digit number byte) bytes else None

-- a tail file begins with the kind of its mailbox
abbrev pub is_head : List ℕ → Bool
is_head head = bytes_eq head (codes "mbox ") || bytes_eq head (codes "mmdf ")

-- the offset and the bytes from there on that a tail file holds
abbrev pub read_tail : List ℕ → Option (ℕ × List ℕ)
read_tail bytes = if is_head (take 5 bytes) then number_line 0 (drop 5 bytes) else None

-- what is written into a tail file
abbrev pub tail_text : List ℕ → ℕ → List ℕ → List ℕ
tail_text head at tail = head ++ decimal at ++ 10 ∷ tail

-- what is written into a lock
abbrev pub line_of : List ℕ → List ℕ
line_of owner = owner ++ 10 ∷ []

-- a lock of these bytes is that of this owner: nobody is one without a name
abbrev pub is_owners : List ℕ → List ℕ → Bool
is_owners owner line = not (length owner == 0) && bytes_eq line (line_of owner)
