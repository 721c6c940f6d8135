-- A text read piece by piece from front to back, up to the first place where none is.
use Rattle.std.specs.Prelude.{◌≡◌, ◌+◌, ◌-◌, ℕ, zero, suc, List, [], ◌∷◌, ◌++◌, length}
use Rattle.std.specs.Prelude.{Option, Some, None, Result, Ok, Err}
use Rattle.bstr.specs.Utf8.{decoded}
use Rattle.expando.specs.declared.error.FormatError.{FormatError}
use Rattle.expando.specs.declared.error.FormatError.TheVariants.{BadFormat, NoMemory}
use Rattle.expando.specs.declared.piece.Piece.{Piece}

-- the same with another value
abbrev pub piece_map : {X Y : Type 0} → (X → Y) → Piece X → Piece Y
piece_map f piece = record { value = f piece.value; more = piece.more }

-- how many bytes behind its first a piece takes where so much of the text is left behind it
abbrev pub more_bytes : List ℕ → List ℕ → ℕ
more_bytes text rest = length text - length rest - 1

-- the piece that takes a text up to its rest
abbrev pub piece_until : {X : Type 0} → List ℕ → X × List ℕ → Piece X
piece_until text (value, rest) = record { value = value; more = more_bytes text rest }

-- what is read, or the place of the fault
abbrev pub Scanned : Type 0 → Type 0
Scanned X = Result X ℕ

-- the next step, where the one before gave a value
infixl 10 ◌>>?◌
-- the second reading behind the first; a fault of the first ends both
abbrev pub ◌>>?◌ : {A B : Type 0} → Scanned A → (A → Scanned B) → Scanned B
Ok a >>? f = f a
Err place >>? f = Err place

-- values read before others
abbrev pub with_front : {X : Type 0} → List X → Scanned (List X) → Scanned (List X)
with_front xs (Ok ys) = Ok (xs ++ ys)
with_front xs (Err place) = Err place

-- how many bytes a piece takes beyond its first
abbrev pub behind_piece : {X : Type 0} → Scanned (Piece X) → ℕ
behind_piece (Ok piece) = piece.more
behind_piece (Err place) = 0

-- a piece before those that follow it
abbrev pub joined : {X : Type 0} → Scanned (Piece X) → Scanned (List X) → Scanned (List X)
joined (Ok piece) more = with_front (piece.value ∷ []) more
joined (Err place) more = Err place

-- the pieces of a text that stands at a place, behind so many bytes of it
abbrev pub pieces_behind : {X : Type 0} → (ℕ → List ℕ → Scanned (Piece X)) → ℕ → ℕ → List ℕ
    → Scanned (List X)
pieces_behind first n place [] = Ok []
pieces_behind first zero place (b ∷ rest) =
    joined (first place (b ∷ rest))
    (pieces_behind first (behind_piece (first place (b ∷ rest))) (place + 1) rest)
pieces_behind first (suc n) place (b ∷ rest) = pieces_behind first n (place + 1) rest

-- the pieces of a text that stands at a place
abbrev pub pieces : {X : Type 0} → (ℕ → List ℕ → Scanned (Piece X)) → ℕ → List ℕ
    → Scanned (List X)
pieces first place text = pieces_behind first 0 place text

-- a character, or `?` for a byte that is none
abbrev pub char_or_mark : Option ℕ → ℕ → Piece ℕ
char_or_mark (Some c) size = record { value = c; more = size - 1 }
char_or_mark None size = record { value = 63; more = 0 }

-- the character at the front
abbrev pub char_at : List ℕ → Piece ℕ
char_at text = char_or_mark (decoded text).char (decoded text).size

-- what is read, or the place of the fault; or memory ran out
abbrev pub Gives : {X Y : Type 0} → (X → Y) → Result X FormatError → Scanned Y → Type 0
Gives view (Ok value) expected = expected ≡ Ok (view value)
Gives view (Err (BadFormat place)) expected = expected ≡ Err place
Gives view (Err NoMemory) expected = Unit {0}
