-- A text cut into pieces from front to back, and characters as keys.
use Rattle.std.specs.Prelude.{◌==◌, ◌-◌, ℕ, zero, suc, List, [], ◌∷◌, if◌then◌else◌}
use Rattle.bstr.specs.Utf8.{decoded, or_replacement}
use Rattle.keymap.specs.declared.key.Key.{Key}
use Rattle.keymap.specs.declared.key.Key.TheVariants.{Char}
use Rattle.keymap.specs.declared.piece.KeyPiece.{KeyPiece}

-- the first piece of a text: what it stands for, and how many bytes it takes behind its first
pub record Piece (X : Type 0) : Type 0 where
  pub value : X
  pub more : ℕ

-- the pieces of a text behind so many bytes
abbrev pub pieces_behind : {X : Type 0} → (List ℕ → Piece X) → ℕ → List ℕ → List X
pieces_behind first n [] = []
pieces_behind first zero (b ∷ rest) =
    (first (b ∷ rest)).value ∷ pieces_behind first (first (b ∷ rest)).more rest
pieces_behind first (suc n) (b ∷ rest) = pieces_behind first n rest

-- the pieces of a text
abbrev pub pieces : {X : Type 0} → (List ℕ → Piece X) → List ℕ → List X
pieces first text = pieces_behind first 0 text

-- a line feed is the key Enter, which is CR; each other character is a key of its own
abbrev pub char_key : ℕ → Key
char_key c = if c == 10 then Char 13 else Char c

-- the first character of a text, or U+FFFD for a maximal part that is malformed
abbrev pub one_char : List ℕ → Piece Key
one_char text = record {
  value = char_key (or_replacement (decoded text).char);
  more = (decoded text).size - 1;
}

-- a key that was read, as contracts see it
abbrev pub plain_piece : KeyPiece → Piece Key
plain_piece p = record { value = p.key; more = p.more }
