-- A line of the screen from a format and the texts of its letters.
use Rattle.std.specs.Prelude.{◌==◌, ℕ, Bool, true, false, List, [], ◌∷◌, map, if◌then◌else◌}
use Rattle.std.specs.List.{flat_map}
use Rattle.std.specs.Str.{byte, encode_utf8_all}
use Rattle.expando.specs.Columns.{kept, padded, shown_char, shown_text}
use Rattle.expando.specs.Formats.{PlainChoice, PlainPiece, Simple, Either}
use Rattle.expando.specs.Lines.{line_chars}
use Rattle.expando.specs.declared.cell.Cell.{Cell}
use Rattle.expando.specs.declared.cell.Cell.TheVariants.{Shown, Gap, Rest}
use Rattle.expando.specs.declared.field.Field.{Field}
use Rattle.expando.specs.declared.leaf.Leaf.{Leaf}
use Rattle.expando.specs.declared.leaf.Leaf.TheVariants.{Text, Value, Fill, ToEnd}
use Rattle.expando.specs.declared.letter.Letter.{Letter}

-- the text of each letter and format of a date
abbrev pub Texts : Type 0
Texts = ℕ → List ℕ → List ℕ

-- the text of a letter
abbrev pub text_of : Texts → Letter (List ℕ) → List ℕ
text_of texts letter = texts letter.sign letter.inner

-- the characters of a field
abbrev pub field_chars : Texts → Field (List ℕ) → List ℕ
field_chars texts field =
    padded field.left field.width (kept field.limit (shown_text (text_of texts field.letter)))

-- the cells of a leaf
abbrev pub drawn_leaf : Texts → Leaf (List ℕ) → List Cell
drawn_leaf texts (Text c) = Shown (shown_char c) ∷ []
drawn_leaf texts (Value field) = map Shown (field_chars texts field)
drawn_leaf texts (Fill c) = Gap (shown_char c) ∷ []
drawn_leaf texts (ToEnd c) = Rest (shown_char c) ∷ []

-- the cells of leaves, one after the other
abbrev pub drawn_leaves : Texts → List (Leaf (List ℕ)) → List Cell
drawn_leaves texts leaves = flat_map (drawn_leaf texts) leaves

-- a text that is nothing to a condition
abbrev pub is_nothing : List ℕ → Bool
is_nothing [] = true
is_nothing (b ∷ []) = b == byte "0"
is_nothing (b ∷ c ∷ rest) = false

-- the branch of a condition that is shown
abbrev pub branch_of : Texts → PlainChoice → List (Leaf (List ℕ))
branch_of texts choice =
    if is_nothing (text_of texts choice.test) then choice.none else choice.some

-- the cells of a piece
abbrev pub drawn_piece : Texts → PlainPiece → List Cell
drawn_piece texts (Simple leaf) = drawn_leaf texts leaf
drawn_piece texts (Either choice) = drawn_leaves texts (branch_of texts choice)

-- the cells of a line before it is filled and cut
abbrev pub drawn : Texts → List PlainPiece → List Cell
drawn texts pieces = flat_map (drawn_piece texts) pieces

-- the characters of a line of so many columns
abbrev pub shown_line : ℕ → Texts → List PlainPiece → List ℕ
shown_line cols texts pieces = line_chars cols (drawn texts pieces)

-- the bytes of that line
abbrev pub line : ℕ → Texts → List PlainPiece → List ℕ
line cols texts pieces = encode_utf8_all (shown_line cols texts pieces)
