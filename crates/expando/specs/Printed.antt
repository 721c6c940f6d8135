-- Formats as they are written, and which pieces can be.
use Rattle.std.specs.Prelude.{◌==◌, ◌&&◌, ◌++◌, ℕ, Bool, true, false, not, nat_le, List, [], ◌∷◌}
use Rattle.std.specs.Prelude.{codes, encode_utf8, if◌then◌else◌}
use Rattle.std.specs.Char.{is_ascii_digit}
use Rattle.std.specs.Fmt.{decimal}
use Rattle.std.specs.List.{flat_map, list_all, list_any}
use Rattle.std.specs.Str.{byte}
use Rattle.expando.specs.Formats.{PlainChoice, PlainPiece, Simple, Either}
use Rattle.expando.specs.Letters.{is_date_text}
use Rattle.expando.specs.Numbers.{no_limit}
use Rattle.expando.specs.declared.field.Field.{Field}
use Rattle.expando.specs.declared.leaf.Leaf.{Leaf}
use Rattle.expando.specs.declared.leaf.Leaf.TheVariants.{Text, Value, Fill, ToEnd}
use Rattle.expando.specs.declared.letter.Letter.{Letter}
use lib.Utf8.{scalar}

-- Written.

-- a character of a text: a percent sign is written twice
abbrev pub printed_char : ℕ → List ℕ
printed_char c = if c == byte "%" then codes "%%" else encode_utf8 c

-- the bracket that closes the format of a date
abbrev pub closing : ℕ → List ℕ
closing sign =
    if sign == byte "{" then codes "}" else (if sign == byte "[" then codes "]" else [])

-- a letter with its brackets
abbrev pub printed_letter : Letter (List ℕ) → List ℕ
printed_letter l = l.sign ∷ (l.inner ++ closing l.sign)

-- the sign of a field that is filled on the right
abbrev pub printed_side : Bool → List ℕ
printed_side left = if left then codes "-" else []

-- a width, of which none is written for 0
abbrev pub printed_width : ℕ → List ℕ
printed_width width = if width == 0 then [] else decimal width

-- a limit behind its full stop, of which none is written for no limit
abbrev pub printed_limit : ℕ → List ℕ
printed_limit limit = if limit == no_limit then [] else byte "." ∷ decimal limit

-- a field behind its percent sign
abbrev pub printed_field : Field (List ℕ) → List ℕ
printed_field d =
    printed_side d.left
    ++ (printed_width d.width ++ (printed_limit d.limit ++ printed_letter d.letter))

-- a leaf as it is written
abbrev pub printed_leaf : Leaf (List ℕ) → List ℕ
printed_leaf (Text c) = printed_char c
printed_leaf (Value field) = byte "%" ∷ printed_field field
printed_leaf (Fill c) = byte "%" ∷ byte ">" ∷ encode_utf8 c
printed_leaf (ToEnd c) = byte "%" ∷ byte "|" ∷ encode_utf8 c

-- leaves as they are written
abbrev pub printed_leaves : List (Leaf (List ℕ)) → List ℕ
printed_leaves leaves = flat_map printed_leaf leaves

-- both branches of a condition, with `&` between them
abbrev pub printed_branches : PlainChoice → List ℕ
printed_branches c = printed_leaves c.some ++ byte "&" ∷ printed_leaves c.none

-- a condition as it is written
abbrev pub printed_choice : PlainChoice → List ℕ
printed_choice c =
    byte "%" ∷ byte "?"
    ∷ (printed_letter c.test ++ byte "?" ∷ (printed_branches c ++ byte "?" ∷ []))

-- a piece as it is written
abbrev pub printed_piece : PlainPiece → List ℕ
printed_piece (Simple leaf) = printed_leaf leaf
printed_piece (Either choice) = printed_choice choice

-- a format as it is written
abbrev pub printed : List PlainPiece → List ℕ
printed pieces = flat_map printed_piece pieces

-- Can be written.

-- a byte stands nowhere in a text
abbrev pub lacks : ℕ → List ℕ → Bool
lacks b text = list_all (λ x. not (x == b)) text

-- nothing stands in a text
abbrev pub is_empty : List ℕ → Bool
is_empty [] = true
is_empty (b ∷ rest) = false

-- a format of a date that its bracket closes; other letters have none
abbrev pub is_inner : ℕ → List ℕ → Bool
is_inner sign inner =
    if sign == byte "{" then is_date_text false inner && lacks (byte "}") inner
    else (if sign == byte "[" then is_date_text false inner && lacks (byte "]") inner
    else is_empty inner)

-- one of these letters
abbrev pub is_letter : List ℕ → Letter (List ℕ) → Bool
is_letter letters l = list_any (λ k. k == l.sign) letters && is_inner l.sign l.inner

-- a letter that is no sign of another piece
abbrev pub is_field_sign : ℕ → Bool
is_field_sign b =
    not (is_ascii_digit b) && not (b == byte "-") && not (b == byte ".") && not (b == byte "%")
    && not (b == byte ">") && not (b == byte "|") && not (b == byte "?")

-- a field can be written
abbrev pub is_field : List ℕ → Field (List ℕ) → Bool
is_field letters d =
    is_letter letters d.letter && is_field_sign d.letter.sign && nat_le d.width 500
    && nat_le d.limit no_limit

-- a leaf can be written
abbrev pub is_leaf : List ℕ → Leaf (List ℕ) → Bool
is_leaf letters (Text c) = scalar c
is_leaf letters (Value field) = is_field letters field
is_leaf letters (Fill c) = scalar c
is_leaf letters (ToEnd c) = scalar c

-- a condition whose branches have no mark that would end them
abbrev pub is_choice : List ℕ → PlainChoice → Bool
is_choice letters c =
    is_letter letters c.test && list_all (is_leaf letters) c.some
    && list_all (is_leaf letters) c.none
    && lacks (byte "&") (printed_leaves c.some) && lacks (byte "?") (printed_leaves c.some)
    && lacks (byte "?") (printed_leaves c.none)

-- a piece can be written
abbrev pub is_piece : List ℕ → PlainPiece → Bool
is_piece letters (Simple leaf) = is_leaf letters leaf
is_piece letters (Either choice) = is_choice letters choice
