-- Formats (Mutt's manual, "index_format" and "status_format").
use Rattle.std.specs.Prelude.{◌+◌, ◌-◌, ℕ, Bool, List, [], length, map, Option, Some, None, Ok}
use Rattle.std.specs.Prelude.{codes, is_some, ok_or, if◌then◌else◌}
use Rattle.std.specs.Str.{byte}
use Rattle.mail_base.specs.Fronts.{◌>>=◌, behind, behind_text}
use Rattle.mail_base.specs.Places.{split_once}
use Rattle.mail_base.specs.Series.{Held}
use Rattle.expando.specs.Leaves.{first_leaf, leaf_map, leaves, plain_leaves}
use Rattle.expando.specs.Letters.{letter_at, letter_map}
use Rattle.expando.specs.Pieces.{◌>>?◌, Scanned, more_bytes, piece_map, pieces}
use Rattle.expando.specs.declared.piece.Piece.{Piece}
use Rattle.expando.specs.declared.choice.Choice.{Choice}
use Rattle.expando.specs.declared.condition.Condition.{Condition}
use Rattle.expando.specs.declared.leaf.Leaf.{Leaf}
use Rattle.expando.specs.declared.letter.Letter.{Letter}
use Rattle.expando.specs.declared.format.FormatPiece.{FormatPiece}
use Rattle.expando.specs.declared.format.FormatPiece.TheVariants as held

-- a condition: what is shown where the letter's text is something, and where it is nothing
pub record PlainChoice : Type 0 where
  pub test : Letter (List ℕ)
  pub some : List (Leaf (List ℕ))
  pub none : List (Leaf (List ℕ))

-- a piece of a format
pub data PlainPiece : Type 0 where
  Simple : Leaf (List ℕ) → PlainPiece
  Either : PlainChoice → PlainPiece

-- a condition without the rooms of its lists
abbrev pub plain_choice : Choice → PlainChoice
plain_choice c = record {
  test = letter_map (λ inner. inner.items) c.test;
  some = plain_leaves c.some;
  none = plain_leaves c.none;
}

-- a piece without the rooms of its lists
abbrev pub plain_piece : FormatPiece → PlainPiece
plain_piece (held.Simple leaf) = Simple (leaf_map (λ inner. inner.items) leaf)
plain_piece (held.Either choice) = Either (plain_choice choice)

-- the pieces of a format without their rooms
abbrev pub plain_pieces : Held FormatPiece → List PlainPiece
plain_pieces pieces = map plain_piece pieces.items

-- a condition in a text: its letter, what stands between its last two question marks, how many
-- bytes stand before that, and what stands behind the condition
pub record PlainCondition : Type 0 where
  pub test : Letter (List ℕ)
  pub inner : List ℕ
  pub front : ℕ
  pub rest : List ℕ

-- a condition as its text is cut
abbrev pub plain_condition : Condition → PlainCondition
plain_condition c = record {
  test = letter_map (λ inner. inner.now) c.test;
  inner = c.inner.now;
  front = c.front;
  rest = c.rest.now;
}

-- what stands before and behind the next question mark
abbrev pub marked : List ℕ → Option (List ℕ × List ℕ)
marked text = split_once (byte "?") text

-- the condition at the front of a text; its last question mark is the first behind the one that
-- follows its letter
abbrev pub condition_at : List ℕ → List ℕ → Option PlainCondition
condition_at letters text = do
  asked ← behind_text (codes "%?") text
  found ← letter_at letters asked
  inner ← behind (byte "?") found.1
  parts ← marked inner
  Some (record {
    test = found.0;
    inner = parts.0;
    front = length text - length inner;
    rest = parts.1;
  })

-- both branches of a condition; one that has no `&` has an empty second one
abbrev pub or_whole : List ℕ → Option (List ℕ × List ℕ) → List ℕ × List ℕ
or_whole inner (Some parts) = parts
or_whole inner None = (inner, [])

-- the two branches of a condition; the second stands behind the first `&`
abbrev pub branches : List ℕ → List ℕ × List ℕ
branches inner = or_whole inner (split_once (byte "&") inner)

-- the leaves of both branches, where the first stands at this place
abbrev pub choice_of : List ℕ → ℕ → Letter (List ℕ) → List ℕ × List ℕ → Scanned PlainChoice
choice_of letters place test (some, none) =
    leaves letters place some
    >>? (λ shown. leaves letters (place + length some + 1) none
    >>? (λ other. Ok (record { test = test; some = shown; none = other })))

-- the condition at the front of a text that stands at a place, or the place of its first fault
abbrev pub first_choice : List ℕ → ℕ → List ℕ → Scanned (Piece PlainChoice)
first_choice letters place text =
    ok_or (condition_at letters text) place
    >>? (λ c. choice_of letters (place + c.front) c.test (branches c.inner)
    >>? (λ choice. Ok (record { value = choice; more = more_bytes text c.rest })))

-- a text begins a condition
abbrev pub begins_condition : List ℕ → Bool
begins_condition text = is_some (behind_text (codes "%?") text)

-- the first piece of a text that stands at a place, or the place of its first fault
abbrev pub first_piece : List ℕ → ℕ → List ℕ → Scanned (Piece PlainPiece)
first_piece letters place text =
    if begins_condition text
    then (first_choice letters place text >>? (λ piece. Ok (piece_map Either piece)))
    else (first_leaf letters place text >>? (λ piece. Ok (piece_map Simple piece)))

-- the pieces of a format with these letters, or the place of its first fault
abbrev pub format_of : List ℕ → List ℕ → Scanned (List PlainPiece)
format_of letters text = pieces (first_piece letters) 0 text
