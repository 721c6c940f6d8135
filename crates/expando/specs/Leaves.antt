-- The pieces of a format that stand outside conditions and in their branches.
use Rattle.std.specs.Prelude.{◌==◌, ℕ, List, [], ◌∷◌, Option, Some, None, drop, map}
use Rattle.std.specs.Prelude.{ok_or, option_map, if◌then◌else◌}
use Rattle.std.specs.Str.{byte}
use Rattle.mail_base.specs.Series.{Held}
use Rattle.expando.specs.Fields.{field_at, field_map}
use Rattle.expando.specs.Pieces.{Scanned, char_at, piece_until, pieces}
use Rattle.expando.specs.declared.piece.Piece.{Piece}
use Rattle.expando.specs.declared.leaf.Leaf.{Leaf}
use Rattle.expando.specs.declared.leaf.Leaf.TheVariants.{Text, Value, Fill, ToEnd}

-- the same with its format of a date held in another way
abbrev pub leaf_map : {I J : Type 0} → (I → J) → Leaf I → Leaf J
leaf_map f (Text c) = Text c
leaf_map f (Value field) = Value (field_map f field)
leaf_map f (Fill c) = Fill c
leaf_map f (ToEnd c) = ToEnd c

-- leaves without the rooms of their lists
abbrev pub plain_leaves : Held (Leaf (Held ℕ)) → List (Leaf (List ℕ))
plain_leaves leaves = map (leaf_map (λ inner. inner.items)) leaves.items

-- the character that fills, and what follows
abbrev pub filler_at : List ℕ → Option (ℕ × List ℕ)
filler_at [] = None
filler_at (b ∷ rest) = Some ((char_at (b ∷ rest)).value, drop (char_at (b ∷ rest)).more rest)

-- what a percent sign and the byte behind it begin
abbrev pub sign_at : List ℕ → ℕ → List ℕ → Option (Leaf (List ℕ) × List ℕ)
sign_at letters b rest =
    if b == byte "%" then Some (Text b, rest)
    else (if b == byte ">" then option_map (λ p. (Fill p.0, p.1)) (filler_at rest)
    else (if b == byte "|" then option_map (λ p. (ToEnd p.0, p.1)) (filler_at rest)
    else option_map (λ p. (Value p.0, p.1)) (field_at letters (b ∷ rest))))

-- what stands behind a percent sign
abbrev pub behind_percent : List ℕ → List ℕ → Option (Leaf (List ℕ) × List ℕ)
behind_percent letters [] = None
behind_percent letters (b ∷ rest) = sign_at letters b rest

-- a character of a text
abbrev pub text_piece : Piece ℕ → Piece (Leaf (List ℕ))
text_piece piece = record { value = Text piece.value; more = piece.more }

-- the first leaf of a text, or nothing where its percent sign begins none
abbrev pub leaf_at : List ℕ → List ℕ → Option (Piece (Leaf (List ℕ)))
leaf_at letters [] = None
leaf_at letters (b ∷ rest) =
    if b == byte "%" then option_map (piece_until (b ∷ rest)) (behind_percent letters rest)
    else Some (text_piece (char_at (b ∷ rest)))

-- the same, or the place of that percent sign
abbrev pub first_leaf : List ℕ → ℕ → List ℕ → Scanned (Piece (Leaf (List ℕ)))
first_leaf letters place text = ok_or (leaf_at letters text) place

-- the leaves of a text that stands at a place
abbrev pub leaves : List ℕ → ℕ → List ℕ → Scanned (List (Leaf (List ℕ)))
leaves letters place text = pieces (first_leaf letters) place text
