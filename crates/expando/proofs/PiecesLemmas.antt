-- Pieces from front to back.
use Rattle.std.proofs.Common.{◌≡◌, ℕ, zero, suc, ◌+◌, ◌-◌, ◌<◌, ◌≤◌, List, [], ◌∷◌, ◌++◌, drop}
use Rattle.std.proofs.Common.{length, refl, ap, arith, sym, ◌∙◌, Ok, Err, append_assoc, length-drop}
use Rattle.std.proofs.Common.{zero-add}
use Rattle.expando.specs.Pieces.{Scanned, behind_piece, joined, pieces, pieces_behind, with_front}
use Rattle.expando.specs.declared.piece.Piece.{Piece}

-- values read before values read before others
pub with_front_twice : {X : Type 0} (xs ys : List X) (r : Scanned (List X))
    → with_front xs (with_front ys r) ≡ with_front (xs ++ ys) r
with_front_twice xs ys (Ok zs) = ap Ok (sym (append_assoc xs ys zs))
with_front_twice xs ys (Err place) = refl

at_step : (place n more rest : ℕ) → more ≤ rest → n ≡ rest - more
    → place + 1 + n ≡ place + (rest + 1 - more)
at_step place n more rest within is = omega arith

-- the pieces behind so many bytes are those of what follows them
pub behind_dropped : {X : Type 0} (first : ℕ → List ℕ → Scanned (Piece X)) (n place : ℕ)
    (text : List ℕ)
    → pieces_behind first n place text
    ≡ pieces first (place + (length text - length (drop n text))) (drop n text)
behind_dropped first zero place [] = refl
behind_dropped first (suc n) place [] = refl
behind_dropped first zero place (b ∷ rest) =
    let same : place + (length (b ∷ rest) - length (b ∷ rest)) ≡ place = omega arith in
    ap (λ at. pieces first at (b ∷ rest)) (sym same)
behind_dropped first (suc n) place (b ∷ rest) =
    behind_dropped first n (place + 1) rest
    ∙ ap (λ at. pieces first at (drop n rest)) at
  where
    at : place + 1 + (length rest - length (drop n rest))
        ≡ place + (length (b ∷ rest) - length (drop n rest))
    at = omega (arith, length-drop n rest)

-- the first piece is read, and then those of what follows it
pub pieces_step : {X : Type 0} (first : ℕ → List ℕ → Scanned (Piece X)) (place : ℕ) (text : List ℕ)
    (piece : Piece X) → 0 < length text → first place text ≡ Ok piece
    → pieces first place text
    ≡ with_front (piece.value ∷ []) (pieces first
    (place + (length text - length (drop piece.more (drop 1 text))))
    (drop piece.more (drop 1 text)))
pieces_step first place [] piece some is = absurd (omega arith)
pieces_step first place (b ∷ rest) piece some is =
    ap (λ r. joined r (pieces_behind first (behind_piece r) (place + 1) rest)) is
    ∙ ap (with_front (piece.value ∷ [])) (behind_dropped first (suc piece.more) place (b ∷ rest))

-- the first piece has a fault
pub pieces_fault : {X : Type 0} (first : ℕ → List ℕ → Scanned (Piece X)) (place at : ℕ)
    (text : List ℕ)
    → 0 < length text → first place text ≡ Err at → pieces first place text ≡ Err at
pieces_fault first place at [] some is = absurd (omega arith)
pieces_fault first place at (b ∷ rest) some is =
    ap (λ r. joined r (pieces_behind first (behind_piece r) (place + 1) rest)) is

-- no bytes have no pieces
pub pieces_none : {X : Type 0} (first : ℕ → List ℕ → Scanned (Piece X)) (place : ℕ) (text : List ℕ)
    → length text ≡ 0 → pieces first place text ≡ Ok []
pieces_none first place [] none = refl
pieces_none first place (b ∷ rest) none = absurd (omega arith)

at_rest : (place whole left rest : ℕ) → left ≤ whole → rest ≤ left
    → place + (whole - left) + (left - rest) ≡ place + (whole - rest)
at_rest place whole left rest within less = omega arith

short : (n : ℕ) (text : List ℕ) → length (drop n text) ≤ length text
short n text = omega (arith, length-drop n text)

short_rest : (n : ℕ) (text : List ℕ) → length (drop n (drop 1 text)) ≤ length text
short_rest n text = omega (arith, short n (drop 1 text), short 1 text)

-- a turn of a loop that reads the pieces of a text: those that are read, and those of what is left
pub read_turn : {X : Type 0} (first : ℕ → List ℕ → Scanned (Piece X)) (place : ℕ)
    (text left rest : List ℕ)
    (done next : List X) (piece : Piece X) (whole : Scanned (List X))
    → with_front done (pieces first (place + (length text - length left)) left) ≡ whole
    → first (place + (length text - length left)) left ≡ Ok piece
    → 0 < length left → length left ≤ length text
    → rest ≡ drop piece.more (drop 1 left)
    → next ≡ done ++ piece.value ∷ []
    → with_front next (pieces first (place + (length text - length rest)) rest) ≡ whole
read_turn first place text left rest done next piece whole before is some within follows grows =
    let after = drop piece.more (drop 1 left) in
    let at = place + (length text - length left) in
    ap (λ r. with_front next (pieces first (place + (length text - length r)) r)) follows
    ∙ ap (λ xs. with_front xs (pieces first (place + (length text - length after)) after)) grows
    ∙ ap (λ n. with_front (done ++ piece.value ∷ []) (pieces first n after))
    (sym (at_rest place (length text) (length left) (length after) within
    (short_rest piece.more left)))
    ∙ sym (with_front_twice done (piece.value ∷ [])
    (pieces first (at + (length left - length after)) after))
    ∙ ap (with_front done) (sym (pieces_step first at left piece some is))
    ∙ before

-- the same for a text that stands at the start
pub read_turn_from_start : {X : Type 0} (first : ℕ → List ℕ → Scanned (Piece X))
    (text left rest : List ℕ)
    (done next : List X) (piece : Piece X) (whole : Scanned (List X))
    → with_front done (pieces first (length text - length left) left) ≡ whole
    → first (length text - length left) left ≡ Ok piece
    → 0 < length left → length left ≤ length text
    → rest ≡ drop piece.more (drop 1 left)
    → next ≡ done ++ piece.value ∷ []
    → with_front next (pieces first (length text - length rest) rest) ≡ whole
read_turn_from_start first text left rest done next piece whole before is some within follows
    grows =
    ap (λ n. with_front next (pieces first n rest)) (sym (zero-add (length text - length rest)))
    ∙ read_turn first 0 text left rest done next piece whole
    (ap (λ n. with_front done (pieces first n left)) (zero-add (length text - length left))
    ∙ before)
    (ap (λ n. first n left) (zero-add (length text - length left)) ∙ is) some within follows grows
