-- Pieces from front to back.
use Rattle.std.proofs.Common.{◌≡◌, ℕ, zero, suc, ◌<◌, List, [], ◌∷◌, drop, length, refl, ap, arith}
use Rattle.keymap.specs.Pieces.{Piece, pieces, pieces_behind}

-- the pieces behind so many bytes are those of what follows them
pub behind_dropped : {X : Type 0} (first : List ℕ → Piece X) (n : ℕ) (text : List ℕ)
    → pieces_behind first n text ≡ pieces first (drop n text)
behind_dropped first zero [] = refl
behind_dropped first (suc n) [] = refl
behind_dropped first zero (b ∷ rest) = refl
behind_dropped first (suc n) (b ∷ rest) = behind_dropped first n rest

-- the first piece, and the pieces of what follows it
pub pieces_step : {X : Type 0} (first : List ℕ → Piece X) (text : List ℕ) → 0 < length text
    → pieces first text
    ≡ (first text).value ∷ pieces first (drop (first text).more (drop 1 text))
pieces_step first [] some = absurd (omega arith)
pieces_step first (b ∷ rest) some =
    ap (λ more. (first (b ∷ rest)).value ∷ more)
    (behind_dropped first (first (b ∷ rest)).more rest)

-- no bytes have no pieces
pub pieces_none : {X : Type 0} (first : List ℕ → Piece X) (text : List ℕ) → length text ≡ 0
    → pieces first text ≡ []
pieces_none first [] none = refl
pieces_none first (b ∷ rest) none = absurd (omega arith)
