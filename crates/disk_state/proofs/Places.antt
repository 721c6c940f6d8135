-- Bytes past the end.
use Rattle.std.proofs.Common.{◌≡◌, ℕ, zero, suc, List, [], ◌∷◌, None, slice_get, slice_index, refl}

pub nothing_there : (bytes : List ℕ) (place : ℕ) → None ≡ slice_get bytes place
    → slice_index bytes place ≡ 0
nothing_there [] place is = refl
nothing_there (b ∷ bytes) zero is = absurd (cc)
nothing_there (b ∷ bytes) (suc place) is = nothing_there bytes place is
