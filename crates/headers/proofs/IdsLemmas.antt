-- How ids are found in a text.
use Rattle.std.proofs.Common.{◌≡◌, ℕ, zero, suc, ◌<◌, ◌≤◌, List, [], ◌∷◌, length, Some, None, refl}
use Rattle.std.proofs.Common.{arith}
use Rattle.headers.specs.Ids.{PlainFoundId, first_id, id_of, ids_from}

-- what is left to find behind an id
pub ids_from-found : (n : ℕ) (s : List ℕ) (f : PlainFoundId) → length s ≤ n
    → length f.rest < length s → first_id s ≡ Some f
    → (m : ℕ) × (length f.rest ≤ m) × (ids_from n s ≡ id_of f.inside ∷ ids_from m f.rest)
ids_from-found zero s f long shorter found = absurd (omega arith)
ids_from-found (suc m) s f long shorter found = (m, omega arith, rw found refl)

-- a text without ids
pub ids_from-absent : (n : ℕ) (s : List ℕ) → first_id s ≡ None → ids_from n s ≡ []
ids_from-absent zero s absent = refl
ids_from-absent (suc m) s absent = rw absent refl
