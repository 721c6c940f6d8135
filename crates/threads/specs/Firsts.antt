-- The first of places that pass a test, in an order of their own.
use Rattle.std.specs.Prelude.{ℕ, zero, suc, Bool, Option, Some, None, List, if◌then◌else◌}
use Rattle.std.specs.Borrow.{Bor}
use Rattle.std.specs.Map.{lookup}
use Rattle.std.specs.Str.{bytes_eq}

-- the earlier of the first so far, if there is one, and a further place
abbrev pub earlier : (ℕ → ℕ → Bool) → Option ℕ → ℕ → Option ℕ
earlier is_before None place = Some place
earlier is_before (Some first) place = Some (if is_before place first then place else first)

-- the first, by an order, of the places below a number that pass a test
abbrev pub first_of : (ℕ → ℕ → Bool) → (ℕ → Bool) → ℕ → Option ℕ
first_of is_before passes zero = None
first_of is_before passes (suc n) =
    if passes n then earlier is_before (first_of is_before passes n) n
    else first_of is_before passes n

-- For the code alone.

-- the place of a text in a table of texts
abbrev pub place_in : List (Bor (List ℕ) × ℕ) → List ℕ → Option ℕ
place_in entries text = lookup (λ k. bytes_eq text k.now) entries
