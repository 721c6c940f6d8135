-- How a clock in memory goes on.
use Rattle.std.proofs.Common.{◌<◌, ℕ, List, Some, map, length, drop, get_or, refl, subst, sym}
use Rattle.std.proofs.Common.{arith, ◌+◌, ◌∷◌}
use Rattle.std.proofs.lemmas.List.{drop_more}
use Rattle.mail_base.specs.Streams.{Ticks, moment_of}

-- with a further moment behind the one at a place, that one is given
pub ticks_on : (l : List ℕ) (i : ℕ) → i + 1 < length l
    → Ticks (Some (map moment_of (drop i l))) (Some (map moment_of (drop (i + 1) l)))
    (moment_of (get_or l i 0))
ticks_on l i more =
    let here : i < length l = omega arith in
    subst (λ (a : List ℕ). Ticks (Some (map moment_of a)) (Some (map moment_of (drop (i + 1) l)))
    (moment_of (get_or l i 0)))
    (sym (drop_more l i 0 here))
    (subst (λ (b : List ℕ). Ticks (Some (map moment_of (get_or l i 0 ∷ b))) (Some (map moment_of b))
    (moment_of (get_or l i 0)))
    (sym (drop_more l (i + 1) 0 more)) (refl, refl))
