-- Links without a cycle: each place has a root.
use Rattle.std.specs.Prelude.{◌≡◌, ◌<◌, ◌≤◌, ℕ, zero, suc, List, length, Option, Some, None}
use Rattle.threads.specs.Links.{target}
use Rattle.threads.specs.Threads.{root_of}
use Rattle.threads.specs.declared.step.Step.{Step}

-- so many steps lead from a place to an end, from which none leads on
abbrev pub Ends : (ℕ → Option ℕ) → ℕ → ℕ → ℕ → Type 0
Ends on zero p r = (p ≡ r) × (on p ≡ None)
Ends on (suc d) p r = (q : ℕ) × (on p ≡ Some q) × Ends on d q r

-- steps lead from each place to its root, which has no parent, so no place is reached again; and
-- no way has more
-- steps than there are places
abbrev pub IsForest : List (Option Step) → Type 0
IsForest parents = (p : ℕ) → p < length parents
    → (d : ℕ) × (d ≤ length parents) × Ends (target parents) d p (root_of parents p)
