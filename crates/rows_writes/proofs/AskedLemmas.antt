-- What a case asks of a sync.
use Rattle.std.proofs.Common.{◌≡◌, ◌==◌, ◌||◌, ◌∷◌, ℕ, Bool, true, false, List, [], Option}
use Rattle.std.proofs.Common.{Some, None}
use Rattle.std.proofs.Common.{IsTrue, find, not, option_map, refl, if◌then◌else◌}
use Rattle.index_items.specs.Changes.{Changed, change_for, plain_changed}
use Rattle.index_items.specs.Changes.{plain_changes}
use Rattle.folder_letters.specs.declared.change.Changed1.{Changed1}
use Rattle.rows_writes.specs.Asked.{has_change}

no_truth : ◌≡◌ {A = Bool} false true → ⊥
no_truth is = cc

-- where none of the changes is of a message, nothing is to become of it
pub no_change : (changes : List Changed1) (id : ℕ) → IsTrue (not (has_change changes id))
    → change_for (plain_changes changes) id ≡ None
no_change [] id none = refl
no_change (changed ∷ changes) id none =
    by (plain_changed changed) (find (λ c. id == c.id.0) (plain_changes changes))
    (id == changed.id.0) (has_change changes id) none (no_change changes id)
  where
    by : (first : Changed) (more : Option Changed) (is held : Bool) → IsTrue (not (is || held))
        → (IsTrue (not held) → option_map (λ c. c.change) more ≡ None)
        → option_map (λ c. c.change) (if is then Some first else more) ≡ None
    by first more true held none rest = absurd (no_truth none)
    by first more false held none rest = rest none
