-- What a table of changes tells.
use Rattle.std.proofs.Common.{◌≡◌, ◌∙◌, ℕ, Bool, true, false, List, [], ◌∷◌}
use Rattle.std.proofs.Common.{Option, Some, option_map, refl, ap, nat_eq}
use Rattle.std.specs.Prelude.{find, if◌then◌else◌}
use Rattle.folder_letters.specs.declared.change.Change.{Change}
use Rattle.folder_letters.specs.declared.change.Changed1.{Changed1}
use Rattle.index_items.specs.Changes.{HasChanges, Tells, change_for, plain_change}
use Rattle.index_items.specs.Changes.{plain_changed, plain_changes}
use Rattle.index_items.specs.ById.{first_of}

plain_first : (changes : List Changed1) (n : ℕ)
    → option_map plain_change (first_of (λ c. c.id.0) (λ c. c.change) changes n)
    ≡ change_for (plain_changes changes) n
plain_first [] n = refl
plain_first (c ∷ changes) n = by_test (nat_eq n c.id.0) (plain_first changes n)
  where
    by_test : (b : Bool)
        → option_map plain_change (first_of (λ c. c.id.0) (λ c. c.change) changes n)
        ≡ change_for (plain_changes changes) n
        → option_map plain_change (option_map (λ c. c.change)
        (if b then Some c else find (λ c. nat_eq n c.id.0) changes))
        ≡ option_map (λ c. c.change) (if b then Some (plain_changed c)
        else find (λ c. nat_eq n c.id.0) (plain_changes changes))
    by_test true more = refl
    by_test false more = more

pub tells_changes : (table : List (Option Change)) (changes : List Changed1)
    → HasChanges table changes → Tells table (plain_changes changes)
tells_changes table changes has n = ap (option_map plain_change) (has n) ∙ plain_first changes n
