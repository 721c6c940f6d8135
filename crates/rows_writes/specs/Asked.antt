-- What a case asks of a sync.
use Rattle.std.specs.Prelude.{◌==◌, ℕ, Bool, List}
use Rattle.std.specs.List.{list_any}
use Rattle.folder_letters.specs.declared.change.Changed1.{Changed1}

-- one of the changes is of the message with this number
abbrev pub has_change : List Changed1 → ℕ → Bool
has_change changes id = list_any (λ changed. id == changed.id.0) changes
