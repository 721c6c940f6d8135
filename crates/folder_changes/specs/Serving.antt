-- What every part of a call that writes keeps, and why it was refused.
use Rattle.std.specs.Prelude.{◌≡◌, ◌≤◌, ℕ, List, Result, IsErrOf}
use Rattle.mail_base.specs.Faults.{Rose}
use Rattle.disk_model.specs.Judge.{Grows}
use Rattle.disk_model.specs.Seen.{Seen}
use Rattle.folder_changes.specs.declared.sync_error.Spot.TheVariants.{Name}
use Rattle.folder_changes.specs.declared.sync_error.SyncError.{SyncError}
use Rattle.folder_changes.specs.declared.sync_error.SyncError.TheVariants.{Changed as IsChanged}
use Rattle.folder_changes.specs.declared.sync_error.SyncError.TheVariants.{Fault, NoMemory}

-- What every part of such a call keeps: a told past only grows, neither marks nor faults fall,
-- and a fault has its cause.
pub record Serves {A : Type 0} (result : Result A SyncError) (old new : Seen) : Type 0 where
  pub grows : Grows old.told new.told
  pub marks : old.marks ≤ new.marks
  pub faults : old.faults ≤ new.faults
  pub cause : IsErrOf result Fault → Rose old.faults new.faults

-- why a step was refused that names this path
abbrev pub IsErrorAt : List ℕ → SyncError → Type 0
IsErrorAt path (IsChanged (Name name)) = name.items ≡ path
IsErrorAt path Fault = Unit {0}
IsErrorAt path NoMemory = Unit {0}
IsErrorAt path why = ⊥
