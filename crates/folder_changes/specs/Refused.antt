-- Why a call that writes was refused, by states of the tree that are no doing of ours.
use Rattle.std.specs.Prelude.{◌≡◌, ℕ, Bool, List, [], ◌∷◌, Option, Some, drop, is_some}
use Rattle.std.specs.Prelude.{length, take}
use Rattle.disk_model.specs.Journal.{Call, Own, Past, Refused}
use Rattle.disk_model.specs.Refusals.{refusal}
use Rattle.disk_model.specs.State.{tree_at}
use Rattle.disk_model.specs.Tree.{TreeNode}
use Rattle.disk_model.specs.declared.answers.DiskError.{DiskError}
use Rattle.disk_model.specs.declared.answers.DiskError.TheVariants as disk
use Rattle.folder_changes.specs.Worked.{WasCause}
use Rattle.folder_changes.specs.declared.sync_error.SyncError.{SyncError}
use Rattle.folder_changes.specs.declared.sync_error.SyncError.TheVariants.{Changed as IsChanged}
use Rattle.folder_changes.specs.declared.sync_error.SyncError.TheVariants.{Fault, NoMemory}
use Rattle.folder_changes.specs.declared.sync_error.SyncError.TheVariants.{NotFolder}

-- the tree refuses a call
abbrev pub refuses : Call → List TreeNode → Bool
refuses call tree = is_some (refusal call tree)

-- a call of ours was refused for a state that stood as our steps began, or that others made since
abbrev pub WasRefused : Call → ℕ → ℕ → Past → Type 0
WasRefused call m n past = WasCause (refuses call) m n past

-- A call of ours was refused, as the tree that it met refuses it, for a state that stood as our
-- steps began, or that others made since.
pub record StepRefused (Needs : Call → Type 0) (m n : ℕ) (past : Past) : Type 0 where
  pub call : Call
  pub needs : Needs call
  pub why : DiskError
  pub refused : WasRefused call m n past
  pub asked : refusal call (tree_at past refused.mark) ≡ Some why
  pub own : take 1 (drop refused.mark past.journal) ≡ Own call (Refused why 0) ∷ []

-- this is so where the refusal is that something is not as it is known
abbrev pub OnChanged : SyncError → Type 0 → Type 0
OnChanged (IsChanged spot) P = P
OnChanged why P = Unit {0}

-- the disk refused a call for what stands in its tree
abbrev pub IsOfTree : DiskError → Type 0
IsOfTree disk.Fault = ⊥
IsOfTree disk.NoMemory = ⊥
IsOfTree why = Unit {0}

-- this is so between the marks of two pasts, where both are told
abbrev pub IsBetween : (ℕ → ℕ → Past → Type 0) → Option Past → Option Past → Type 0
IsBetween Is (Some old) (Some new) = Is (length old.journal) (length new.journal) new
IsBetween Is old new = Unit {0}

-- of the causes nothing is told
abbrev pub Untold : ℕ → ℕ → Past → Type 0
Untold m n past = Unit {0}

-- what a refused call makes of a folder that is made or added to: what is not there, or is there
-- already, makes it none
abbrev pub refused_by : DiskError → SyncError
refused_by disk.Missing = NotFolder
refused_by disk.WrongNode = NotFolder
refused_by disk.Exists = NotFolder
refused_by (disk.Long size) = NotFolder
refused_by disk.Fault = Fault
refused_by disk.NoMemory = NoMemory
