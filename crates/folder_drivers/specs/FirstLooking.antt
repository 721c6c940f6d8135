-- What the first look of a call that adds a message has found.
use Rattle.std.specs.Prelude.{◌≡◌, ◌&&◌, ℕ, Bool, true, false, not, List, [], ◌∷◌, Option, Result}
use Rattle.std.specs.Prelude.{Ok, Err}
use Rattle.disk_model.specs.Journal.{Entry, Own, Others, Past}
use Rattle.disk_model.specs.State.{State, after_entry, tree_of}
use Rattle.folder_core.specs.Directory.{is_folder_at}
use Rattle.folder_core.specs.FirstLook.{has_failed}
use Rattle.folder_stops.specs.Along.{Grown}
use Rattle.folder_changes.specs.declared.sync_error.SyncError.{SyncError}
use Rattle.folder_changes.specs.declared.sync_error.SyncError.TheVariants.{NotFolder}

-- a call of ours is among the entries
abbrev pub has_own : List Entry → Bool
has_own [] = false
has_own (Own call answer ∷ entries) = true
has_own (Others action ∷ entries) = has_own entries

-- the first call of ours did not fail, and met a tree in which no folder stands at the path
abbrev pub met_no_folder : List ℕ → State → List Entry → Bool
met_no_folder dir state [] = false
met_no_folder dir state (Own call answer ∷ entries) =
    not (has_failed answer) && not (is_folder_at (tree_of state) dir)
met_no_folder dir state (Others action ∷ entries) =
    met_no_folder dir (after_entry state (Others action)) entries

-- there was a first call of ours, and it met a folder at the path
abbrev pub MetFolder : List ℕ → State → List Entry → Type 0
MetFolder dir state entries =
    (has_own entries ≡ true) × (met_no_folder dir state entries ≡ false)

-- The first look met a folder at the path.
pub record MeetsFolder (dir : List ℕ) (old new : Option Past) : Type 0 where
  pub grown : Grown old new (MetFolder dir)

-- Where the first look met no folder at the path, the refusal is for that.
pub record TellsNoFolder (dir : List ℕ) (why : SyncError) (old new : Option Past) : Type 0 where
  pub grown : Grown old new (λ state entries. met_no_folder dir state entries ≡ true
      → why ≡ NotFolder)

-- what is done has met a folder at its first look; where that met none the refusal is for that
abbrev pub LooksFirst : {A : Type 0} → List ℕ → Result A SyncError → Option Past → Option Past
    → Type 0
LooksFirst dir (Ok given) old new = MeetsFolder dir old new
LooksFirst dir (Err why) old new = TellsNoFolder dir why old new
