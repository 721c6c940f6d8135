-- Where a message of an MH folder is written first, and where it is put.
use Rattle.std.specs.Prelude.{◌≡◌, ℕ, true, List, Ok, Option}
use Rattle.std.specs.Fmt.{decimal}
use Rattle.std.specs.String.{string_bytes}
use Rattle.disk_model.specs.Journal.{ListDir, Past}
use Rattle.disk_model.specs.Judge.{GoesOn, list_of}
use Rattle.folder_core.specs.Looked.{SawAt}
use Rattle.folder_core.specs.Mh.{is_number, number_at, sequences_path}
use Rattle.folder_drivers.specs.MetNames.{SawNames}
use Rattle.folder_drivers.specs.MhAppend.{IsNextNumber, number_path}
use Rattle.folder_drivers.specs.MhNames.{append_path, new_sequences_path}
use Rattle.folder_shapes.specs.Mh.{is_message}
use Rattle.mh_appends.specs.Leftovers.{Empties}
use Rattle.mh_appends.specs.declared.places.Places.{Places}

-- The paths are those of the number.
pub record AreOf (path : List ℕ) (places : Places) : Type 0 where
  pub held : string_bytes places.held ≡ number_path path places.number
  pub beside : string_bytes places.beside ≡ append_path path
  pub sequences : string_bytes places.sequences ≡ sequences_path path
  pub side : string_bytes places.side ≡ new_sequences_path path

-- The number is one that a message may have, the paths are its own, and the bytes are those of a
-- message.
pub record IsPlaced (path : List ℕ) (places : Places) (core : List ℕ) : Type 0 where
  pub numbered : is_number (decimal places.number) ≡ true
  pub order : number_at (decimal places.number) ≡ places.number
  pub of : AreOf path places
  pub counts : is_message core ≡ true

-- our call listed the folder, and met these names
abbrev pub MetListing : List ℕ → List (List ℕ) → Option Past → Option Past → Type 0
MetListing path names old new =
    GoesOn (SawAt (ListDir path) (λ tree. Ok names ≡ list_of tree path)) old new

-- The paths are those of the next number by the names that the look has met.
pub record AreChosen (path : List ℕ) (old new : Option Past) (places : Places) : Type 0 where
  pub names : List (List ℕ)
  pub saw : SawNames path names old new
  pub met : MetListing path names old new
  pub empties : Empties path old new
  pub next : IsNextNumber names places.number
  pub of : AreOf path places
