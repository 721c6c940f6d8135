-- The listed messages of a folder by their numbers.
use Rattle.std.specs.Prelude.{◌&&◌, ◌==◌, ℕ, Bool, true, nat_le, zero, suc, List, [], ◌∷◌, length}
use Rattle.std.specs.Prelude.{Option, Some, None, if◌then◌else◌}
use Rattle.folder_core.specs.Keeping.{ListedMail}
use Rattle.mh_folder.specs.declared.known_file.KnownFile.{KnownFile}

-- a listed message with the stamp of its file
abbrev pub file_of : ListedMail → ℕ → KnownFile
file_of listed stamp = record {
  order = listed.mail.order;
  id = record { 0 = listed.id };
  stamp = stamp;
  size = length listed.mail.core;
}

-- listed messages with the stamps of their files
abbrev pub files_of : List ListedMail → List ℕ → List KnownFile
files_of [] stamps = []
files_of (listed ∷ old) [] = []
files_of (listed ∷ old) (stamp ∷ stamps) = file_of listed stamp ∷ files_of old stamps

-- the least order behind this one: 0, which is no number, may come again
abbrev pub order_behind : ℕ → ℕ
order_behind zero = zero
order_behind (suc n) = suc (suc n)

-- the orders rise from one on
abbrev pub rises_from : ℕ → List KnownFile → Bool
rises_from low [] = true
rises_from low (file ∷ files) =
    nat_le low file.order && rises_from (order_behind file.order) files

-- the listed message of a number
abbrev pub file_in : List KnownFile → ℕ → Option KnownFile
file_in [] number = None
file_in (file ∷ files) number =
    if file.order == number then Some file else file_in files number

-- the listed message, where it has the number
abbrev pub file_if : ℕ → Option KnownFile → Option KnownFile
file_if number None = None
file_if number (Some file) = if file.order == number then Some file else None

-- the id that a message keeps in a file with this stamp
abbrev pub id_at : Option KnownFile → ℕ → Option ℕ
id_at None stamp = None
id_at (Some file) stamp = if file.stamp == stamp then Some file.id.0 else None
