-- What a scan of a folder has seen.
use Rattle.std.specs.Prelude.{ℕ, List, Option, length}
use Rattle.disk_model.specs.Journal.{Past}
use Rattle.folder_core.specs.Message.{Message}
use Rattle.folder_core.specs.Mh.{SawMh}

-- the messages were seen in the folder at the path, in files with these stamps, those that were not
-- known with their bytes
abbrev pub MessagesSeen : List ℕ → List (Option ℕ) → List Message → List ℕ → Past → Past → Type 0
MessagesSeen path keeps messages stamps old new =
    SawMh path keeps messages stamps (length old.journal) (length new.journal) new
