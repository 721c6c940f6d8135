-- What a scan of a folder has found, before it is known.
use Rattle.std.specs.Prelude.{ℕ, List, Option, length}
use Rattle.disk_model.specs.Journal.{Past}
use Rattle.folder_core.specs.Maildir.{SawMaildir}
use Rattle.folder_core.specs.Message.{Message}

-- the messages were seen in the Maildir at the path
abbrev pub MessagesSeen : List ℕ → List (Option ℕ) → List Message → List ℕ → Past → Past → Type 0
MessagesSeen path keeps messages stamps old new =
    SawMaildir path keeps messages (length old.journal) (length new.journal) new
