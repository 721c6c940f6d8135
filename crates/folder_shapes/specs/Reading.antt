-- What folders of both kinds share in how they are read.
use Rattle.std.specs.Prelude.{ℕ, ◌==◌, List, [], ◌∷◌, Option, Some, None, if◌then◌else◌}
use Rattle.folder_core.specs.Message.{Message}
use Rattle.folder_stops.specs.Reads.{ReadMessage}

-- what stands in a path behind these bytes, where it begins with them
abbrev pub behind : List ℕ → List ℕ → Option (List ℕ)
behind [] path = Some path
behind (b ∷ front) [] = None
behind (b ∷ front) (c ∷ path) = if b == c then behind front path else None

-- a message of the folder by its key and its bytes
abbrev pub plain_message : Message → ReadMessage
plain_message m = record { key = m.key; core = m.raw }
