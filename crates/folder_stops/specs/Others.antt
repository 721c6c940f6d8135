-- What others do to the messages of a folder, and what they may do.
use Rattle.std.specs.Prelude.{◌≡◌, ◌≢◌, ℕ, List, [], ◌∷◌, Option, Some, None, if◌then◌else◌}
use Rattle.disk_model.specs.Journal.{Action, Appends, Puts, Renames, Removes, Writes, Entry, Own}
use Rattle.disk_model.specs.Journal.{Others}
use Rattle.disk_model.specs.State.{File, Name, State, file_at, name_at, can_make, can_take}
use Rattle.folder_stops.specs.Shape.{Shape}
use Rattle.folder_stops.specs.Messages.{StoredMessage, arrived, taken, with_message}
use Rattle.folder_stops.specs.Rows.{IsDurable, IsUnused}

-- What they do to the messages, while those with these keys are taken away.

-- a file of these bytes came under a key, or under none
abbrev pub with_put : Shape → List (List ℕ) → Option (List ℕ) → List ℕ → List StoredMessage
    → List StoredMessage
with_put shape keys None bytes all = all
with_put shape keys (Some key) bytes all =
    if shape.counts bytes then with_message shape.before (arrived keys key bytes) all else all

-- what has this name moved from one key to another, or from none, or to none
abbrev pub with_move : Shape → List (List ℕ) → Option (Option ℕ) → Option (List ℕ)
    → Option (List ℕ) → List File → List StoredMessage → List StoredMessage
with_move shape keys None from to files all = all
with_move shape keys (Some None) from to files all = all
with_move shape keys (Some (Some n)) None None files all = all
with_move shape keys (Some (Some n)) None (Some key) files all =
    if shape.counts (file_at files n).bytes
    then with_message shape.before (arrived keys key (file_at files n).bytes) all
    else all
with_move shape keys (Some (Some n)) (Some key) None files all = taken key all
with_move shape keys (Some (Some n)) (Some key) (Some other) files all = all

-- the messages behind an action: a delivery is one more, and what is moved away is one less
abbrev pub with_action : Shape → List (List ℕ) → Action → State → List StoredMessage
    → List StoredMessage
with_action shape keys (Appends path piece) state all = all
with_action shape keys (Puts path bytes) state all =
    if can_make state.names path then with_put shape keys (shape.slot path) bytes all else all
with_action shape keys (Renames from to) state all =
    if can_take state.names to
    then with_move shape keys (name_at state.names from) (shape.slot from) (shape.slot to)
    state.files all
    else all
with_action shape keys (Removes path) state all = all
with_action shape keys (Writes path bytes) state all = all

-- the messages behind an entry, where calls of our own add none
abbrev pub with_entry : Shape → List (List ℕ) → Entry → State → List StoredMessage
    → List StoredMessage
with_entry shape keys (Own call answer) state all = all
with_entry shape keys (Others action) state all = with_action shape keys action state all

-- What they may do.

-- a file may come under a key that no file has, or under none
abbrev pub MayPut : Shape → Option (List ℕ) → List Name → Type 0
MayPut shape None names = Unit {0}
MayPut shape (Some key) names = IsUnused shape key names

-- a file keeps its key or loses it; one that comes under a key is on the disk, and no file has it
abbrev pub MayMove : Shape → Option (Option ℕ) → Option (List ℕ) → Option (List ℕ) → State → Type 0
MayMove shape file (Some key) (Some other) state = key ≡ other
MayMove shape None None (Some key) state = Unit {0}
MayMove shape (Some None) None (Some key) state = Unit {0}
MayMove shape (Some (Some n)) None (Some key) state =
    IsUnused shape key state.names
    × IsDurable (file_at state.files n).bytes (file_at state.files n)
MayMove shape file from None state = Unit {0}

-- others write no message's file and remove none; they bring files under new keys, and move them
-- within the folder
abbrev pub MayDo : Shape → Action → State → Type 0
MayDo shape (Appends path piece) state = shape.slot path ≡ None
MayDo shape (Puts path bytes) state = MayPut shape (shape.slot path) state.names
MayDo shape (Renames from to) state =
    (shape.home from ≡ shape.home to)
    × MayMove shape (name_at state.names from) (shape.slot from) (shape.slot to) state
MayDo shape (Removes path) state = shape.slot path ≡ None
MayDo shape (Writes path bytes) state = shape.slot path ≡ None

-- the action leaves what stands at a path alone
abbrev pub SparesPath : List ℕ → Action → Type 0
SparesPath path (Appends at piece) = at ≢ path
SparesPath path (Puts at bytes) = at ≢ path
SparesPath path (Renames from to) = (from ≢ path) × (to ≢ path)
SparesPath path (Removes at) = at ≢ path
SparesPath path (Writes at bytes) = at ≢ path

-- the action leaves all of these alone
abbrev pub SparesAll : List (List ℕ) → Action → Type 0
SparesAll [] action = Unit {0}
SparesAll (side ∷ sides) action = SparesPath side action × SparesAll sides action

-- others do what they may, and leave our side files alone
abbrev pub MayDoTo : Shape → List (List ℕ) → Action → State → Type 0
MayDoTo shape sides action state = MayDo shape action state × SparesAll sides action
