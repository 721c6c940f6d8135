-- What others may do to a mailbox in one file, and what that makes of it.
use Rattle.std.specs.Prelude.{◌≡◌, ◌⊎◌, ℕ, Bool, List, [], ◌∷◌, ◌++◌, Option, Some, None}
use Rattle.std.specs.Prelude.{if◌then◌else◌}
use Rattle.std.specs.Str.{bytes_eq}
use Rattle.disk_model.specs.Journal.{Action, Appends, Puts, Removes, Renames, Writes, Entry, Own}
use Rattle.disk_model.specs.Journal.{Others}
use Rattle.disk_model.specs.State.{File, State, file_at, name_at}
use Rattle.folder_stops.specs.Others.{SparesAll, SparesPath}
use Rattle.folder_tails.specs.Sides.{lock_of, tail_of, tmp_of}

-- the names beside the mailbox
abbrev pub sides_of : List ℕ → List (List ℕ)
sides_of path = tail_of path ∷ tmp_of path ∷ lock_of path ∷ []

-- the mailbox is left alone, but that bytes are put at its end while no lock is there
abbrev pub SparesMail : List ℕ → Action → State → Type 0
SparesMail path (Appends at piece) state =
    SparesPath path (Appends at piece) ⊎ (name_at state.names (lock_of path) ≡ None)
SparesMail path action state = SparesPath path action

-- others leave the names beside the mailbox alone
abbrev pub MayDo : List ℕ → Action → State → Type 0
MayDo path action state = SparesAll (sides_of path) action × SparesMail path action state

-- the bytes of the file that has this name
abbrev pub bytes_in : List File → Option (Option ℕ) → List ℕ
bytes_in files None = []
bytes_in files (Some None) = []
bytes_in files (Some (Some number)) = (file_at files number).bytes

-- the bytes of the file at a path
abbrev pub bytes_at : List ℕ → State → List ℕ
bytes_at path state = bytes_in state.files (name_at state.names path)

-- the test of the bytes to which a stop may leave the mailbox settled, behind an action of others:
-- once they put bytes at its end, these are what it then holds, and no other
abbrev pub with_action : List ℕ → Action → State → (List ℕ → Bool) → List ℕ → Bool
with_action path (Appends at piece) state may =
    if bytes_eq at path then bytes_eq (bytes_at path state ++ piece) else may
with_action path (Puts at bytes) state may = may
with_action path (Renames from to) state may = may
with_action path (Removes at) state may = may
with_action path (Writes at bytes) state may = may

-- the same behind an entry: ours change nothing
abbrev pub met : List ℕ → Entry → State → (List ℕ → Bool) → List ℕ → Bool
met path (Own call answer) state may = may
met path (Others action) state may = with_action path action state may
