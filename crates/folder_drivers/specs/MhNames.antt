-- Paths in an MH folder that are not of messages (mh-mail(5)).
use Rattle.std.specs.Prelude.{◌≡◌, ◌⊎◌, ◌++◌, ℕ, Bool, true, false, List, codes}
use Rattle.disk_model.specs.Journal.{Call, Remove, Rename}
use Rattle.folder_core.specs.Directory.{path_in}

-- the file in which new sequences are written, before they are put in place
abbrev pub new_sequences_path : List ℕ → List ℕ
new_sequences_path path = path_in path (codes ".mh_sequences.new")

-- the file in which a message that is added is written, before it is put in place
abbrev pub append_path : List ℕ → List ℕ
append_path path = path_in path (codes ".mutt_append")

-- one of these two
abbrev pub IsSidePath : List ℕ → List ℕ → Type 0
IsSidePath path at = (at ≡ new_sequences_path path) ⊎ (at ≡ append_path path)

-- where the file of a number goes that is taken out of the folder but kept
abbrev pub away_path : List ℕ → List ℕ → List ℕ
away_path path key = path_in path (codes "," ++ key)

-- the call by which the file of a number goes out of the folder: to a name of its own, or for good
abbrev pub call_away : Bool → List ℕ → List ℕ → Call
call_away true path key = Remove (path_in path key)
call_away false path key = Rename (path_in path key) (away_path path key)
