-- Names of side files.
use Rattle.std.specs.Prelude.{◌≡◌, ◌≢◌, ℕ, false, true, List, codes}
use Rattle.folder_core.specs.Directory.{is_name}
use Rattle.folder_core.specs.Mh.{is_number}

-- A name beside those of messages and of the sequences.
pub record IsSideName (name : List ℕ) : Type 0 where
  pub no_number : is_number name ≡ false
  pub no_sequences : name ≢ codes ".mh_sequences"
  pub named : is_name name ≡ true
