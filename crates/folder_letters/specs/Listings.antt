-- Listings of letters.
use Rattle.std.specs.Prelude.{◌+◌, ℕ, List, [], ◌∷◌}
use Rattle.folder_letters.specs.declared.listing.Listed.{Listed}
use Rattle.mail_base.specs.declared.kind.Id.{Id}

-- the ids from one on, as many as there are listed messages
abbrev pub ids_from : ℕ → List Listed → List Id
ids_from id [] = []
ids_from id (listed ∷ more) = record { 0 = id } ∷ ids_from (id + 1) more
