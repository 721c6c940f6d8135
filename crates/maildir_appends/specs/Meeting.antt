-- The names that the looks of an append have met.
use Rattle.std.specs.Prelude.{ℕ, true, false, List, Option}
use Rattle.std.specs.Prelude.{codes}
use Rattle.disk_model.specs.Journal.{Past}
use Rattle.folder_core.specs.Directory.{path_in}
use Rattle.folder_core.specs.Maildir.{directory}
use Rattle.folder_drivers.specs.MetNames.{SawNames}
use Rattle.folder_drivers.specs.MetNames.{plain_names}
use Rattle.maildir_appends.specs.declared.listing.Present.{Present}

-- The names of all three directories were met.
pub record SawPresent (dir : List ℕ) (present : Present) (old new : Option Past) : Type 0 where
  pub cur : SawNames (directory true dir) (plain_names present.cur) old new
  pub new_names : SawNames (directory false dir) (plain_names present.new) old new
  pub tmp : SawNames (path_in dir (codes "tmp")) (plain_names present.tmp) old new
