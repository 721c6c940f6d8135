use Rattle.folder_stops.proofs.LawsOfFolders.{holds_stands}
use Rattle.folder_stops.proofs.laws.what_is_held_stands.Goals as goal

pub returns : goal.returns
returns c = holds_stands
