use Rattle.folder_stops.proofs.LawsOfFolders.{first_stands}
use Rattle.folder_stops.proofs.laws.a_folder_stands_at_first.Goals as goal

pub returns : goal.returns
returns c = first_stands
