use Rattle.folder_stops.proofs.LawsOfAppends.{append_stands, numbered_stands}
use Rattle.folder_stops.proofs.laws.an_append_adds_its_item.Goals as goal

pub returns-clause-item : goal.returns-clause-item
returns-clause-item c = append_stands

pub returns-clause-numbered : goal.returns-clause-numbered
returns-clause-numbered c = numbered_stands
