use Rattle.disk_model.proofs.LawsOfImages.{synced_stands}
use Rattle.disk_model.proofs.laws.what_is_synced_stands.Goals as goal

pub returns : goal.returns
returns c = synced_stands
