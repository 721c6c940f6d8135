use Rattle.disk_model.proofs.LawsOfImages.{written_by_others_stands}
use Rattle.disk_model.proofs.laws.what_others_write_stands.Goals as goal

pub returns : goal.returns
returns c = written_by_others_stands
