use Rattle.disk_model.proofs.LawsOfNames.{each_name_has_its_file}
use Rattle.disk_model.proofs.laws.each_name_has_its_file.Goals as goal

pub returns : goal.returns
returns c = each_name_has_its_file
