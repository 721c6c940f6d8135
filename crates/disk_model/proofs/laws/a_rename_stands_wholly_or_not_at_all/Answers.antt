use Rattle.disk_model.proofs.LawsOfImages.{rename_is_whole}
use Rattle.disk_model.proofs.laws.a_rename_stands_wholly_or_not_at_all.Goals as goal

pub returns : goal.returns
returns c = rename_is_whole
