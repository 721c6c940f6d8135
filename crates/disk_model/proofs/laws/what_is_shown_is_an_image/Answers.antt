use Rattle.disk_model.proofs.LawsOfImages.{shown_is_image}
use Rattle.disk_model.proofs.laws.what_is_shown_is_an_image.Goals as goal

pub returns : goal.returns
returns c = shown_is_image
