use Rattle.disk_model.proofs.LawsOfImages.{now_is_image}
use Rattle.disk_model.proofs.laws.a_stop_may_lose_nothing.Goals as goal

pub returns : goal.returns
returns c = now_is_image
