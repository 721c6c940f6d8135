use Rattle.index_view.proofs.LawLemmas.{may_take}
use Rattle.index_view.proofs.laws.first_folder_is_taken.Goals as goal

pub returns : goal.returns
returns c = may_take
