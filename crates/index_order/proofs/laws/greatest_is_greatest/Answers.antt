use Rattle.index_order.proofs.LawLemmas.{greatest_is}
use Rattle.index_order.proofs.laws.greatest_is_greatest.Goals as goal

pub returns : goal.returns
returns c = greatest_is
