use Rattle.mbox_text.proofs.RewritingLemmas.{front_stays}
use Rattle.mbox_text.proofs.laws.fronts_stay.Goals as goal

pub returns : goal.returns
returns c what raws = front_stays what raws
