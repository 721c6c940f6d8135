use Rattle.mh_sequences.proofs.UprightLemmas.{stays_upright}
use Rattle.mh_sequences.proofs.laws.ranges_stay_upright.Goals as goal

pub returns : goal.returns
returns c = stays_upright
