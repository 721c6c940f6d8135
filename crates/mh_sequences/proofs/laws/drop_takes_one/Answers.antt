use Rattle.mh_sequences.proofs.ChangeLemmas.{drop_takes}
use Rattle.mh_sequences.proofs.laws.drop_takes_one.Goals as goal

pub returns : goal.returns
returns c = drop_takes
