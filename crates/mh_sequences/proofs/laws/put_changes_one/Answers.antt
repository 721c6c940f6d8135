use Rattle.mh_sequences.proofs.ChangeLemmas.{put_changes}
use Rattle.mh_sequences.proofs.laws.put_changes_one.Goals as goal

pub returns : goal.returns
returns c = put_changes
