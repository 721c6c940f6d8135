use Rattle.mh_sequences.proofs.WrittenLemmas.{holds_written}
use Rattle.mh_sequences.proofs.laws.sequences_hold_what_is_written.Goals as goal

pub returns : goal.returns
returns c = holds_written
