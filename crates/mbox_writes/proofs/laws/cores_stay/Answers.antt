use Rattle.mbox_writes.proofs.LawLemmas as lemmas
use Rattle.mbox_writes.proofs.laws.cores_stay.Goals as goal

pub returns : goal.returns
returns c what bytes begins = lemmas.cores_stay what bytes begins
