use Rattle.mbox_writes.proofs.LawLemmas as lemmas
use Rattle.mbox_writes.proofs.laws.few_messages.Goals as goal

pub returns : goal.returns
returns c what bytes begins = lemmas.few_messages what bytes begins
