use Rattle.mbox_text.proofs.RewritingLemmas.{rewritten_reads}
use Rattle.mbox_text.proofs.laws.rewritten_mailboxes_read.Goals as goal

pub returns : goal.returns
returns c what bytes begins = rewritten_reads what bytes begins
