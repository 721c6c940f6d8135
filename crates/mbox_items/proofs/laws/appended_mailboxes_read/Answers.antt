use Rattle.mbox_items.proofs.AppendedLemmas.{one_more}
use Rattle.mbox_items.proofs.laws.appended_mailboxes_read.Goals as goal

pub returns : goal.returns
returns c bytes item begins = one_more bytes item begins
