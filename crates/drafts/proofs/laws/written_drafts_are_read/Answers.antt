use Rattle.drafts.proofs.DraftLemmas.{written_drafts_are_read}
use Rattle.drafts.proofs.laws.written_drafts_are_read.Goals as goal

pub returns : goal.returns
returns c = written_drafts_are_read
