use Rattle.drafts.proofs.DraftLemmas.{drafts_differ}
use Rattle.drafts.proofs.laws.drafts_differ.Goals as goal

pub returns : goal.returns
returns c = drafts_differ
