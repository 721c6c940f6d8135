use Rattle.drafts.proofs.DraftLemmas.{head_texts}
use Rattle.drafts.proofs.reader.read.Goals as goal

pub to_draft-requires-clause-fields : goal.to_draft-requires-clause-fields
to_draft-requires-clause-fields c = head_texts c.args.bytes.now _ _ c.in_ok-head.ensures
