use Rattle.message_text.proofs.LawsLemmas.{unweeded_fields_are_all_shown}
use Rattle.message_text.proofs.laws.unweeded_fields_are_all_shown.Goals as goal

pub returns : goal.returns
returns c = unweeded_fields_are_all_shown
