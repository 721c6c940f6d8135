use Rattle.message_text.proofs.LawsLemmas.{kept_fields_are_shown_once}
use Rattle.message_text.proofs.laws.kept_fields_are_shown_once.Goals as goal

pub returns : goal.returns
returns c = kept_fields_are_shown_once
