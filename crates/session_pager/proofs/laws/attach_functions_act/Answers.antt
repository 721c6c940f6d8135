use Rattle.session_pager.proofs.LawsLemmas.{attach_act}
use Rattle.session_pager.proofs.laws.attach_functions_act.Goals as goal

pub returns : goal.returns
returns c = attach_act
