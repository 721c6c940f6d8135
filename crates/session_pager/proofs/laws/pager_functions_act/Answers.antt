use Rattle.session_pager.proofs.LawsLemmas.{pager_act}
use Rattle.session_pager.proofs.laws.pager_functions_act.Goals as goal

pub returns : goal.returns
returns c = pager_act
