use Rattle.session_pager.proofs.LawsLemmas.{last_page_ends}
use Rattle.session_pager.proofs.laws.last_page_ends_the_text.Goals as goal

pub returns : goal.returns
returns c = last_page_ends
