use Rattle.pager.proofs.ShownLemmas.{empty_shown}
use Rattle.pager.proofs.pager.Pager.row.Goals as goal

pub returns-else-row-len-clause-shown : goal.returns-else-row-len-clause-shown
returns-else-row-len-clause-shown c = empty_shown c.args.self.now.cols
