use Rattle.expando.proofs.Fitting.{filled-columns, ends_at_the_last}
use Rattle.expando.proofs.laws.gaps_are_filled.Goals as goal

pub returns-clause-filled : goal.returns-clause-filled
returns-clause-filled c = filled-columns

pub returns-clause-ends : goal.returns-clause-ends
returns-clause-ends c = ends_at_the_last
