use Rattle.patterns_match.proofs.MachineLemmas.{operations_answer}
use Rattle.patterns_match.proofs.laws.operations_answer.Goals as goal

pub returns : goal.returns
returns c = operations_answer
