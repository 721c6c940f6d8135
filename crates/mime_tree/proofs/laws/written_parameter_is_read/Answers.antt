use Rattle.mime_tree.proofs.LawsOfParameters.{written_parameter_is_read}
use Rattle.mime_tree.proofs.laws.written_parameter_is_read.Goals as goal

pub returns : goal.returns
returns c = written_parameter_is_read
