use Rattle.headers_laws.proofs.LawsOfPeople.{group_is_read}
use Rattle.headers_laws.proofs.laws.group_is_read.Goals as goal

pub returns : goal.returns
returns c = group_is_read
