use Rattle.headers_laws.proofs.LawsOfPeople.{written_people_are_read}
use Rattle.headers_laws.proofs.laws.written_people_are_read.Goals as goal

pub returns : goal.returns
returns c = written_people_are_read
