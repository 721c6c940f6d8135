use Rattle.headers_laws.proofs.LawsOfPeople.{comment_is_the_name}
use Rattle.headers_laws.proofs.laws.comment_is_the_name.Goals as goal

pub returns : goal.returns
returns c = comment_is_the_name
