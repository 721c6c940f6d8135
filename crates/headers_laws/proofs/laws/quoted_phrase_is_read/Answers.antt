use Rattle.headers_laws.proofs.LawsOfPeople.{quoted_phrase_is_read}
use Rattle.headers_laws.proofs.laws.quoted_phrase_is_read.Goals as goal

pub returns : goal.returns
returns c = quoted_phrase_is_read
