use Rattle.headers_laws.proofs.LawsOfText.{plain_text_stays, utf8_stays}
use Rattle.headers_laws.proofs.laws.plain_text_stays.Goals as goal

pub returns-clause-text : goal.returns-clause-text
returns-clause-text c = plain_text_stays

pub returns-clause-utf8 : goal.returns-clause-utf8
returns-clause-utf8 c = utf8_stays
