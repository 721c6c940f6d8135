use Rattle.mail_base.proofs.PlacesLemmas.{first_place}
use Rattle.mail_base.proofs.places.place_of.Goals as goal

pub returns-clause-value : goal.returns-clause-value
returns-clause-value c = first_place c.args.byte c.args.text.now c.memchr.result c.memchr.ensures
