use Rattle.std.proofs.Common.{◌∙◌}
use Rattle.people.proofs.LiteralLemmas.{found_stands}
use Rattle.people.proofs.literal.stands_in.Goals as goal

pub returns : goal.returns
returns c = c.is_some.ensures
    ∙ found_stands c.args.literal.now c.args.text.now c.find.result c.find.ensures
