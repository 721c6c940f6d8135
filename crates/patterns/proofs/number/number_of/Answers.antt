use Rattle.patterns.proofs.NumberLemmas.{number_past}
use Rattle.patterns.proofs.number.number_of.Goals as goal

pub returns-in_default-2-clause-value : goal.returns-in_default-2-clause-value
returns-in_default-2-clause-value c =
    number_past c.args.text.now c.parse.result c.in_default.field-0
    c.in_ok-number_text.ensures.some.1 c.in_default.is
    (rw c.in_ok-number_text.ensures.some.0 at c.parse.ensures.value.0)
