use Rattle.expando.proofs.NumberLemmas.{number_capped}
use Rattle.expando.proofs.number.number_of.Goals as goal

pub returns : goal.returns
returns c =
    number_capped c.args.text.now c.parse.result c.unwrap_or.result c.in_ok-digits.ensures.some.1
    (rw c.in_ok-digits.ensures.some.0 at c.parse.ensures.value.0) c.unwrap_or.ensures
