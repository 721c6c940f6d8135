use Rattle.std.proofs.Common.{rules}
use Rattle.mail_base.proofs.DecimalLemmas.{number_refused}
use Rattle.mail_base.proofs.decimal.read_decimal.Goals as goal

pub returns-in_default-3-clause-value : goal.returns-in_default-3-clause-value
returns-in_default-3-clause-value c =
    number_refused c.args.low c.args.high c.args.text.now _ _ (search rules)
    c.in_ok-digits.ensures.some.1 c.in_default.is
    (rw c.in_ok-digits.ensures.some.0 at c.parse.ensures.value.0)
