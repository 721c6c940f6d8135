use Rattle.std.proofs.Common.{sym}
use Rattle.mail_base.proofs.DecimalLemmas.{digits_utf8}
use Rattle.mail_base.proofs.decimal.digits.Goals as goal

pub unreachable-requires : goal.unreachable-requires
unreachable-requires c =
    c.in_default.ensures.cases.0
    (digits_utf8 c.args.text.now (sym c.if-not-are_digits.ensures))
