use Rattle.std.proofs.Common.{sym}
use Rattle.mail_base.proofs.NumberLemmas.{number_utf8}
use Rattle.mail_base.proofs.number.number_text.Goals as goal

pub unreachable-requires : goal.unreachable-requires
unreachable-requires c = c.in_default.ensures.cases.0 (number_utf8 c.args.text.now
    (sym c.if-not-is_number.ensures))
