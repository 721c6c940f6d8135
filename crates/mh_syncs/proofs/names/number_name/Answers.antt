use Rattle.std.proofs.Common.{◌∙◌, ap, not}
use Rattle.mh_syncs.proofs.Decimals.{number_text}
use Rattle.mh_syncs.proofs.names.number_name.Goals as goal

pub unreachable-requires : goal.unreachable-requires
unreachable-requires c =
    c.in_default.ensures.cases.0
    (number_text c.args.key.now c.read_number.result c.read_number.ensures
    (c.is_none.ensures ∙ ap not c.if-is_none.false))
