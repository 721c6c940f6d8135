use Rattle.std.proofs.Common.{arith}
use Rattle.rc_lang.specs.Variables.{rows}
use Rattle.rc_lang.proofs.TableLemmas.{same_row}
use Rattle.rc_lang.proofs.variable.row_at.Goals as goal

pub returns : goal.returns
returns c = same_row c.table.result.now rows c.args.place _ c.table.ensures.table (omega
    (arith, c.table.ensures.count))
