use Rattle.std.proofs.Common.{◌∙◌, ap, arith}
use Rattle.std.specs.Prelude.{slice_get}
use Rattle.keymap.specs.Functions.{plain_row, rows}
use Rattle.keymap.proofs.FunctionLemmas.{own_row}
use Rattle.keymap.proofs.TableLemmas.{same_row, some_same}
use Rattle.keymap.proofs.function.Function.row.Goals as goal

pub returns : goal.returns
returns c =
    some_same (same_row plain_row c.rows.result.now rows c.place.result _ c.rows.ensures.table
    (omega (arith, c.rows.ensures.count, c.place.ensures.within))
    ∙ ap (slice_get rows) c.place.ensures.value ∙ own_row c.args.self)
