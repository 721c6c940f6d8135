use Rattle.std.proofs.Common.{◌∙◌, ap, option_map}
use Rattle.std.specs.Str.{bytes_eq}
use Rattle.keymap.specs.Functions.{plain_row, rows}
use Rattle.keymap.proofs.TableLemmas.{same_found}
use Rattle.keymap.proofs.function.Row.find.Goals as goal

pub returns : goal.returns
returns c =
    ap (option_map plain_row) c.row_named.ensures
    ∙ same_found (λ r. bytes_eq r.name c.args.name.now) plain_row c.rows.result.now rows
    c.rows.ensures.table
