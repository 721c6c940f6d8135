use Rattle.std.proofs.Common.{◌∙◌, ap, option_map, is_some}
use Rattle.keymap.specs.Functions.{plain_row, rows}
use Rattle.keymap.specs.KeyWords.{behind_name}
use Rattle.keymap.proofs.TableLemmas.{same_found}
use Rattle.keymap.proofs.key_word.row_at.Goals as goal

pub returns : goal.returns
returns c =
    ap (option_map plain_row) c.row_in.ensures
    ∙ same_found (λ r. is_some (behind_name r.name c.args.text.now)) plain_row c.rows.result.now
    rows
    c.rows.ensures.table
