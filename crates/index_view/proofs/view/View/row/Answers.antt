use Rattle.std.proofs.Common.{◌∙◌, ap}
use Rattle.std.specs.Prelude.{is_some}
use Rattle.index_view.specs.Answers as answers
use Rattle.index_view.specs.Tables.{row_at}
use Rattle.index_view.specs.View.{PlainView}
use Rattle.index_view.proofs.LinesLemmas.{listed_if}
use Rattle.index_view.proofs.view.View.row.Goals as goal

pub returns-clause-listed : goal.returns-clause-listed
returns-clause-listed c mails of =
    let v = c.args.self.now in
    let id = c.args.id in
    ap is_some (c.row.ensures ∙ ap (λ (w : PlainView). answers.row w.answers id) c.self.view_is)
    ∙ listed_if mails v id of (row_at v.answers.rows)
