use Rattle.std.proofs.Common.{◌∙◌, ap}
use Rattle.index_rows.specs.Summary.{PlainSummary, status_line as status_row}
use Rattle.std.proofs.lemmas.Result.{IfOk-weaker}
use Rattle.session_screen.proofs.status.status_line.Goals as goal

pub returns : goal.returns
returns c =
    let cols = c.args.window.cols in
    IfOk-weaker c.status_line.result _ _ (λ line is. is
    ∙ ap (λ (s : PlainSummary). status_row cols s c.in_ok-format.format) c.summary-summary.ensures
    ∙ ap (status_row cols _) c.in_ok-format.ensures) c.status_line.ensures
