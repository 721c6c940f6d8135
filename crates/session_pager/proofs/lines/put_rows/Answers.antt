use Rattle.std.proofs.Common.{map}
use Rattle.session_pager.specs.Lines.{row_line}
use Rattle.session_pager.proofs.LinesLemmas.{page_turn}
use Rattle.session_pager.proofs.lines.put_rows.Goals as goal

pub loop-line-preserved : goal.loop-line-preserved
loop-line-preserved c =
    page_turn (row_line c.args.cols c.args.cursor (map (λ row. row.items) c.args.rows.now))
    c.args.lines.now c.loop-line.lines c.push.new.self c.loop-line.line c.in_ok-row_line.field-0
    c.in_ok-push.ensures.ok c.in_ok-row_line.ensures c.loop-line.invariant
