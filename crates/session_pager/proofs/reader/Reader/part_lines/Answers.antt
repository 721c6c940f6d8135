use Rattle.session_pager.proofs.LinesLemmas.{count_made, rows_counted}
use Rattle.session_pager.proofs.reader.Reader.part_lines.Goals as goal

pub returns-clause-count : goal.returns-clause-count
returns-clause-count c =
    count_made c.part_lines.result _ c.args.rows
    (rows_counted c.args.rows c.args.cols c.self.inside.showing) c.part_lines.ensures
