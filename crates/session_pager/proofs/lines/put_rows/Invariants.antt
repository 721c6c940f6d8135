use Rattle.std.proofs.Common.{◌≡◌, ◌++◌, map}
use Rattle.std.specs.List.{range_with_len}
use Rattle.mail_base.specs.Series.{plain_texts}
use Rattle.session_pager.specs.Lines.{row_line}
use Rattle.session_pager.proofs.lines.put_rows.Given as goal

abbrev pub invariant-loop-line : goal.invariant-loop-line
invariant-loop-line l =
    plain_texts l.lines ≡ plain_texts l.initial.lines
    ++ map (row_line l.cols l.cursor (map (λ row. row.items) l.rows)) (range_with_len 0 l.line)
