use Rattle.std.proofs.Common.{◌≡◌, ◌++◌, length, map}
use Rattle.folder_letters.specs.Letters.{plain_letter}
use Rattle.mail_base.specs.Series.{plain_texts}
use Rattle.index_view.specs.Lines as spec
use Rattle.index_view.proofs.view.View.put_rows.Given as goal

abbrev pub invariant-loop-left : goal.invariant-loop-left
invariant-loop-left l = plain_texts l.lines
    ++ map (spec.marked_line (map plain_letter l.archive.items) l.self (spec.plain_style l.style)
    l.cols) l.left
    ≡ plain_texts l.initial.lines
    ++ map (spec.marked_line (map plain_letter l.archive.items) l.self (spec.plain_style l.style)
    l.cols) l.page

abbrev pub decreases-loop-left : goal.decreases-loop-left
decreases-loop-left l = length l.left
