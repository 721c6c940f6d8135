use Rattle.std.proofs.Common.{◌≡◌, ◌++◌, map, take}
use Rattle.mail_base.specs.Series.{plain_texts}
use Rattle.pager.proofs.pager.copy_lines.Given as goal

abbrev pub invariant-loop-line : goal.invariant-loop-line
invariant-loop-line l =
    plain_texts l.copies
    ≡ plain_texts l.initial.copies ++ map (λ line. line.items) (take l.line-index l.lines)
