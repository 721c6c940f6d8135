use Rattle.std.proofs.Common.{◌≡◌, ◌++◌, replicate}
use Rattle.mail_base.proofs.shown.push_marks.Given as goal

abbrev pub invariant-loop-i : goal.invariant-loop-i
invariant-loop-i l = l.line.items ≡ l.initial.line.items ++ replicate l._i 63
