use Rattle.std.proofs.Common.{◌≡◌, ◌++◌, length}
use Rattle.mail_base.specs.Shown.{utf8_text}
use Rattle.mail_base.proofs.shown.append_runs.Given as goal

abbrev pub invariant-loop-left : goal.invariant-loop-left
invariant-loop-left l = l.line.items ++ utf8_text l.left ≡ l.fn.line.items ++ utf8_text l.fn.bytes

abbrev pub decreases-loop-left : goal.decreases-loop-left
decreases-loop-left l = length l.left
