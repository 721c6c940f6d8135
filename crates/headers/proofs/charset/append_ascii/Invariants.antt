use Rattle.std.proofs.Common.{◌≡◌, ◌++◌, length}
use Rattle.headers.specs.Charset.{ascii_text}
use Rattle.headers.proofs.charset.append_ascii.Given as goal

abbrev pub invariant-loop-left : goal.invariant-loop-left
invariant-loop-left l = l.line.items ++ ascii_text l.left ≡ l.fn.line.items ++ ascii_text l.fn.bytes

abbrev pub decreases-loop-left : goal.decreases-loop-left
decreases-loop-left l = length l.left
