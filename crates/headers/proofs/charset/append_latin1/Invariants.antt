use Rattle.std.proofs.Common.{◌≡◌, ◌++◌, length}
use Rattle.std.specs.Str.{encode_utf8_all}
use Rattle.headers.proofs.charset.append_latin1.Given as goal

abbrev pub invariant-loop-left : goal.invariant-loop-left
invariant-loop-left l =
    l.line.items ++ encode_utf8_all l.left ≡ l.fn.line.items ++ encode_utf8_all l.fn.bytes

abbrev pub decreases-loop-left : goal.decreases-loop-left
decreases-loop-left l = length l.left
