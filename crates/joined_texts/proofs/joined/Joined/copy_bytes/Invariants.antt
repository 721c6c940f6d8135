use Rattle.std.proofs.Common.{◌≡◌, ◌++◌, length}
use Rattle.joined_texts.specs.Joined.{joined}
use Rattle.joined_texts.proofs.joined.Joined.copy_bytes.Given as goal

abbrev pub invariant-loop-byte : goal.invariant-loop-byte
invariant-loop-byte l = l.text.items ++ joined l.left ≡ joined l.fn.self

abbrev pub decreases-loop-byte : goal.decreases-loop-byte
decreases-loop-byte l = length (joined l.left)
