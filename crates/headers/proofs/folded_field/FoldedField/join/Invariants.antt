use Rattle.std.proofs.Common.{◌≡◌, ◌++◌, length}
use Rattle.headers.specs.FoldedField.{continued, plain_folded}
use Rattle.headers.proofs.folded_field.FoldedField.join.Given as goal

abbrev pub invariant-loop-more : goal.invariant-loop-more
invariant-loop-more l = l.text.items ++ continued l.left ≡ (plain_folded l.fn.self).value

abbrev pub decreases-loop-more : goal.decreases-loop-more
decreases-loop-more l = length l.left
