use Rattle.std.proofs.Common.{◌≡◌, ◌++◌, length, map}
use Rattle.headers.specs.Field.{plain_field}
use Rattle.headers.specs.FoldedField.{plain_folded}
use Rattle.headers.proofs.fields.copies_of.Given as goal

abbrev pub invariant-loop-left : goal.invariant-loop-left
invariant-loop-left l =
    map plain_field l.copies.items ++ map plain_folded l.left ≡ map plain_folded l.fn.fields

abbrev pub decreases-loop-left : goal.decreases-loop-left
decreases-loop-left l = length l.left
