use Rattle.std.proofs.Common.{◌≡◌, ◌++◌, length, map}
use Rattle.mail_base.specs.Lines.{message_fields}
use Rattle.headers.specs.FoldedField.{plain_folded}
use Rattle.headers.proofs.fields.folded_fields.Given as goal

abbrev pub invariant-loop-field : goal.invariant-loop-field
invariant-loop-field l =
    map plain_folded l.fields.items ++ message_fields l.left ≡ message_fields l.fn.raw

abbrev pub decreases-loop-field : goal.decreases-loop-field
decreases-loop-field l = length l.left
