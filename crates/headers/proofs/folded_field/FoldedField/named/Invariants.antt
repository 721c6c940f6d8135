use Rattle.std.proofs.Common.{◌≡◌, length}
use Rattle.std.specs.List.{find}
use Rattle.mail_base.specs.Lines.{message_fields}
use Rattle.headers.specs.Values.{is_named}
use Rattle.headers.proofs.folded_field.FoldedField.named.Given as goal

-- it is the first in what is left
abbrev pub invariant-loop-field : goal.invariant-loop-field
invariant-loop-field l = find (is_named l.fn.name) (message_fields l.left)
    ≡ find (is_named l.fn.name) (message_fields l.fn.text)

abbrev pub decreases-loop-field : goal.decreases-loop-field
decreases-loop-field l = length l.left
