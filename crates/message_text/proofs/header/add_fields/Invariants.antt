use Rattle.std.proofs.Common.{◌≡◌, ◌++◌, length, map}
use Rattle.mail_base.specs.Series.{plain_texts}
use Rattle.headers.specs.Field.{plain_field}
use Rattle.message_text.specs.Header.{field_line}
use Rattle.message_text.proofs.header.add_fields.Given as goal

-- the lines so far, and those of the fields that are left
abbrev pub invariant-loop-left : goal.invariant-loop-left
invariant-loop-left l =
    plain_texts l.lines ++ map field_line (map (λ f. plain_field f.now) l.left)
    ≡ plain_texts l.initial.lines ++ map field_line (map (λ f. plain_field f.now) l.fields)

abbrev pub decreases-loop-left : goal.decreases-loop-left
decreases-loop-left l = length l.left
