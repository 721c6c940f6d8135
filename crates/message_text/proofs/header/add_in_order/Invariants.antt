use Rattle.std.proofs.Common.{◌≡◌, ◌++◌, length, map}
use Rattle.mail_base.specs.Series.{plain_texts}
use Rattle.headers.specs.Field.{plain_field}
use Rattle.message_text.specs.Header.{field_line}
use Rattle.message_text.specs.Weeding.{in_order}
use Rattle.message_text.proofs.header.add_in_order.Given as goal

-- the lines so far, and those of the fields that are left by the names that are left
abbrev pub invariant-loop-left : goal.invariant-loop-left
invariant-loop-left l =
    plain_texts l.lines
    ++ map field_line
    (in_order (map (λ n. n.items) l.left) (map (λ f. plain_field f.now) l.fields.items))
    ≡ plain_texts l.initial.lines
    ++ map field_line
    (in_order (map (λ n. n.items) l.names) (map (λ f. plain_field f.now) l.initial.fields.items))

abbrev pub decreases-loop-left : goal.decreases-loop-left
decreases-loop-left l = length l.left
