use Rattle.std.proofs.Common.{◌≡◌, ◌≤◌, length}
use Rattle.std.specs.List.{concat}
use Rattle.mail_base.specs.Lines.{fields_of, header_block, message_fields}
use Rattle.headers.proofs.folded_field.FoldedField.next.Given as goal

abbrev pub invariant-loop-line : goal.invariant-loop-line
invariant-loop-line l = record {
  fields : fields_of (header_block l.lines) ≡ message_fields l.fn.text;
  within : length (concat l.lines) ≤ length l.fn.text;
}

abbrev pub decreases-loop-line : goal.decreases-loop-line
decreases-loop-line l = length l.lines
