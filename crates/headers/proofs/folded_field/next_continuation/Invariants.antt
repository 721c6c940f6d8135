use Rattle.std.proofs.Common.{◌≡◌, ◌≤◌, length}
use Rattle.std.specs.List.{concat}
use Rattle.mail_base.specs.Lines.{continuations, header_block}
use Rattle.headers.specs.FoldedField.{more_lines}
use Rattle.headers.proofs.folded_field.next_continuation.Given as goal

abbrev pub invariant-loop-line : goal.invariant-loop-line
invariant-loop-line l = record {
  more : continuations (header_block l.lines) ≡ more_lines l.fn.text;
  within : length (concat l.lines) ≤ length l.fn.text;
}

abbrev pub decreases-loop-line : goal.decreases-loop-line
decreases-loop-line l = length l.lines
