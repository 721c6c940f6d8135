use Rattle.std.proofs.Common.{◌≡◌, ◌+◌, ◌≤◌, length}
use Rattle.std.specs.List.{concat}
use Rattle.mail_base.specs.Lines.{body_at, header_block}
use Rattle.mail_base.proofs.lines.body_at.Given as goal

abbrev pub invariant-loop-line : goal.invariant-loop-line
invariant-loop-line l = record {
  within : l.at + length (concat l.line-iterator) ≤ length l.fn.text;
  block : l.at + length (concat (header_block l.line-iterator)) ≡ body_at l.fn.text;
}
