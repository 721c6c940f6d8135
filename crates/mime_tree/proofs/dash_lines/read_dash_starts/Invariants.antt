use Rattle.std.proofs.Common.{◌≡◌, ◌+◌, ◌≤◌, ◌++◌, length}
use Rattle.std.specs.List.{concat}
use Rattle.bstr.specs.Text.{lines_of}
use Rattle.mime_tree.specs.DashLines.{dash_starts}
use Rattle.mime_tree.proofs.dash_lines.read_dash_starts.Given as goal

abbrev pub invariant-loop-line : goal.invariant-loop-line
invariant-loop-line l = record {
  within : l.start + length (concat l.line-iterator) ≤ length l.fn.raw;
  same : l.found.items ++ dash_starts l.start l.line-iterator ≡ dash_starts 0 (lines_of l.fn.raw);
}
