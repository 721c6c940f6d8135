use Rattle.std.proofs.Common.{◌≡◌, ◌++◌, length}
use Rattle.std.specs.List.{concat}
use Rattle.bstr.specs.Text.{lines_of}
use Rattle.folder_core.specs.Mbox.{kept_lines}
use Rattle.mbox_text.specs.MessageCore.{kept_from}
use Rattle.mbox_text.specs.Status.{drops}
use Rattle.mbox_text.proofs.status_fields.kept_lines.Given as goal

abbrev pub invariant-loop-line : goal.invariant-loop-line
invariant-loop-line l = record {
  text : l.text.items ++ concat (kept_from (drops l.told) l.lines)
      ≡ concat (kept_lines (lines_of l.fn.region));
  left : lines_of l.left ≡ l.lines;
}

abbrev pub decreases-loop-line : goal.decreases-loop-line
decreases-loop-line l = length l.lines
