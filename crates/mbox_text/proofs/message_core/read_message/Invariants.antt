use Rattle.std.proofs.Common.{◌≡◌, ◌∷◌, ◌++◌, length}
use Rattle.std.specs.List.{concat}
use Rattle.bstr.specs.Text.{lines_of}
use Rattle.mail_base.specs.Lines.{behind_first, fields_of, header_block}
use Rattle.folder_core.specs.Mbox.{kept_lines, told_flags, without_separator}
use Rattle.mbox_text.specs.MessageCore.{kept_from}
use Rattle.mbox_text.specs.Status.{drops, told_by}
use Rattle.mbox_text.proofs.message_core.read_message.Given as goal

abbrev pub invariant-loop-line : goal.invariant-loop-line
invariant-loop-line l = record {
  core : l.core.items ++ concat (without_separator (l.last ∷ kept_from (drops l.told) l.lines))
      ≡ concat (without_separator (kept_lines (lines_of l.fn.region)));
  told : told_by l.told (header_block l.lines)
      ≡ told_flags (fields_of (header_block (behind_first (lines_of l.fn.region))));
  left : lines_of l.left ≡ l.lines;
}

abbrev pub decreases-loop-line : goal.decreases-loop-line
decreases-loop-line l = length l.lines
