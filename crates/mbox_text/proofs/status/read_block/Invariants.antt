use Rattle.std.proofs.Common.{◌≡◌}
use Rattle.bstr.specs.Text.{lines_of}
use Rattle.mail_base.specs.Lines.{behind_first, fields_of, header_block}
use Rattle.folder_core.specs.Mbox.{told_flags}
use Rattle.mbox_text.specs.Status.{told_by}
use Rattle.mbox_text.proofs.status.read_block.Given as goal

abbrev pub invariant-loop-line : goal.invariant-loop-line
invariant-loop-line l =
    told_by l.told (header_block l.line-iterator)
    ≡ told_flags (fields_of (header_block (behind_first (lines_of l.fn.region))))
