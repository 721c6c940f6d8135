use Rattle.std.proofs.Common.{◌≡◌, true, length}
use Rattle.std.specs.List.{list_all}
use Rattle.mail_base.specs.Series.{plain_texts}
use Rattle.drafts.specs.PlainDraft.{is_text}
use Rattle.drafts.specs.Reading.{read_lines}
use Rattle.drafts.proofs.LoopLemmas.{Left}
use Rattle.drafts.proofs.reader.read_lines.Given as goal

abbrev pub invariant-loop-left : goal.invariant-loop-left
invariant-loop-left l = record {
  left : Left l.left (plain_texts l.lines) (read_lines l.fn.text);
  texts : list_all is_text (plain_texts l.lines) ≡ true;
}

abbrev pub decreases-loop-left : goal.decreases-loop-left
decreases-loop-left l = length l.left
