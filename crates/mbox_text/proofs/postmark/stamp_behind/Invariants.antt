use Rattle.std.proofs.Common.{◌≡◌, length}
use Rattle.folder_core.specs.Mbox.{stamp_behind}
use Rattle.mbox_text.proofs.postmark.stamp_behind.Given as goal

abbrev pub invariant-loop-rest : goal.invariant-loop-rest
invariant-loop-rest l = stamp_behind l.left ≡ stamp_behind l.text

abbrev pub decreases-loop-rest : goal.decreases-loop-rest
decreases-loop-rest l = length l.left
