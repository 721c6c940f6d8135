use Rattle.std.proofs.Common.{◌≡◌, length}
use Rattle.mbox_text.proofs.ChangingLemmas.{Behind}
use Rattle.folder_drivers.specs.MboxFront.{begin_with, cores}
use Rattle.mbox_writes.specs.Fronts.{cores_in}
use Rattle.mbox_writes.proofs.same_cores.cores_begin.Given as goal

-- what is left of both decides
abbrev pub invariant-loop-left : goal.invariant-loop-left
invariant-loop-left l = record {
  first : Behind (length l.known) l.left;
  behind : Behind (length l.bytes) l.there;
  same : begin_with (cores_in l.known l.left) (cores_in l.bytes l.there)
      ≡ begin_with (cores l.known) (cores l.bytes);
}

abbrev pub decreases-loop-left : goal.decreases-loop-left
decreases-loop-left l = length l.left
