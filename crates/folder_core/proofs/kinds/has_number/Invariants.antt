use Rattle.std.proofs.Common.{length, map}
use Rattle.disk_model.specs.Answers.{AreText}
use Rattle.disk_model.specs.Judge.{GoesOn}
use Rattle.disk_model.specs.Looking.{OnlyLooks}
use Rattle.folder_core.proofs.KindsLemmas.{LeftOf}
use Rattle.folder_core.proofs.kinds.has_number.Given as goal

abbrev pub invariant-loop-left : goal.invariant-loop-left
invariant-loop-left g l = record {
  text : AreText l.left;
  only : OnlyLooks ((goal.Disk-dyn g l.initial.disk.now).seen l.initial.disk.now.1)
      ((goal.Disk-dyn g l.disk.now).seen l.disk.now.1);
  rest : GoesOn (LeftOf (map (λ name. name.items) l.names) (map (λ name. name.items) l.left) l.path)
      ((goal.Disk-dyn g l.initial.disk.now).seen l.initial.disk.now.1).told
      ((goal.Disk-dyn g l.disk.now).seen l.disk.now.1).told;
}

abbrev pub decreases-loop-left : goal.decreases-loop-left
decreases-loop-left g l = length l.left
