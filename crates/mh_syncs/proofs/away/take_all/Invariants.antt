use Rattle.std.proofs.Common.{Ok, length, map}
use Rattle.folder_letters.specs.Letters.{plain_letter}
use Rattle.index_items.specs.Changes.{AreBelow, plain_changes}
use Rattle.folder_changes.specs.Asked.{discarded}
use Rattle.folder_changes.specs.Serving.{Serves}
use Rattle.mh_syncs.proofs.Leaving.{AwaySoFar, HeldSoFar}
use Rattle.mh_syncs.proofs.Taking.{TakenSoFar}
use Rattle.mh_syncs.proofs.away.take_all.Given as goal

abbrev pub invariant-loop-left : goal.invariant-loop-left
invariant-loop-left g l = record {
  within : AreBelow (length l.archive) l.left;
  serves : Serves {A = Unit {0}} (Ok tt)
      ((goal.Disk-dyn g l.initial.disk.now).seen l.initial.disk.now.1)
      ((goal.Disk-dyn g l.disk.now).seen l.disk.now.1);
  so_far : AwaySoFar l.purge l.path (map plain_letter l.archive)
      (plain_changes l.changes) (plain_changes l.left)
      ((goal.Disk-dyn g l.initial.disk.now).seen l.initial.disk.now.1).told
      ((goal.Disk-dyn g l.disk.now).seen l.disk.now.1).told;
  holds : HeldSoFar l.path
      (discarded (map plain_letter l.archive) (plain_changes l.changes))
      (map plain_letter l.archive) (plain_changes l.left)
      ((goal.Disk-dyn g l.initial.disk.now).seen l.initial.disk.now.1).told
      ((goal.Disk-dyn g l.disk.now).seen l.disk.now.1).told;
  taken : TakenSoFar l.path (map plain_letter l.archive) (plain_changes l.left)
      ((goal.Disk-dyn g l.initial.disk.now).seen l.initial.disk.now.1).told
      ((goal.Disk-dyn g l.disk.now).seen l.disk.now.1).told;
}

abbrev pub decreases-loop-left : goal.decreases-loop-left
decreases-loop-left g l = length l.left
