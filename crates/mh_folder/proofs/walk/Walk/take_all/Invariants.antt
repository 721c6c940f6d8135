use Rattle.std.proofs.Common.{◌≡◌, ◌≤◌, ◌+◌, Bool, Ok, length, take, true}
use Rattle.std.specs.List.{All}
use Rattle.disk_model.specs.Looking.{OnlyLooks}
use Rattle.folder_core.specs.ListedSoFar.{ReadsLeft}
use Rattle.mh_folder.specs.NumberedName.{IsNumbered, plain_names}
use Rattle.mh_folder.specs.Visit.{Course, IsCourse}
use Rattle.mh_folder.specs.Walk.{kept_of}
use Rattle.mh_folder.proofs.WalkLemmas.{Walking}
use Rattle.mh_folder.proofs.walk.Walk.take_all.Given as goal

abbrev pub invariant-loop-left : goal.invariant-loop-left
invariant-loop-left g l = record {
  each : All IsNumbered l.left;
  count : l.self.so_far.count + length l.left ≤ length l.files;
  fresh : l.self.so_far.fresh + length l.left ≤ length l.files;
  front : take (length l.initial.archive.items) l.archive.items ≡ l.initial.archive.items;
  only : OnlyLooks ((goal.Disk-dyn g l.initial.disk.now).seen l.initial.disk.now.1)
      ((goal.Disk-dyn g l.disk.now).seen l.disk.now.1);
  reads : ReadsLeft {A = Bool} (Ok true) l.initial.self.so_far.bytes l.self.so_far.bytes
      ((goal.Disk-dyn g l.initial.disk.now).seen l.initial.disk.now.1).bytes_read
      ((goal.Disk-dyn g l.disk.now).seen l.disk.now.1).bytes_read;
  walked : (course : Course) → IsCourse l.path l.visit
      ((goal.Disk-dyn g l.initial.disk.now).seen l.initial.disk.now.1).told course
      → Walking course (plain_names l.files) (plain_names l.left)
      (kept_of l.initial.self l.initial.archive.items) (kept_of l.self l.archive.items)
      ((goal.Disk-dyn g l.initial.disk.now).seen l.initial.disk.now.1).told
      ((goal.Disk-dyn g l.disk.now).seen l.disk.now.1).told;
}

abbrev pub decreases-loop-left : goal.decreases-loop-left
decreases-loop-left g l = length l.left
