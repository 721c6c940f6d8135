use Rattle.std.proofs.Common.{◌≡◌, ◌≤◌, ◌+◌, Bool, Ok, length, map, take, true}
use Rattle.std.specs.Prelude.{option_map}
use Rattle.std.specs.List.{All}
use Rattle.disk_model.specs.Looking.{OnlyLooks}
use Rattle.folder_letters.specs.Letters.{plain_letter}
use Rattle.maildir_folder.specs.Candidates.{IsCandidate, Rises, plain_file}
use Rattle.folder_core.specs.ListedSoFar.{ReadsLeft, store_of}
use Rattle.maildir_folder.proofs.Walking.{Walking}
use Rattle.maildir_folder.proofs.walk.take_all.Given as goal

abbrev pub invariant-loop-left : goal.invariant-loop-left
invariant-loop-left g l = record {
  each : All IsCandidate l.left;
  rises : Rises (option_map (λ r. r.now) l.last) (map plain_file l.left);
  room : l.so_far.count + length l.left ≤ length l.files;
  few : l.so_far.fresh ≤ l.so_far.count;
  front : take (length l.initial.archive.items) l.archive.items ≡ l.initial.archive.items;
  only : OnlyLooks ((goal.Disk-dyn g l.initial.disk.now).seen l.initial.disk.now.1)
      ((goal.Disk-dyn g l.disk.now).seen l.disk.now.1);
  reads : ReadsLeft {A = Bool} (Ok true) l.initial.so_far.bytes l.so_far.bytes
      ((goal.Disk-dyn g l.initial.disk.now).seen l.initial.disk.now.1).bytes_read
      ((goal.Disk-dyn g l.disk.now).seen l.disk.now.1).bytes_read;
  walked : Walking (map plain_letter l.initial.archive.items) l.known (map plain_file l.files)
      (map plain_file l.left) (option_map (λ r. r.now) l.last)
      (store_of l.initial.so_far l.initial.archive.items) (store_of l.so_far l.archive.items)
      ((goal.Disk-dyn g l.initial.disk.now).seen l.initial.disk.now.1)
      ((goal.Disk-dyn g l.disk.now).seen l.disk.now.1);
}

abbrev pub decreases-loop-left : goal.decreases-loop-left
decreases-loop-left g l = length l.left
