use Rattle.std.proofs.Common.{◌≡◌, map}
use Rattle.folder_core.specs.Right.{Right}
use Rattle.folder_letters.specs.Letters.{plain_letter}
use Rattle.rows_disk.proofs.scans.put_folder.Given as goal

-- what is known of the folder is right
abbrev pub invariant-loop-time : goal.invariant-loop-time
invariant-loop-time g l = record {
  kind : l.known.kind ≡ l.kind;
  right : Right l.kind (map plain_letter l.archive.items) l.known
      ((goal.Disk-dyn g (l.dev.disk.vtable, l.dev.disk.value)).seen l.dev.disk.value).told;
}
