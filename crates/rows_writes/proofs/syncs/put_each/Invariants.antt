use Rattle.std.proofs.Common.{map}
use Rattle.folder_core.specs.Right.{Right}
use Rattle.folder_letters.specs.Letters.{plain_letter}
use Rattle.rows_writes.proofs.syncs.put_each.Given as goal

-- what is known of the folder is right
abbrev pub invariant-loop-entry : goal.invariant-loop-entry
invariant-loop-entry g l =
    Right l.kind (map plain_letter l.archive.items) l.known
    ((goal.Disk-dyn g (l.dev.disk.vtable, l.dev.disk.value)).seen l.dev.disk.value).told
