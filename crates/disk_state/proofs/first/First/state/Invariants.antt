use Rattle.std.proofs.Common.{◌≡◌, ◌++◌, map, length}
use Rattle.disk_model.specs.State.{first_files, first_names}
use Rattle.disk_state.specs.Plain.{plain_file, plain_first, plain_kept, plain_name}
use Rattle.disk_state.proofs.first.First.state.Given as goal

abbrev pub invariant-loop-left : goal.invariant-loop-left
invariant-loop-left l = record {
  names :
      map plain_name l.names.items ++ first_names (length l.files.items) (map plain_kept l.left)
      ≡ first_names 0 (plain_first l.self);
  files :
      map plain_file l.files.items ++ first_files (map plain_kept l.left)
      ≡ first_files (plain_first l.self);
}

abbrev pub decreases-loop-left : goal.decreases-loop-left
decreases-loop-left l = length l.left
