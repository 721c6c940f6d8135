use Rattle.std.proofs.Common.{◌≡◌, map, length}
use Rattle.disk_model.specs.Names.{more_names, names_in}
use Rattle.disk_model.specs.State.{node_of, tree_of}
use Rattle.disk_state.specs.Plain.{plain_file, plain_name, plain_names, plain_state}
use Rattle.disk_state.proofs.state.State.names_in.Given as goal

abbrev pub invariant-loop-left : goal.invariant-loop-left
invariant-loop-left l =
    more_names (plain_names l.found.items) l.dir
    (map (λ name. node_of (map plain_file l.self.files.items) name.path name.file)
    (map plain_name l.left))
    ≡ names_in (tree_of (plain_state l.self)) l.dir

abbrev pub decreases-loop-left : goal.decreases-loop-left
decreases-loop-left l = length l.left
