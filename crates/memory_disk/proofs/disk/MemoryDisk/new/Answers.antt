use Rattle.std.proofs.Common.{◌∙◌, ap, map}
use Rattle.disk_model.specs.Node.{plain_node}
use Rattle.disk_model.specs.Tree.{is_first_tree}
use Rattle.disk_model.proofs.First.{is_first_tree-stamped}
use Rattle.disk_state.specs.Plain.{plain_action, plain_entry}
use Rattle.memory_disk.proofs.Sounds.{sound_first}
use Rattle.memory_disk.proofs.disk.MemoryDisk.new.Goals as goal

pub invariant_of-result : goal.invariant_of-result
invariant_of-result c =
    sound_first
    (ap is_first_tree c.in_ok-first.ensures.tree
    ∙ is_first_tree-stamped (map plain_node c.as_slice.result.now) 1
    (rw (← c.as_slice.ensures) at c.requires))
    c.in_ok-first.ensures.clock
    c.in_ok-state.ensures
    c.in_ok-first.ensures.small
    (ap (map plain_entry) c.new-2.ensures.items)
    (ap (map plain_action) c.new-3.ensures.items)
