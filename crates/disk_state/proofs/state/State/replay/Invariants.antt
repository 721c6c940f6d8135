use Rattle.std.proofs.Common.{◌≡◌, ◌+◌, ◌<◌, ◌^◌, map, length}
use Rattle.disk_model.specs.State.{run_entries}
use Rattle.disk_state.specs.Plain.{plain_entry, plain_state}
use Rattle.disk_state.proofs.state.State.replay.Given as goal

abbrev pub invariant-loop-left : goal.invariant-loop-left
invariant-loop-left l = record {
  state :
      run_entries (map plain_entry l.left) (plain_state l.self)
      ≡ run_entries (map plain_entry l.journal) (plain_state l.initial.self);
  clock : (plain_state l.self).clock + length l.left < 2 ^ 127;
}

abbrev pub decreases-loop-left : goal.decreases-loop-left
decreases-loop-left l = length l.left
