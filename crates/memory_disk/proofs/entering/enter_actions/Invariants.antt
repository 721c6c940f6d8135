use Rattle.std.proofs.Common.{◌≡◌, ◌+◌, ◌++◌, map, length, vec_len, vec_capacity}
use Rattle.disk_model.specs.Journal.{Others}
use Rattle.disk_state.specs.Plain.{plain_action, plain_entry}
use Rattle.memory_disk.proofs.entering.enter_actions.Given as goal

abbrev pub invariant-loop-action : goal.invariant-loop-action
invariant-loop-action l = record {
  entries :
      map plain_entry l.journal.items
      ≡ map plain_entry l.initial.journal.items ++ map Others (map plain_action l.yielded);
  room : vec_capacity l.journal ≡ vec_capacity l.initial.journal;
  length : vec_len l.journal ≡ vec_len l.initial.journal + length l.yielded;
}
