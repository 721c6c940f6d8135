use Rattle.std.proofs.Common.{◌≡◌, ◌≤◌, ◌+◌, ◌++◌}
use Rattle.std.specs.VecDeque.{deque_len, deque_capacity}
use Rattle.keymap.proofs.key_queue.KeyQueue.move_before.Given as goal

abbrev pub invariant-loop-key : goal.invariant-loop-key
invariant-loop-key l = record {
  items : l.ahead-inside.keys.items ++ l.self-inside.keys.items
      ≡ l.initial.ahead-inside.keys.items ++ l.initial.self-inside.keys.items;
  room : deque_len l.self-inside.keys + deque_len l.ahead-inside.keys ≤ deque_capacity
      l.self-inside.keys;
  replaced : l.self-inside.replaced ≡ l.initial.self-inside.replaced;
}

abbrev pub decreases-loop-key : goal.decreases-loop-key
decreases-loop-key l = deque_len l.ahead-inside.keys
