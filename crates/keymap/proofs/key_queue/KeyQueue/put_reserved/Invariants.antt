use Rattle.std.proofs.Common.{◌≡◌, ◌≤◌, ◌+◌, ◌++◌, length}
use Rattle.std.specs.VecDeque.{deque_len, deque_capacity}
use Rattle.keymap.proofs.key_queue.KeyQueue.put_reserved.Given as goal

abbrev pub invariant-loop-last : goal.invariant-loop-last
invariant-loop-last l = record {
  items : l.left ++ l.self-inside.keys.items ≡ l.keys ++ l.initial.self-inside.keys.items;
  room : deque_len l.self-inside.keys + length l.left ≤ deque_capacity l.self-inside.keys;
  replaced : l.self-inside.replaced ≡ l.initial.self-inside.replaced;
}

abbrev pub decreases-loop-last : goal.decreases-loop-last
decreases-loop-last l = length l.left
