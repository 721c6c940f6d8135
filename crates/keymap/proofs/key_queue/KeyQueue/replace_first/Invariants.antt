use Rattle.std.proofs.Common.{◌≡◌, drop}
use Rattle.std.specs.VecDeque.{deque_capacity}
use Rattle.keymap.proofs.key_queue.KeyQueue.replace_first.Given as goal

abbrev pub invariant-loop-key : goal.invariant-loop-key
invariant-loop-key l = record {
  items : l.self-inside.keys.items ≡ drop l._key l.initial.self-inside.keys.items;
  room : deque_capacity l.self-inside.keys ≡ deque_capacity l.initial.self-inside.keys;
  replaced : l.self-inside.replaced ≡ l.initial.self-inside.replaced;
}
