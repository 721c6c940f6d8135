use Rattle.std.proofs.Common.{◌≡◌, drop}
use Rattle.keymap.proofs.key_reader.drop_front.Given as goal

abbrev pub invariant-loop-byte : goal.invariant-loop-byte
invariant-loop-byte l = l.pending.items ≡ drop l._byte l.initial.pending.items
