use Rattle.std.proofs.Common.{◌≡◌, ◌≤◌}
use Rattle.keymap.specs.Reader.{Filled, most_bytes}
use Rattle.keymap.proofs.key_reader.KeyReader.fill.Given as goal

abbrev pub invariant-loop-turn : goal.invariant-loop-turn
invariant-loop-turn g l = record {
  filled : Filled l.initial.self l.self (g.K.Source.left l.initial.keys) (g.K.Source.left l.keys);
  turn : l.self.taken ≡ l._turn;
  within : l._turn ≤ most_bytes;
  later : g.K.Source.faults l.initial.keys ≤ g.K.Source.faults l.keys;
}
