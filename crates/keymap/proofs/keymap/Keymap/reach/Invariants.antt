use Rattle.std.proofs.Common.{◌≡◌, length}
use Rattle.keymap.specs.Press.{reached}
use Rattle.keymap.specs.Walk.{IsWithin, waiting_on}
use Rattle.keymap.proofs.keymap.Keymap.reach.Given as goal

abbrev pub invariant-loop-key : goal.invariant-loop-key
invariant-loop-key l = record {
  reached : reached l.self l.menu l.walk.begun.items (waiting_on l.walk l.queue)
      ≡ reached l.self l.menu l.initial.walk.begun.items (waiting_on l.initial.walk l.queue);
  kept : IsWithin l.initial.walk l.walk l.queue;
}

abbrev pub decreases-loop-key : goal.decreases-loop-key
decreases-loop-key l = length (waiting_on l.walk l.queue)
