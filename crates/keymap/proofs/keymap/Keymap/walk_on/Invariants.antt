use Rattle.std.proofs.Common.{◌≡◌, ◌≤◌, ◌-◌, length}
use Rattle.keymap.specs.Press.{pressed}
use Rattle.keymap.specs.Walk.{waiting_on}
use Rattle.keymap.specs.Queue.{most_replacements}
use Rattle.keymap.proofs.keymap.Keymap.walk_on.Given as goal

abbrev pub invariant-loop-turn : goal.invariant-loop-turn
invariant-loop-turn l = record {
  pressed : pressed l.self l.menu (most_replacements - l._turn) l._turn l.walk.begun.items
      (waiting_on l.walk l.queue)
      ≡ pressed l.self l.menu (most_replacements - l.initial.walk.ahead.replaced)
      l.initial.walk.ahead.replaced
      l.initial.walk.begun.items (waiting_on l.initial.walk l.queue);
  turn : l.walk.ahead.replaced ≡ l._turn;
  within : l._turn ≤ most_replacements;
  taken : l.walk.taken ≤ length l.queue.items;
}
