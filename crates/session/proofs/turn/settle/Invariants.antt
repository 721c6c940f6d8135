use Rattle.std.proofs.Common.{◌≡◌, ◌+◌, ◌≤◌, List, length, map, nat_lt}
use Rattle.folder_letters.specs.Letters.{plain_letter}
use Rattle.patterns.specs.Causes.{Keeps}
use Rattle.people.specs.Judged.{PlainJudged}
use Rattle.session.specs.Core.{IsOver, ground_of, plain_core}
use Rattle.session.specs.Keys.{fuel, settled}
use Rattle.session.proofs.turn.settle.Given as goal

abbrev pub invariant-loop-waiting : goal.invariant-loop-waiting
invariant-loop-waiting g l = record {
  keeps : Keeps l.initial.verdicts.kept l.verdicts.kept;
  over : IsOver (map plain_letter l.archive.items) l.window l.core;
  went : (later : List PlainJudged) → Keeps l.verdicts.kept later
      → settled (ground_of (map plain_letter l.archive.items) later l.window l.moment.0)
      (plain_core l.core) l.queue
      ≡ settled (ground_of (map plain_letter l.archive.items) later l.window l.moment.0)
      (plain_core l.initial.core) l.initial.queue;
  waits : l.waiting ≡ nat_lt 0 (length (plain_core l.core).rules.put + length l.queue.items);
  few : l.queue.replaced ≤ 1024;
}

abbrev pub decreases-loop-waiting : goal.decreases-loop-waiting
decreases-loop-waiting g l = fuel l.queue
