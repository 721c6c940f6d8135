use Rattle.std.proofs.Common.{◌≡◌, ◌≤◌, ◌+◌, ◌*◌, length}
use Rattle.patterns_match.specs.All.{Lead}
use Rattle.patterns_match.specs.Asked.{asked_operations, asked_tree}
use Rattle.patterns_match.specs.Machine.{AreFramed}
use Rattle.patterns_match.proofs.all.+all.Given as goal

abbrev pub decreases-all_answers : goal.decreases-all_answers
decreases-all_answers g l = 2 * length l.operations.now

abbrev pub decreases-all_found : goal.decreases-all_found
decreases-all_found g l = 2 * length l.rest.now + 1

-- what is left leads each message's turn to its answer
abbrev pub invariant-all_answers-loop-left : goal.invariant-all_answers-loop-left
invariant-all_answers-loop-left g l = record {
  lead : Lead l.fn.people l.fn.offset (g.T.Table.messages l.table) (asked_tree l.operations)
      l.turns.items (asked_operations l.left);
  framed : AreFramed (asked_operations l.left);
  within : length l.left ≤ length l.operations;
  same : l.people ≡ l.fn.people;
}

abbrev pub decreases-all_answers-loop-left : goal.decreases-all_answers-loop-left
decreases-all_answers-loop-left g l = length l.left
