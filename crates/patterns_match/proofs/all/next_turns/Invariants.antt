use Rattle.std.proofs.Common.{◌≡◌, length}
use Rattle.patterns_match.specs.All.{AreNext}
use Rattle.patterns_match.specs.Asked.{plain_asked}
use Rattle.patterns_match.specs.Operations.{operation_map}
use Rattle.patterns_match.proofs.all.next_turns.Given as goal

-- the operation was done for the messages so far
abbrev pub invariant-loop-place : goal.invariant-loop-place
invariant-loop-place g l = record {
  long : length l.next.items ≡ l.place;
  next : AreNext l.fn.people l.fn.offset (g.T.Table.messages l.table)
      (operation_map plain_asked l.operation) l.found l.turns l.next.items l.place;
  same : l.people ≡ l.fn.people;
}
