use Rattle.std.proofs.Common.{◌≡◌, ◌+◌, ◌*◌, ◌<◌, ◌≤◌, ◌&&◌, ℕ, true, false, length}
use Rattle.patterns_match.specs.Asked.{asked_operations, asked_tree}
use Rattle.patterns_match.specs.Kept.{IsKeptAt}
use Rattle.patterns_match.specs.Machine.{AreFramed, are_free, in_order}
use Rattle.patterns_match.specs.Satisfies.{are_related, satisfies}
use Rattle.patterns_match.proofs.asking.+asking.Given as goal

abbrev pub decreases-answer : goal.decreases-answer
decreases-answer g l = 3 * length l.operations.now

abbrev pub decreases-some_related : goal.decreases-some_related
decreases-some_related g l = 3 * length l.operations.now + 1

abbrev pub decreases-step : goal.decreases-step
decreases-step g l = 3 * length l.rest.now + 2

-- what is left gives the answer
abbrev pub invariant-answer-loop-left : goal.invariant-answer-loop-left
invariant-answer-loop-left g l = record {
  value : in_order l.fn.people l.fn.offset (g.T.Table.messages l.table) l.place l.held
      (asked_operations l.left)
      ≡ satisfies l.fn.people l.fn.offset (g.T.Table.messages l.table)
      (asked_tree l.operations) l.place;
  framed : AreFramed (asked_operations l.left);
  free : are_free (asked_operations l.operations) ≡ true
      → are_free (asked_operations l.left) ≡ true;
  within : length l.left ≤ length l.operations;
  kept : IsKeptAt (g.T.Table.messages l.table) l.place l.kept;
  same : l.people ≡ l.fn.people;
}

abbrev pub decreases-answer-loop-left : goal.decreases-answer-loop-left
decreases-answer-loop-left g l = length l.left

-- no message so far is so related and satisfies the pattern
abbrev pub invariant-some_related-loop-other : goal.invariant-some_related-loop-other
invariant-some_related-loop-other g l = record {
  none : (k : ℕ) → k < l.other
      → (are_related (g.T.Table.messages l.table) l.relation l.place k
      && satisfies l.fn.people l.fn.offset (g.T.Table.messages l.table)
      (asked_tree l.operations) k) ≡ false;
  same : l.people ≡ l.fn.people;
}
