use Rattle.std.proofs.Common.{◌≡◌, ◌≤◌, ◌*◌, ◌+ℤ◌, ◌-ℤ◌, ◌≤ℤ◌, pos, neg_ℤ, length}
use Rattle.patterns_match.specs.ScoreEntries.{held_entries}
use Rattle.patterns_match.specs.Scores.{counts, total}
use Rattle.patterns_match.proofs.scores.total.Given as goal

-- the sum and that of what is left
abbrev pub invariant-loop-first : goal.invariant-loop-first
invariant-loop-first g l = record {
  value : total (counts l.fn.people (g.T.Table.messages l.table) l.place) l.sum
      (held_entries l.left)
      ≡ total (counts l.fn.people (g.T.Table.messages l.table) l.place) (pos 0)
      (held_entries l.entries);
  within : length l.left ≤ 4_096;
  low : neg_ℤ (pos 4_096_000_000) ≤ℤ (l.sum -ℤ pos (1_000_000 * length l.left));
  high : (l.sum +ℤ pos (1_000_000 * length l.left)) ≤ℤ pos 4_096_000_000;
  same : l.people ≡ l.fn.people;
}

abbrev pub decreases-loop-first : goal.decreases-loop-first
decreases-loop-first g l = length l.left
