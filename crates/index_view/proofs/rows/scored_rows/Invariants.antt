use Rattle.std.proofs.Common.{◌≡◌, map}
use Rattle.std.specs.List.{range_with_len}
use Rattle.patterns_match.specs.ScoreEntries.{held_entries}
use Rattle.index_view.specs.Tables as spec
use Rattle.index_view.proofs.rows.scored_rows.Given as goal

abbrev pub invariant-loop-place : goal.invariant-loop-place
invariant-loop-place l = (l.scores ≡ l.initial.scores) × (l.people ≡ l.initial.people)
    × (l.all.items ≡ map (spec.scored_at l.initial.people
    (held_entries l.initial.scores.entries.items) (spec.seen_of l.messages) l.rows)
    (range_with_len 0 l.place))
