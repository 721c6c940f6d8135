use Rattle.std.proofs.Common.{◌≡◌, length}
use Rattle.patterns_match.specs.ScoreEntries.{held_entries}
use Rattle.index_view.specs.Staying.{entries_stay}
use Rattle.session_index.proofs.staying.entries_stay.Given as goal

-- what is left tells whether all stay
abbrev pub invariant-loop-left : goal.invariant-loop-left
invariant-loop-left l =
    entries_stay (held_entries l.left) ≡ entries_stay (held_entries l.entries)

abbrev pub decreases-loop-left : goal.decreases-loop-left
decreases-loop-left l = length l.left
