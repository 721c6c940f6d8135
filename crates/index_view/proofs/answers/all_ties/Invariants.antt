use Rattle.std.proofs.Common.{◌≡◌, ◌++◌, length, map}
use Rattle.index_listed.specs.Listed.{plain_listed}
use Rattle.index_rows.specs.Ties.{plain_ties, ties_of}
use Rattle.index_view.proofs.answers.all_ties.Given as goal

abbrev pub invariant-loop-left : goal.invariant-loop-left
invariant-loop-left l = (l.people ≡ l.initial.people)
    × (map plain_ties l.all.items
    ++ map (λ m. ties_of l.people m.header) (map plain_listed l.left)
    ≡ map (λ m. ties_of l.people m.header) (map plain_listed l.listed))

abbrev pub decreases-loop-left : goal.decreases-loop-left
decreases-loop-left l = length l.left
