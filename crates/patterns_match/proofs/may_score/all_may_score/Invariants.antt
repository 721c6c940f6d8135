use Rattle.std.proofs.Common.{◌≡◌, false, length}
use Rattle.std.specs.List.{list_all}
use Rattle.patterns_match.specs.Asked.{asked_operations}
use Rattle.patterns_match.specs.Leaves.{leaf_may_score, passes}
use Rattle.patterns_match.proofs.may_score.all_may_score.Given as goal

-- what is left tells whether all may stand
abbrev pub invariant-loop-left : goal.invariant-loop-left
invariant-loop-left l =
    list_all (passes leaf_may_score false) (asked_operations l.left)
    ≡ list_all (passes leaf_may_score false) (asked_operations l.operations)

abbrev pub decreases-loop-left : goal.decreases-loop-left
decreases-loop-left l = length l.left
