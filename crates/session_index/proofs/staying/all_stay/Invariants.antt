use Rattle.std.proofs.Common.{◌≡◌, length, true}
use Rattle.std.specs.List.{list_all}
use Rattle.patterns_match.specs.Asked.{asked_operations}
use Rattle.patterns_match.specs.Leaves.{passes}
use Rattle.index_view.specs.Staying.{leaf_stays}
use Rattle.session_index.specs.Touched.{plain_touched}
use Rattle.session_index.proofs.staying.all_stay.Given as goal

-- what is left tells whether all stay
abbrev pub invariant-loop-left : goal.invariant-loop-left
invariant-loop-left l =
    list_all (passes (leaf_stays (plain_touched l.touched)) true) (asked_operations l.left)
    ≡ list_all (passes (leaf_stays (plain_touched l.touched)) true) (asked_operations l.operations)

abbrev pub decreases-loop-left : goal.decreases-loop-left
decreases-loop-left l = length l.left
