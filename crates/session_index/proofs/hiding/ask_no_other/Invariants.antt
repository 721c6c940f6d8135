use Rattle.std.proofs.Common.{◌≡◌, false, length}
use Rattle.std.specs.List.{list_all}
use Rattle.patterns_match.specs.Asked.{asked_operations}
use Rattle.patterns_match.specs.Leaves.{passes}
use Rattle.session_index.specs.Hiding.{any_leaf}
use Rattle.session_index.proofs.hiding.ask_no_other.Given as goal

-- what is left tells whether none asks
abbrev pub invariant-loop-left : goal.invariant-loop-left
invariant-loop-left l =
    list_all (passes any_leaf false) (asked_operations l.left)
    ≡ list_all (passes any_leaf false) (asked_operations l.operations)

abbrev pub decreases-loop-left : goal.decreases-loop-left
decreases-loop-left l = length l.left
