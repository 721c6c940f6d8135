use Rattle.std.proofs.Common.{◌≡◌, length}
use Rattle.std.specs.List.{list_all}
use Rattle.index_view.specs.Answers.{is_open}
use Rattle.session_index.proofs.hiding.are_open.Given as goal

-- what is left tells whether all are open
abbrev pub invariant-loop-left : goal.invariant-loop-left
invariant-loop-left l =
    list_all (is_open l.view.answers) l.left ≡ list_all (is_open l.view.answers) l.ids

abbrev pub decreases-loop-left : goal.decreases-loop-left
decreases-loop-left l = length l.left
