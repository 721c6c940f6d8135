use Rattle.std.proofs.Common.{◌≡◌, ◌++◌, length}
use Rattle.std.specs.List.{filter}
use Rattle.session_index.specs.Meant.{tagged_of}
use Rattle.session_index.specs.Shown.{shows}
use Rattle.session_index.specs.declared.sought.Sought.TheVariants.{Tagged}
use Rattle.session_index.proofs.scope.tagged.Given as goal

abbrev pub invariant-loop-left : goal.invariant-loop-left
invariant-loop-left l =
    l.ids.items ++ filter (shows Tagged l.view.answers) l.left ≡ tagged_of l.view.answers

abbrev pub decreases-loop-left : goal.decreases-loop-left
decreases-loop-left l = length l.left
