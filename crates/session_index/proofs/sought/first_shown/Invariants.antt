use Rattle.std.proofs.Common.{◌≡◌, find, length}
use Rattle.session_index.specs.Shown.{shows}
use Rattle.session_index.proofs.sought.first_shown.Given as goal

abbrev pub invariant-loop-left : goal.invariant-loop-left
invariant-loop-left l =
    find (shows l.sought l.view.answers) l.left ≡ find (shows l.sought l.view.answers) l.ids

abbrev pub decreases-loop-left : goal.decreases-loop-left
decreases-loop-left l = length l.left
