use Rattle.std.proofs.Common.{◌≡◌, find, length, reverse}
use Rattle.session_index.specs.Shown.{shows}
use Rattle.session_index.proofs.sought.last_shown.Given as goal

abbrev pub invariant-loop-last : goal.invariant-loop-last
invariant-loop-last l = find (shows l.sought l.view.answers) (reverse l.left)
    ≡ find (shows l.sought l.view.answers) (reverse l.ids)

abbrev pub decreases-loop-last : goal.decreases-loop-last
decreases-loop-last l = length l.left
