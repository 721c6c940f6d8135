use Rattle.std.proofs.Common.{◌≡◌, length}
use Rattle.std.specs.List.{list_any}
use Rattle.patterns_match.specs.Kept.{lines_in}
use Rattle.patterns_match.specs.Sought.{sought_found}
use Rattle.patterns_match.proofs.body.any_decoded.Given as goal

-- it is found in what is left or nowhere
abbrev pub invariant-loop-left : goal.invariant-loop-left
invariant-loop-left l =
    list_any (list_any (sought_found l.sought)) (lines_in l.left)
    ≡ list_any (list_any (sought_found l.sought)) (lines_in l.decoded)

abbrev pub decreases-loop-left : goal.decreases-loop-left
decreases-loop-left l = length l.left
