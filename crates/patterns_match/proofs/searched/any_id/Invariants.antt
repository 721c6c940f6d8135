use Rattle.std.proofs.Common.{◌≡◌, length}
use Rattle.std.specs.List.{list_any}
use Rattle.headers.specs.Ids.{ids}
use Rattle.joined_texts.specs.Joined.{whole}
use Rattle.patterns_match.specs.Sought.{sought_found}
use Rattle.patterns_match.proofs.searched.any_id.Given as goal

-- it is found in what is left or nowhere
abbrev pub invariant-loop-id : goal.invariant-loop-id
invariant-loop-id l =
    list_any (sought_found l.fn.sought) (ids (whole l.left))
    ≡ list_any (sought_found l.fn.sought) (ids (whole l.fn.text))

abbrev pub decreases-loop-id : goal.decreases-loop-id
decreases-loop-id l = length (whole l.left)
