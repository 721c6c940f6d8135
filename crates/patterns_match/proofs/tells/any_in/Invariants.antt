use Rattle.std.proofs.Common.{◌≡◌, map, length}
use Rattle.headers.specs.Person.{plain_person}
use Rattle.people.specs.People.{any_in}
use Rattle.patterns_match.proofs.tells.any_in.Given as goal

-- none so far is in the table
abbrev pub invariant-loop-left : goal.invariant-loop-left
invariant-loop-left l =
    (any_in l.people l.table (map plain_person l.left)
    ≡ any_in l.fn.people l.table (map plain_person l.persons)) × (l.people ≡ l.fn.people)

abbrev pub decreases-loop-left : goal.decreases-loop-left
decreases-loop-left l = length l.left
