use Rattle.std.proofs.Common.{◌≡◌, ◌++◌, length, map}
use Rattle.headers.specs.FoldedField.{plain_folded}
use Rattle.headers.specs.Values.{persons}
use Rattle.headers.specs.Person.{plain_person}
use Rattle.headers.proofs.values.people_of.Given as goal

abbrev pub invariant-loop-left : goal.invariant-loop-left
invariant-loop-left l =
    map plain_person l.persons.items ++ persons l.name (map plain_folded l.left)
    ≡ persons l.name (map plain_folded l.fields)

abbrev pub decreases-loop-left : goal.decreases-loop-left
decreases-loop-left l = length l.left
