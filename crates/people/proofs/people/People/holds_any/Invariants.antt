use Rattle.std.proofs.Common.{◌≡◌, false, take, map}
use Rattle.headers.specs.Person.{plain_person}
use Rattle.people.specs.People.{any_in}
use Rattle.people.proofs.people.People.holds_any.Given as goal

-- none of the persons so far is in the table
abbrev pub invariant-loop-person : goal.invariant-loop-person
invariant-loop-person l = any_in l.self l.table (map plain_person (take l.person-index l.persons))
    ≡ false
