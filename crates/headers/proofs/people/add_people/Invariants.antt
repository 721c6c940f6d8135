use Rattle.std.proofs.Common.{◌≡◌, ◌++◌, length, map, option_to_list}
use Rattle.std.specs.List.{flat_map, slice_split}
use Rattle.headers.specs.AddressByte.{has}
use Rattle.headers.specs.declared.address_byte.Role.TheVariants.{Separator}
use Rattle.headers.specs.People.{people, person_in}
use Rattle.headers.specs.Person.{plain_person}
use Rattle.headers.proofs.people.add_people.Given as goal

abbrev pub invariant-loop-piece : goal.invariant-loop-piece
invariant-loop-piece l =
    map plain_person l.persons.items
    ++ flat_map (λ piece. option_to_list (person_in piece)) (slice_split (has Separator) l.left)
    ≡ map plain_person l.initial.persons.items ++ people l.value

abbrev pub decreases-loop-piece : goal.decreases-loop-piece
decreases-loop-piece l = length l.left
