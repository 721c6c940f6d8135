-- Persons of address fields, without the rooms of their lists.
use Rattle.std.specs.Prelude.{ℕ, List, map}
use Rattle.mail_base.specs.Series.{Held}
use Rattle.headers.specs.declared.person.Person.{Person}

-- a name and an address
pub record PlainPerson : Type 0 where
  pub name : List ℕ
  pub address : List ℕ

-- a person without the rooms of its texts
abbrev pub plain_person : Person → PlainPerson
plain_person p = record { name = p.name.items; address = p.address.items }

-- persons without the rooms of their texts
abbrev pub plain_persons : Held Person → List PlainPerson
plain_persons persons = map plain_person persons.items
