-- What a message is to its reader.
use Rattle.std.specs.Prelude.{◌++◌, ℕ, Bool, List, Option, find, option_map}
use Rattle.headers.specs.Header.{PlainHeader}
use Rattle.headers.specs.Person.{PlainPerson}
use Rattle.people.specs.People.{PlainPeople, any_in, first_person, is_in, to_char}
use Rattle.people.specs.declared.people.PeopleTable.TheVariants.{Subscribed, Mine}
use Rattle.index_rows.specs.declared.ties.Ties.{Ties}

-- a place in `to_chars`, whether the reader is the author, and the list to which it was sent
pub record PlainTies : Type 0 where
  pub place : ℕ
  pub from_reader : Bool
  pub list : Option (List ℕ)

-- the first address of some persons that is a list to which the reader subscribes
abbrev pub list_among : PlainPeople → List PlainPerson → Option (List ℕ)
list_among people persons =
    option_map (λ p. p.address) (find (λ p. is_in people Subscribed p.address) persons)

-- the same of those to whom a message was sent
abbrev pub list_of : PlainPeople → PlainHeader → Option (List ℕ)
list_of people header = list_among people (header.to ++ header.cc)

-- the first author is the reader
abbrev pub is_from_reader : PlainPeople → PlainHeader → Bool
is_from_reader people header = any_in people Mine (first_person header.authors)

-- what the tables of people tell of a message
abbrev pub ties_of : PlainPeople → PlainHeader → PlainTies
ties_of people header = record {
  place = to_char people header;
  from_reader = is_from_reader people header;
  list = list_of people header;
}

-- ties without the room of their list
abbrev pub plain_ties : Ties → PlainTies
plain_ties t = record {
  place = t.place;
  from_reader = t.from_reader;
  list = option_map (λ address. address.items) t.list;
}
