-- Lists among persons.
use Rattle.std.proofs.Common.{◌≡◌, ◌++◌, refl, Bool, true, false, List, [], ◌∷◌, ℕ}
use Rattle.std.specs.Prelude.{Option, Some, None, find, option_map, if◌then◌else◌}
use Rattle.headers.specs.Person.{PlainPerson}
use Rattle.people.specs.People.{PlainPeople, is_in}
use Rattle.people.specs.declared.people.PeopleTable.TheVariants.{Subscribed}
use Rattle.index_rows.specs.Ties.{list_among}

-- what is there, or else another
abbrev or_other : Option (List ℕ) → Option (List ℕ) → Option (List ℕ)
or_other None other = other
or_other (Some x) other = Some x

-- a first person, who is the one or not
first_of : (b : Bool) (p : PlainPerson) (all front : Option PlainPerson) (other : Option (List ℕ))
    → option_map (λ p. p.address) all ≡ or_other (option_map (λ p. p.address) front) other
    → option_map (λ p. p.address) (if b then Some p else all)
    ≡ or_other (option_map (λ p. p.address) (if b then Some p else front)) other
first_of true p all front other e = refl
first_of false p all front other e = e

-- the first of two lists of persons goes before the second
pub among_both : (people : PlainPeople) (to cc : List PlainPerson)
    → list_among people (to ++ cc) ≡ or_other (list_among people to) (list_among people cc)
among_both people [] cc = refl
among_both people (p ∷ to) cc =
    let is_list : PlainPerson → Bool = λ p. is_in people Subscribed p.address in
    first_of (is_list p) p (find is_list (to ++ cc)) (find is_list to) (list_among people cc)
    (among_both people to cc)
