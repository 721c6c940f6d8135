-- The tables of people, aliases, and what they tell of addresses and headers.
use Rattle.std.specs.Prelude.{◌+◌, ◌++◌, ◌==◌, ℕ, Bool, List, [], ◌∷◌, Option, length, find}
use Rattle.std.specs.Prelude.{◌-◌, option_map, take, Vec}
use Rattle.std.specs.Prelude.{if◌then◌else◌}
use Rattle.std.specs.List.{list_any}
use Rattle.std.specs.Str.{bytes_eq}
use Rattle.std.specs.declared.alloc.Global.{Global}
use Rattle.mail_base.specs.Series.{Held}
use Rattle.headers.specs.Header.{PlainHeader}
use Rattle.headers.specs.Person.{PlainPerson}
use Rattle.people.specs.Expr.{finds}
use Rattle.people.specs.declared.people.PeopleTable.{PeopleTable}
use Rattle.people.specs.declared.people.PeopleTable.TheVariants.{Lists, Subscribed, Mine}

-- a name, and what it stands for
pub record Alias : Type 0 where
  pub name : List ℕ
  pub value : List ℕ

-- the alias of a name
abbrev pub alias : List ℕ → List ℕ → Alias
alias name value = record { name = name; value = value }

-- the expressions of each table, in order, and the aliases, each name once
pub record PlainPeople : Type 0 where
  pub lists : List (List ℕ)
  pub subscribed : List (List ℕ)
  pub mine : List (List ℕ)
  pub aliases : List Alias

-- empty tables, and no alias
abbrev pub no_people : PlainPeople
no_people = record { lists = []; subscribed = []; mine = []; aliases = [] }

-- the people with a further expression in a table
abbrev pub with_expr : PlainPeople → PeopleTable → List ℕ → PlainPeople
with_expr people Lists expr = record people { lists = people.lists ++ expr ∷ [] }
with_expr people Subscribed expr = record people { subscribed = people.subscribed ++ expr ∷ [] }
with_expr people Mine expr = record people { mine = people.mine ++ expr ∷ [] }

-- all of a list but its last element
abbrev pub but_last : {A : Type 0} → List A → List A
but_last xs = take (length xs - 1) xs

-- the people without the last expression of a table
abbrev pub without_last : PlainPeople → PeopleTable → PlainPeople
without_last people Lists = record people { lists = but_last people.lists }
without_last people Subscribed = record people { subscribed = but_last people.subscribed }
without_last people Mine = record people { mine = but_last people.mine }

-- the aliases with this one: where the name is there, in its place
abbrev pub with_alias : List Alias → List ℕ → List ℕ → List Alias
with_alias [] name value = alias name value ∷ []
with_alias (a ∷ aliases) name value =
    if bytes_eq name a.name then alias a.name value ∷ aliases
    else a ∷ with_alias aliases name value

-- what a name stands for
abbrev pub alias_of : List Alias → List ℕ → Option (List ℕ)
alias_of aliases name = option_map (λ a. a.value) (find (λ a. bytes_eq name a.name) aliases)

-- some expression is found in the text
abbrev pub any_finds : List (List ℕ) → List ℕ → Bool
any_finds exprs text = list_any (λ e. finds e text) exprs

-- the expressions of a table: whoever subscribes to a list knows it
abbrev pub exprs_of : PlainPeople → PeopleTable → List (List ℕ)
exprs_of people Lists = people.lists ++ people.subscribed
exprs_of people Subscribed = people.subscribed
exprs_of people Mine = people.mine

-- the address is in the table
abbrev pub is_in : PlainPeople → PeopleTable → List ℕ → Bool
is_in people table address = any_finds (exprs_of people table) address

-- the address of one of these persons is in the table
abbrev pub any_in : PlainPeople → PeopleTable → List PlainPerson → Bool
any_in people table persons = list_any (λ p. is_in people table p.address) persons

-- the first of some persons
abbrev pub first_person : List PlainPerson → List PlainPerson
first_person [] = []
first_person (p ∷ persons) = p ∷ []

-- the place in `to_chars` of what a message is to its reader
abbrev pub to_char : PlainPeople → PlainHeader → ℕ
to_char people header =
    if any_in people Mine (first_person header.authors) then 4
    else if any_in people Mine header.to then
    (if length header.to + length header.cc == 1 then 1 else 2)
    else if any_in people Mine header.cc then 3
    else if any_in people Subscribed (header.to ++ header.cc) then 5
    else 0

-- For the code alone.

-- an entry of the map of aliases
abbrev pub plain_alias : Vec ℕ Global × Held ℕ → Alias
plain_alias e = alias e.0.items e.1.items
