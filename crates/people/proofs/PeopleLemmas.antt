-- How aliases are kept in a table.
use Rattle.std.proofs.Common.{◌≡◌, ◌∙◌, ℕ, Bool, true, false, cond, List, [], ◌∷◌, Vec, Option}
use Rattle.std.proofs.Common.{Some, None, find, map}
use Rattle.std.proofs.Common.{option_map, refl, sym, ap, ◌||◌, ◌<◌, length, get_or}
use Rattle.std.proofs.lemmas.List.Folds.{list_any_at}
use Rattle.std.specs.Prelude.{if◌then◌else◌, option_copied}
use Rattle.std.specs.Borrow.{Bor}
use Rattle.std.specs.List.{list_any}
use Rattle.std.specs.Map.{lookup}
use Rattle.std.specs.Str.{bytes_eq}
use Rattle.std.specs.declared.alloc.Global.{Global}
use Rattle.indexmap.specs.IndexMap.{insert_entry}
use Rattle.mail_base.specs.Series.{Held}
use Rattle.headers.specs.Person.{PlainPerson, plain_person}
use Rattle.headers.specs.declared.person.Person.{Person}
use Rattle.people.specs.People.{PlainPeople, alias, alias_of, any_in, is_in, plain_alias}
use Rattle.people.specs.People.{with_alias}
use Rattle.people.specs.declared.people.PeopleTable.{PeopleTable}

-- how the table tells its names apart
abbrev pub same_name : Vec ℕ Global → Vec ℕ Global → Bool
same_name a b = bytes_eq a.items b.items

pub alias_entries : (entries : List (Vec ℕ Global × Held ℕ)) (k : Vec ℕ Global) (v : Held ℕ)
    → map plain_alias (insert_entry same_name entries k v)
    ≡ with_alias (map plain_alias entries) k.items v.items
alias_entries [] k v = refl
alias_entries (e ∷ entries) k v =
    elim (bytes_eq k.items e.0.items) as (λ b. map plain_alias
    (if b then (e.0, v) ∷ entries else e ∷ insert_entry same_name entries k v)
    ≡ (if b then alias e.0.items v.items ∷ map plain_alias entries
    else plain_alias e ∷ with_alias (map plain_alias entries) k.items v.items))
    [ true ↦ refl | false ↦ ap (λ l. plain_alias e ∷ l) (alias_entries entries k v) ]

pub alias_found : (entries : List (Vec ℕ Global × Held ℕ)) (name : List ℕ)
    → option_map (λ v. v.items) (lookup (λ k. bytes_eq name k.items) entries)
    ≡ alias_of (map plain_alias entries) name
alias_found [] name = refl
alias_found (e ∷ entries) name =
    elim (bytes_eq name e.0.items) as (λ b. option_map (λ v. v.items)
    (cond b (Some e.1) (lookup (λ k. bytes_eq name k.items) entries))
    ≡ option_map (λ a. a.value) (cond b (Some (plain_alias e))
    (find (λ a. bytes_eq name a.name) (map plain_alias entries))))
    [ true ↦ refl | false ↦ alias_found entries name ]

pub value_of_copied : (o : Option (Bor (Held ℕ)))
    → option_map (λ b. b.now.items) o ≡ option_map (λ v. v.items) (option_copied o)
value_of_copied None = refl
value_of_copied (Some b) = refl

pub list_any-map : {X Y : Type 0} (p : Y → Bool) (f : X → Y) (xs : List X)
    → list_any p (map f xs) ≡ list_any (λ x. p (f x)) xs
list_any-map p f [] = refl
list_any-map p f (x ∷ xs) = ap (λ t. p (f x) || t) (list_any-map p f xs)

-- a person whose address is in a table
pub person_found : (people : PlainPeople) (table : PeopleTable) (persons : List Person) (i : ℕ)
    (p : Person)
    → i < length persons → p ≡ get_or persons i p → is_in people table p.address.items ≡ true
    → any_in people table (map plain_person persons) ≡ true
person_found people table persons i p within is found =
    list_any-map (λ (q : PlainPerson). is_in people table q.address) plain_person persons
    ∙ list_any_at (λ (q : Person). is_in people table q.address.items) persons i p within
    (ap (λ (q : Person). is_in people table q.address.items) (sym is) ∙ found)
