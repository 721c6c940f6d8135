-- The values of fields by their names (RFC 5322, section 3.6).
use Rattle.std.specs.Prelude.{ℕ, Bool, List, [], map, filter, Option, option_map, unwrap_or, codes}
use Rattle.std.specs.List.{find, flat_map}
use Rattle.std.specs.Str.{str_eq_ignore_ascii_case}
use Rattle.mail_base.specs.Fronts.{◌>>=◌}
use Rattle.mail_base.specs.Lines.{PlainField}
use Rattle.headers.specs.Decode.{decoded_words}
use Rattle.headers.specs.Ids.{first_id, id_of, ids}
use Rattle.headers.specs.People.{people}
use Rattle.headers.specs.Person.{PlainPerson}
use Rattle.headers.specs.SentDate.{sent_date}
use Rattle.headers.specs.declared.sent_date.SentDate.{SentDate}

-- names are compared without regard to ASCII case
abbrev pub is_named : List ℕ → PlainField → Bool
is_named name f = str_eq_ignore_ascii_case f.name name

-- the value of the first field of the name
abbrev pub first_value : List ℕ → List PlainField → Option (List ℕ)
first_value name fields = option_map (λ f. f.value) (find (is_named name) fields)

-- the values of all fields of the name
abbrev pub values : List ℕ → List PlainField → List (List ℕ)
values name fields = map (λ f. f.value) (filter (is_named name) fields)

-- the persons of all fields of the name
abbrev pub persons : List ℕ → List PlainField → List PlainPerson
persons name fields = flat_map people (values name fields)

-- the first id of the first field of the name
abbrev pub id_in : List ℕ → List PlainField → Option (List ℕ)
id_in name fields = option_map (λ f. id_of f.inside) (first_value name fields >>= first_id)

-- the subject as it is shown
abbrev pub subject : List PlainField → List ℕ
subject fields = decoded_words (unwrap_or (first_value (codes "subject") fields) [])

-- the date of the first Date field, unless it is refused
abbrev pub sent : List PlainField → Option SentDate
sent fields = first_value (codes "date") fields >>= sent_date

-- the ids of all fields that name references
abbrev pub references : List PlainField → List (List ℕ)
references fields = flat_map ids (values (codes "references") fields)
