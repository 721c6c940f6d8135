-- Ids by their numbers.
use Rattle.std.specs.Prelude.{ℕ, List, Option, map, nat_eq, position}
use Rattle.mail_base.specs.declared.kind.Id.{Id}

-- the numbers of ids
abbrev pub numbers : List Id → List ℕ
numbers ids = map (λ id. id.0) ids

-- where an id stands among some
abbrev pub place_in : List Id → Id → Option ℕ
place_in ids id = position (nat_eq id.0) (numbers ids)
