-- Message ids (RFC 5322, section 3.6.4).
use Rattle.std.specs.Prelude.{◌++◌, ℕ, zero, suc, List, [], ◌∷◌, length, Option, Some, None}
use Rattle.std.specs.Str.{byte}
use Rattle.mail_base.specs.Fronts.{◌>>=◌}
use Rattle.mail_base.specs.Places.{split_once}
use Rattle.headers.specs.declared.ids.FoundId.{FoundId}

-- an id in its brackets
abbrev pub id_of : List ℕ → List ℕ
id_of inside = byte "<" ∷ inside ++ byte ">" ∷ []

-- what stands in the brackets of the first id, and behind it
pub record PlainFoundId : Type 0 where
  pub inside : List ℕ
  pub rest : List ℕ

-- the text from the first `<` up to the next `>`
abbrev pub first_id : List ℕ → Option PlainFoundId
first_id s = do
  start ← split_once (byte "<") s
  end ← split_once (byte ">") start.1
  Some (record { inside = end.0; rest = end.1 })

-- an id, and those behind it
abbrev pub ids_with : (List ℕ → List (List ℕ)) → Option PlainFoundId → List (List ℕ)
ids_with more None = []
ids_with more (Some f) = id_of f.inside ∷ more f.rest

-- the ids of a text; the number is at least its length
abbrev pub ids_from : ℕ → List ℕ → List (List ℕ)
ids_from zero s = []
ids_from (suc n) s = ids_with (ids_from n) (first_id s)

-- the ids of a text
abbrev pub ids : List ℕ → List (List ℕ)
ids s = ids_from (length s) s

-- a found id as contracts see it
abbrev pub plain_found_id : FoundId → PlainFoundId
plain_found_id f = record { inside = f.inside.now; rest = f.rest.now }
