-- The ids of the messages that a message may answer (RFC 5322, section 3.6.4).
use Rattle.std.specs.Prelude.{◌++◌, ℕ, List, [], ◌∷◌, map, option_to_list, codes, if◌then◌else◌}
use Rattle.std.specs.List.{list_any}
use Rattle.std.specs.Str.{bytes_eq}
use Rattle.mail_base.specs.Lines.{PlainField}
use Rattle.mail_base.specs.Series.{Held}
use Rattle.headers.specs.References.{last_ids}
use Rattle.headers.specs.Values.{id_in, references}

-- an id behind others, unless it is one of them
abbrev pub with_id : List (List ℕ) → List ℕ → List (List ℕ)
with_id names id = if list_any (bytes_eq id) names then names else names ++ id ∷ []

-- those that are neither one of the names nor one before them
abbrev pub new_ids : List (List ℕ) → List (List ℕ) → List (List ℕ)
new_ids names [] = []
new_ids names (id ∷ rest) =
    if list_any (bytes_eq id) names then new_ids names rest
    else id ∷ new_ids (names ++ id ∷ []) rest

-- whom a message may answer: the first id replied to, then at most 64 references from the last on,
-- each once
abbrev pub candidates_of : List (List ℕ) → List (List ℕ) → List (List ℕ)
candidates_of replied references = new_ids [] (replied ++ last_ids references)

-- the ids of the messages that this one may answer, the most likely first
abbrev pub candidates : List PlainField → List (List ℕ)
candidates fields =
    candidates_of (option_to_list (id_in (codes "in-reply-to") fields)) (references fields)

-- For the code alone.

-- the texts of ids, without their rooms
abbrev pub texts : List (Held ℕ) → List (List ℕ)
texts ids = map (λ id. id.items) ids
