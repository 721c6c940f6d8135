-- Tests and filters of what contracts see of a list.
use Rattle.std.proofs.Common.{◌≡◌, ◌-◌, ◌≤◌, ◌∙◌, ℕ, not, List, [], ◌∷◌, ◌++◌, map}
use Rattle.std.proofs.Common.{length, take, drop, get_or, ap, sym, arith, append_assoc}
use Rattle.std.specs.Prelude.{filter}
use Rattle.std.proofs.lemmas.List.{map-append, take_all}
use Rattle.mail_base.specs.Lines.{PlainField}
use Rattle.mail_base.specs.Series.{Held}
use Rattle.headers.specs.Values.{is_named}
use Rattle.message_text.specs.Header.{field_line}
use Rattle.message_text.specs.Weeding.{in_order}

-- the fields of a name are shown, and those of the names behind it are left
order_step : (name : List ℕ) (names : List (List ℕ)) (fields : List PlainField)
    (old : List (List ℕ))
    → (old ++ map field_line (filter (is_named name) fields))
    ++ map field_line (in_order names (filter (λ f. not (is_named name f)) fields))
    ≡ old ++ map field_line (in_order (name ∷ names) fields)
order_step name names fields old =
    append_assoc old _ _
    ∙ ap (λ l. old ++ l)
    (sym (map-append field_line (filter (is_named name) fields)
    (in_order names (filter (λ f. not (is_named name f)) fields))))

-- all but the first
abbrev rest_of : List (Held ℕ) → List (Held ℕ)
rest_of left = take (length left - 1) (drop 1 left)

rest_is : (first : Held ℕ) (rest : List (Held ℕ)) → rest_of (first ∷ rest) ≡ rest
rest_is first rest = take_all (length (first ∷ rest) - 1) rest (omega arith)

-- the same by the list of names that is left
pub order_rest : (left : List (Held ℕ)) (first : Held ℕ) (name : List ℕ)
    (fields others : List PlainField)
    (old new all : List (List ℕ))
    → 1 ≤ length left → first ≡ get_or left 0 first → name ≡ first.items
    → new ≡ old ++ map field_line (filter (is_named name) fields)
    → others ≡ filter (λ f. not (is_named name f)) fields
    → old ++ map field_line (in_order (map (λ n. n.items) left) fields) ≡ all
    → new ++ map field_line (in_order (map (λ n. n.items) (rest_of left)) others) ≡ all
order_rest [] first name fields others old new all some is name_is added dropped h =
    absurd (omega (arith, some))
order_rest (n ∷ rest) first name fields others old new all some is name_is added dropped h =
    let names = map (λ (k : Held ℕ). k.items) rest in
    let here : name ≡ n.items = name_is ∙ ap (λ k. k.items) is in
    ap (λ l. new ++ map field_line (in_order (map (λ k. k.items) l) others)) (rest_is n rest)
    ∙ ap (λ l. l ++ map field_line (in_order names others)) added
    ∙ ap (λ l. (old ++ map field_line (filter (is_named name) fields))
    ++ map field_line (in_order names l)) dropped
    ∙ order_step name names fields old
    ∙ ap (λ k. old ++ map field_line (in_order (k ∷ names) fields)) here
    ∙ h
