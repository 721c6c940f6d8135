-- How the last 64 ids are kept while more are read.
use Rattle.std.proofs.Common.{◌≡◌, ℕ, ◌<◌, ◌≤◌, List, [], ◌∷◌, ◌++◌, length, take, drop, reverse}
use Rattle.std.proofs.Common.{refl, sym, ap, ◌∙◌, ◌-◌, Bool, true, false, filter, map, get_or}
use Rattle.std.proofs.Common.{arith, append_assoc, codes}
use Rattle.std.specs.List.{flat_map}
use Rattle.std.specs.Prelude.{if◌then◌else◌}
use Rattle.std.proofs.lemmas.List.{reverse-append, length-reverse, append-nil, take-take}
use Rattle.std.proofs.lemmas.List.{take-append-le, take_all}
use Rattle.mail_base.specs.Lines.{PlainField}
use Rattle.headers.specs.FoldedField.{plain_folded}
use Rattle.headers.specs.Ids.{ids}
use Rattle.headers.specs.References.{last_ids}
use Rattle.headers.specs.Values.{is_named, references}
use Rattle.headers.specs.declared.folded_field.FoldedField.{FoldedField}

-- one more comes first
last_ids-push : (ids : List (List ℕ)) (id : List ℕ)
    → last_ids (ids ++ id ∷ []) ≡ id ∷ take 63 (last_ids ids)
last_ids-push ids id =
    ap (take 64) (reverse-append ids (id ∷ []))
    ∙ ap (λ l. id ∷ l) (sym (take-take 63 64 (reverse ids) (omega arith)))

-- more ids push the same ones out
pub last_ids-append : (xs ys more : List (List ℕ)) → last_ids xs ≡ last_ids ys
    → last_ids (xs ++ more) ≡ last_ids (ys ++ more)
last_ids-append xs ys [] same = rw (append-nil xs, append-nil ys) same
last_ids-append xs ys (id ∷ more) same =
    ap last_ids (sym (append_assoc xs (id ∷ []) more))
    ∙ last_ids-append (xs ++ id ∷ []) (ys ++ id ∷ []) more
    (last_ids-push xs id ∙ ap (λ l. id ∷ take 63 l) same ∙ sym (last_ids-push ys id))
    ∙ ap last_ids (append_assoc ys (id ∷ []) more)

-- of 64 or more the first is not among those that stay with one more
pub last_ids-first : (ids : List (List ℕ)) (id : List ℕ) → 64 ≤ length ids
    → last_ids (drop 1 ids ++ id ∷ []) ≡ last_ids (ids ++ id ∷ [])
last_ids-first [] id many = absurd (omega arith)
last_ids-first (first ∷ ids) id many =
    let enough : 63 ≤ length (reverse ids) = omega (arith, length-reverse ids) in
    last_ids-push ids id
    ∙ ap (λ l. id ∷ l) (take-take 63 64 (reverse ids) (omega arith)
    ∙ sym (take-append-le 63 (reverse ids) (first ∷ []) enough)
    ∙ ap (take 63) (sym (reverse-append (first ∷ []) ids))
    ∙ sym (take-take 63 64 (reverse (first ∷ ids)) (omega arith)))
    ∙ sym (last_ids-push (first ∷ ids) id)

-- all but the first
pub map_behind_first : {X Y : Type 0} (f : X → Y) (xs : List X)
    → map f (drop 1 xs) ≡ drop 1 (map f xs)
map_behind_first f [] = refl
map_behind_first f (x ∷ xs) = refl

references-cons : (f : PlainField) (fields : List PlainField)
    → references (f ∷ fields) ≡ references (f ∷ []) ++ references fields
references-cons f fields = by_name (is_named (codes "references") f)
  where
    by_name : (t : Bool)
        → flat_map ids
        (map (λ f. f.value) (if t then f ∷ filter (is_named (codes "references")) fields
        else filter (is_named (codes "references")) fields))
        ≡ flat_map ids (map (λ f. f.value) (if t then f ∷ [] else [])) ++ references fields
    by_name true = ap (λ l. l ++ references fields) (sym (append-nil (ids f.value)))
    by_name false = refl

-- the ids of the first field are read
pub last_ids_rest : (left : List FoldedField) (d : FoldedField) (done after all : List (List ℕ))
    → 1 ≤ length left
    → last_ids after ≡ last_ids (done ++ references (plain_folded (get_or left 0 d) ∷ []))
    → last_ids (done ++ references (map plain_folded left)) ≡ last_ids all
    → last_ids (after ++ references (map plain_folded (take (length left - 1) (drop 1 left))))
    ≡ last_ids all
last_ids_rest [] d done after all some read same = absurd (omega arith)
last_ids_rest (f ∷ left) d done after all some read same =
    let whole : take (length (f ∷ left) - 1) left ≡ left =
    take_all (length (f ∷ left) - 1) left (omega arith) in
    let first = references (plain_folded f ∷ []) in
    let rest = references (map plain_folded left) in
    ap (λ l. last_ids (after ++ references (map plain_folded l))) whole
    ∙ last_ids-append after (done ++ first) rest read
    ∙ ap last_ids (append_assoc done first rest)
    ∙ ap (λ l. last_ids (done ++ l))
    (sym (references-cons (plain_folded f) (map plain_folded left)))
    ∙ same

-- behind the last field the ids that are kept are the last
pub last_ids_kept : (names all : List (List ℕ)) (left : List FoldedField) → length left < 1
    → length names ≤ 64
    → last_ids (names ++ references (map plain_folded left)) ≡ last_ids all
    → reverse names ≡ last_ids all
last_ids_kept names all (f ∷ left) none few same = absurd (omega arith)
last_ids_kept names all [] none few same =
    let room : length (reverse names) ≤ 64 = omega (arith, length-reverse names) in
    sym (take_all 64 (reverse names) room) ∙ ap last_ids (sym (append-nil names)) ∙ same
