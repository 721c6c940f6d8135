-- Fields written one a line are read back.
use Rattle.std.proofs.Common.{◌≡◌, ℕ, zero, suc, ◌+◌, ◌-◌, ◌<◌, ◌==◌, ◌&&◌, Bool, true, false, not}
use Rattle.std.proofs.Common.{cond, nat_lt, List, [], ◌∷◌, ◌++◌, length, take, drop, map, Option}
use Rattle.std.proofs.Common.{Some, position, unwrap_or, refl, sym, ap, ◌∙◌, arith, append_assoc}
use Rattle.std.proofs.Common.{length-append, eq-eqb}
use Rattle.std.specs.List.{slice_index, list_all, concat, flat_map, position_or_len}
use Rattle.std.specs.Prelude.{is_some, if◌then◌else◌}
use Rattle.std.proofs.lemmas.Bool.{and_parts, and_from, and_right, not-true}
use Rattle.std.proofs.lemmas.Bool.Decides.{nat_tests}
use Rattle.std.proofs.lemmas.List.Folds.{list_all-append}
use Rattle.std.proofs.lemmas.List.{append-nil, take_at, drop_at, get_or_at, get_or_push}
use Rattle.bstr.specs.Text.{lines_of, no_cr, without_terminator}
use Rattle.mail_base.specs.Lines.{PlainField, is_empty_line, is_continuation, is_name_byte}
use Rattle.mail_base.specs.Lines.{is_field, colon_at, colon_of, name_of, behind_colon, header_block}
use Rattle.mail_base.specs.Lines.{continuations, unfolded, fields_of}
use Rattle.mail_base.specs.Blanks.{without_blanks}
use Rattle.headers_laws.specs.Laws.{is_name, is_one_line, written_field, written_message}
use Rattle.headers_laws.specs.Laws.{WrittenFieldsAreRead}
use Rattle.mail_base.specs.Written.{is_line_byte}
use Rattle.headers_laws.specs.Laws.{WrittenBodyIsFound}
use Rattle.mail_base.proofs.BlanksLemmas.{without_blanks_stay}
use Rattle.mail_base.proofs.LinesLemmas.{lines_feed}
use Rattle.mail_base.proofs.RoundPlaces.{prefix_stop}

-- the field that a written line begins

name_small : (b : ℕ) → is_name_byte b ≡ true → (b == 10) ≡ false
name_small b name = grind (arith, nat_tests)

name_no_cr : (b : ℕ) → is_name_byte b ≡ true → (b == 13) ≡ false
name_no_cr b name = grind (arith, nat_tests)

all_names : (name : List ℕ) → is_name name ≡ true → list_all is_name_byte name ≡ true
all_names [] e = cc
all_names (b ∷ name) e = e

some_name : (name : List ℕ) → is_name name ≡ true → 0 < length name
some_name [] e = absurd (cc)
some_name (b ∷ name) e = omega arith

twice_not : (s : List ℕ) → list_all is_name_byte s ≡ true
    → list_all (λ b. not (not (is_name_byte b))) s ≡ true
twice_not [] all = refl
twice_not (b ∷ s) all =
    let both = and_parts (is_name_byte b) (list_all is_name_byte s) all in
    rw both.0 (twice_not s both.1)

colon_place : (name rest : List ℕ) → list_all is_name_byte name ≡ true
    → position (λ b. not (is_name_byte b)) (name ++ 58 ∷ rest) ≡ Some (length name)
colon_place name rest all =
    let place : position_or_len (λ b. not (is_name_byte b)) (name ++ 58 ∷ rest) ≡ length name =
    prefix_stop (λ b. not (not (is_name_byte b))) name 58 rest (twice_not name all) refl in
    let long = length-append name (58 ∷ rest) in
    let within : nat_lt (length name) (length (name ++ 58 ∷ rest)) ≡ true =
    grind (arith, nat_tests) in
    rw (place, within) refl

colon_of_name : (name rest : List ℕ) → is_name name ≡ true
    → colon_of (name ++ 58 ∷ rest) ≡ Some (length name)
colon_of_name name rest e =
    let named = some_name name e in
    let some : nat_lt 0 (length name) ≡ true = grind (arith, nat_tests) in
    let colon : slice_index (name ++ 58 ∷ rest) (length name) ≡ 58 =
    get_or_at name 58 rest 0 (length name) refl in
    ap (colon_at (name ++ 58 ∷ rest)) (colon_place name rest (all_names name e))
    ∙ rw (some, colon) refl

name_of_name : (name rest : List ℕ) → is_name name ≡ true → name_of (name ++ 58 ∷ rest) ≡ name
name_of_name name rest e =
    ap (λ (o : Option ℕ). take (unwrap_or o 0) (name ++ 58 ∷ rest)) (colon_of_name name rest e)
    ∙ take_at name (58 ∷ rest) (length name) refl

behind_name : (name rest : List ℕ) → is_name name ≡ true → behind_colon (name ++ 58 ∷ rest) ≡ rest
behind_name name rest e =
    ap (λ (o : Option ℕ). drop (unwrap_or o 0 + 1) (name ++ 58 ∷ rest)) (colon_of_name name rest e)
    ∙ ap (drop (length name + 1)) (sym (append_assoc name (58 ∷ []) rest))
    ∙ drop_at (name ++ 58 ∷ []) rest (length name + 1) (length-append name (58 ∷ []))

-- a line end goes

not_cr : (s : List ℕ) (i : ℕ) → list_all is_line_byte s ≡ true → (slice_index s i == 13) ≡ false
not_cr [] i all = refl
not_cr (b ∷ s) zero all =
    not-true (b == 13) (and_parts (not (b == 10)) (not (b == 13))
    (and_parts (is_line_byte b) (list_all is_line_byte s) all).0).1
not_cr (b ∷ s) (suc i) all = not_cr s i (and_parts (is_line_byte b) (list_all is_line_byte s) all).1

end_goes : (s : List ℕ) → list_all is_line_byte s ≡ true → without_terminator (s ++ 10 ∷ []) ≡ s
end_goes s all =
    let line = s ++ 10 ∷ [] in
    let long : length line ≡ length s + 1 = length-append s (10 ∷ []) in
    let some : nat_lt 0 (length line) ≡ true = grind (arith, nat_tests) in
    let last : length line - 1 ≡ length s = omega (arith, long) in
    let feed : slice_index line (length line - 1) ≡ 10 =
    rw last (get_or_push s 10 0 (length s) refl) in
    let front : take (length line - 1) line ≡ s =
    take_at s (10 ∷ []) (length line - 1) (sym last) in
    ap (λ t. cond t (no_cr (take (length line - 1) line)) line)
    (and_from (nat_lt 0 (length line)) (slice_index line (length line - 1) == 10) some
    (eq-eqb (slice_index line (length line - 1)) 10 feed))
    ∙ ap no_cr front
    ∙ ap (λ t. cond t (take (length s - 1) s) s)
    (and_right (nat_lt 0 (length s)) (slice_index s (length s - 1) == 13)
    (not_cr s (length s - 1) all))

-- written fields are the lines of a block

all_weaker : (p q : ℕ → Bool) → ((b : ℕ) → p b ≡ true → q b ≡ true) → (s : List ℕ)
    → list_all p s ≡ true
    → list_all q s ≡ true
all_weaker p q weaker [] all = refl
all_weaker p q weaker (b ∷ s) all =
    let both = and_parts (p b) (list_all p s) all in
    rw (weaker b both.0) (all_weaker p q weaker s both.1)

no_feed : (name value : List ℕ) → is_name name ≡ true → list_all is_line_byte value ≡ true
    → list_all (λ b. not (b == 10)) (name ++ 58 ∷ 32 ∷ value) ≡ true
no_feed name value e all =
    let test = λ (b : ℕ). not (b == 10) in
    list_all-append test name (58 ∷ 32 ∷ value)
    ∙ and_from (list_all test name) (list_all test value)
    (all_weaker is_name_byte test (λ b h. ap not (name_small b h)) name (all_names name e))
    (all_weaker is_line_byte test (λ b h. (and_parts (not (b == 10)) (not (b == 13)) h).0) value
    all)

not_empty_line : (name rest : List ℕ) → is_name name ≡ true → is_empty_line (name ++ rest) ≡ false
not_empty_line [] rest e = cc
not_empty_line (b ∷ name) rest e =
    let first = (and_parts (is_name_byte b) (list_all is_name_byte name) e).0 in
    rw (name_small b first, name_no_cr b first) refl

record Parts (f : PlainField) : Type 0 where
  name : is_name f.name ≡ true
  value : list_all is_line_byte f.value ≡ true
  front : not (is_continuation f.value) ≡ true

parts_of : (f : PlainField) → is_one_line f ≡ true → Parts f
parts_of f e =
    let both =
    and_parts (is_name f.name && list_all is_line_byte f.value) (not (is_continuation f.value))
    e in
    let first = and_parts (is_name f.name) (list_all is_line_byte f.value) both.0 in
    record { name = first.0; value = first.1; front = both.1 }

-- a written field, cut at its colon
line_is : (f : PlainField) → written_field f ≡ f.name ++ 58 ∷ (32 ∷ (f.value ++ 10 ∷ []))
line_is f = append_assoc f.name (58 ∷ 32 ∷ f.value) (10 ∷ [])

block_is : (fields : List PlainField) (body : List ℕ) → list_all is_one_line fields ≡ true
    → header_block (lines_of (written_message fields body)) ≡ map written_field fields
block_is [] body all = ap header_block (lines_feed [] body refl)
block_is (f ∷ fields) body all =
    let both = and_parts (is_one_line f) (list_all is_one_line fields) all in
    let parts = parts_of f both.0 in
    let more = written_message fields body in
    let apart : written_message (f ∷ fields) body ≡ (f.name ++ 58 ∷ 32 ∷ f.value) ++ 10 ∷ more =
    simp append_assoc in
    let full : is_empty_line (written_field f) ≡ false =
    ap is_empty_line (line_is f)
    ∙ not_empty_line f.name (58 ∷ (32 ∷ (f.value ++ 10 ∷ []))) parts.name in
    ap (λ (t : List ℕ). header_block (lines_of t)) apart
    ∙ ap header_block
    (lines_feed (f.name ++ 58 ∷ 32 ∷ f.value) more
    (no_feed f.name f.value parts.name parts.value))
    ∙ ap (λ t. if t then [] else written_field f ∷ header_block (lines_of more)) full
    ∙ ap (λ l. written_field f ∷ l) (block_is fields body both.1)

field_begins : (f : PlainField) → is_one_line f ≡ true → is_field (written_field f) ≡ true
field_begins f e =
    ap is_field (line_is f)
    ∙ ap is_some (colon_of_name f.name (32 ∷ (f.value ++ 10 ∷ [])) (parts_of f e).name)

none_continue : (fields : List PlainField) → list_all is_one_line fields ≡ true
    → continuations (map written_field fields) ≡ []
none_continue [] all = refl
none_continue (f ∷ fields) all =
    rw (field_begins f (and_parts (is_one_line f) (list_all is_one_line fields) all).0) refl

value_is : (f : PlainField) → is_one_line f ≡ true → unfolded (written_field f) [] ≡ f.value
value_is f e =
    let parts = parts_of f e in
    ap (λ (l : List ℕ). without_blanks (without_terminator (behind_colon l) ++ [])) (line_is f)
    ∙ ap (λ (l : List ℕ). without_blanks (without_terminator l ++ []))
    (behind_name f.name (32 ∷ (f.value ++ 10 ∷ [])) parts.name)
    ∙ ap (λ (l : List ℕ). without_blanks (l ++ [])) (end_goes (32 ∷ f.value) parts.value)
    ∙ ap without_blanks (append-nil f.value)
    ∙ without_blanks_stay f.value parts.front

fields_are : (fields : List PlainField) → list_all is_one_line fields ≡ true
    → fields_of (map written_field fields) ≡ fields
fields_are [] all = refl
fields_are (f ∷ fields) all =
    let both = and_parts (is_one_line f) (list_all is_one_line fields) all in
    let line = written_field f in
    let rest = map written_field fields in
    let name_is : name_of line ≡ f.name =
    ap name_of (line_is f)
    ∙ name_of_name f.name (32 ∷ (f.value ++ 10 ∷ [])) (parts_of f both.0).name in
    ap (λ t. if t then record { name = name_of line; value = unfolded line (continuations rest) }
    ∷ fields_of rest else fields_of rest) (field_begins f both.0)
    ∙ ap (λ (n : List ℕ). record { name = n; value = unfolded line (continuations rest) }
    ∷ fields_of rest) name_is
    ∙ ap (λ (m : List (List ℕ)). record { name = f.name; value = unfolded line m } ∷ fields_of rest)
    (none_continue fields both.1)
    ∙ ap (λ (v : List ℕ). record { name = f.name; value = v } ∷ fields_of rest) (value_is f both.0)
    ∙ ap (λ l. f ∷ l) (fields_are fields both.1)

pub written_fields_are_read : WrittenFieldsAreRead
written_fields_are_read fields body all =
    ap fields_of (block_is fields body all) ∙ fields_are fields all

concat_map : (fields : List PlainField)
    → concat (map written_field fields) ≡ flat_map written_field fields
concat_map [] = refl
concat_map (f ∷ fields) = ap (λ l. written_field f ++ l) (concat_map fields)

pub written_body_is_found : WrittenBodyIsFound
written_body_is_found fields body all =
    ap (λ l. length (concat l)) (block_is fields body all) ∙ ap length (concat_map fields)
