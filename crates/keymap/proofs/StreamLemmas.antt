-- What the first bytes of a stream tell of its first key.
use Rattle.std.proofs.Common.{◌≡◌, ℕ, ◌-◌, ◌<◌, ◌≤◌, Bool, true, false, cond, ◌&&◌, ◌==◌}
use Rattle.std.proofs.Common.{List, [], ◌∷◌, ◌++◌, length, Option, Some, None, refl, sym, ap}
use Rattle.std.proofs.Common.{subst, ◌∙◌, ⊎_elim, arith, find, length-append, nat_lt, eq-eqb}
use Rattle.std.specs.Prelude.{nat_le, is_none, slice_index}
use Rattle.std.specs.List.{list_all, list_any}
use Rattle.std.proofs.lemmas.Bool.{and_from, and_parts, cases_Bool}
use Rattle.std.proofs.lemmas.Bool.{false≢true, or_parts, or_cases}
use Rattle.std.proofs.lemmas.Bool.Decides.{nat_tests}
use Rattle.std.proofs.lemmas.List.{get_or_append_left}
use Rattle.bstr.specs.Utf8.{Decoded, good, decoded, decoded_by, second, continues, code_of_2}
use Rattle.bstr.specs.Utf8.{code_of_3}
use Rattle.bstr.specs.Utf8.{or_replacement}
use Rattle.bstr.specs.Utf8.{code_of_4}
use Rattle.bstr.proofs.lemmas.PieceLemmas.{by-shape, piece-bounds, value-1, value-2, value-3}
use Rattle.bstr.proofs.lemmas.PieceLemmas.{value-5}
use Rattle.bstr.proofs.lemmas.PieceLemmas.{value-6, value-8, value-9, value-11, value-12}
use Rattle.keymap.specs.declared.key.Key.{Key}
use Rattle.keymap.specs.Pieces.{Piece, char_key, one_char}
use Rattle.keymap.specs.Stream.{Sent, begins, first_key, form_at, form_or, forms, is_in_char}
use Rattle.keymap.specs.Stream.{is_in_form}
use Rattle.keymap.specs.Stream.{is_lead, is_open}
use Rattle.std.proofs.lemmas.Option.{none-some}
use Rattle.keymap.proofs.TableLemmas.{some_same}

-- a test that passes nowhere decides whether two others agree
find_same : {X : Type 0} (p q r : X → Bool) → ((x : X) → r x ≡ false → p x ≡ q x) → (xs : List X)
    → list_any r xs ≡ false → find p xs ≡ find q xs
find_same p q r agree [] none = refl
find_same p q r agree (x ∷ xs) none =
    let parts = or_parts (r x) (list_any r xs) none in
    ap (λ b. cond b (Some x) (find p xs)) (agree x parts.0)
    ∙ ap (λ o. cond (q x) (Some x) o) (find_same p q r agree xs parts.1)

-- a test that passes somewhere has what each that passes it has
any_has : {X : Type 0} (P : Type 0) (p : X → Bool) → ((x : X) → p x ≡ true → P) → (xs : List X)
    → list_any p xs ≡ true → P
any_has P p has [] some = absurd (false≢true some)
any_has P p has (x ∷ xs) some =
    ⊎_elim (λ here. has x here) (λ there. any_has P p has xs there)
    (or_cases (p x) (list_any p xs) some)

-- bytes that a form does not go on from tell whether it stands at the front
form_told : (bytes t f : List ℕ) → (nat_lt (length bytes) (length f) && begins f bytes) ≡ false
    → begins (bytes ++ t) f ≡ begins bytes f
form_told [] t [] told = refl
form_told [] t (y ∷ f) told =
    let longer : nat_lt 0 (length (y ∷ f)) ≡ true = grind (arith, nat_tests) in
    absurd (false≢true (sym told ∙ ap (λ b. b && true) longer))
form_told (x ∷ bytes) t [] told = refl
form_told (x ∷ bytes) t (y ∷ f) told = ⊎_elim
    (λ same.
    let back : y == x ≡ true = grind (arith, nat_tests) in
    let longer : nat_lt (length (x ∷ bytes)) (length (y ∷ f)) ≡ nat_lt (length bytes) (length f) =
    grind (arith, nat_tests) in
    ap (λ b. (x == y) && b) (form_told bytes t f (sym (ap (λ b. b && begins f bytes) longer)
    ∙ sym (ap (λ b. nat_lt (length (x ∷ bytes)) (length (y ∷ f)) &&
    (b && begins f bytes)) back) ∙ told)))
    (λ apart. ap (λ b. b && begins (bytes ++ t) f) apart
    ∙ sym (ap (λ b. b && begins bytes f) apart))
    (cases_Bool (x == y))

form_same : (bytes t : List ℕ) → is_in_form bytes ≡ false → form_at (bytes ++ t) ≡ form_at bytes
form_same bytes t told =
    find_same (λ f. begins (bytes ++ t) f.text) (λ f. begins bytes f.text)
    (λ f. nat_lt (length bytes) (length f.text) && begins f.text bytes)
    (λ f no. form_told bytes t f.text no) forms told

-- no form has more than four bytes
form_short : (bytes : List ℕ) → is_in_form bytes ≡ true → length bytes ≤ 3
form_short bytes inside = any_short forms refl inside
  where
    any_short : (fs : List Sent) → list_all (λ f. nat_le (length f.text) 4) fs ≡ true
        → list_any (λ f. nat_lt (length bytes) (length f.text) && begins f.text bytes) fs ≡ true
        → length bytes ≤ 3
    any_short [] all some = absurd (false≢true some)
    any_short (f ∷ fs) all some =
        let parts = and_parts (nat_le (length f.text) 4) (list_all (λ g. nat_le
        (length g.text) 4) fs) all in
        ⊎_elim
        (λ here.
        let tests = and_parts (nat_lt (length bytes) (length f.text)) (begins f.text bytes) here in
        let low : length bytes < length f.text = grind (arith, nat_tests, tests.0) in
        let high : length f.text ≤ 4 = grind (arith, nat_tests, parts.0) in
        omega arith)
        (λ there. any_short fs parts.1 there)
        (or_cases (nat_lt (length bytes) (length f.text) && begins f.text bytes)
        (list_any (λ g. nat_lt (length bytes) (length g.text) && begins g.text bytes) fs) some)

-- a form at the front takes no more bytes than there are
begins_within : (bytes f : List ℕ) → begins bytes f ≡ true → length f ≤ length bytes
begins_within bytes [] here = omega arith
begins_within [] (y ∷ f) here = absurd (false≢true here)
begins_within (x ∷ bytes) (y ∷ f) here =
    let rest = begins_within bytes f (and_parts (x == y) (begins bytes f) here).1 in omega arith

found_within : (bytes : List ℕ) (fs : List Sent) (found : Sent)
    → find (λ f. begins bytes f.text) fs ≡ Some found → length found.text ≤ length bytes
found_within bytes [] found is = absurd (none-some found is)
found_within bytes (f ∷ fs) found is = ⊎_elim
    (λ yes.
    let same : f ≡ found =
    some_same (sym (ap (λ b. cond b (Some f) (find (λ g. begins bytes g.text) fs)) yes) ∙ is) in
    subst (λ g. length g.text ≤ length bytes) same (begins_within bytes f.text yes))
    (λ no. found_within bytes fs found
    (sym (ap (λ b. cond b (Some f) (find (λ g. begins bytes g.text) fs)) no) ∙ is))
    (cases_Bool (begins bytes f.text))

-- the first key takes at least a byte, and no more than there are
pub first_within : (bytes : List ℕ) → 0 < length bytes → (first_key bytes).more < length bytes
first_within bytes some = by (form_at bytes) refl
  where
    by : (r : Option Sent) → form_at bytes ≡ r → (form_or r (one_char bytes)).more < length bytes
    by None is = let sized = piece-bounds bytes some in omega (arith, sized.0, sized.2)
    by (Some f) is = let within = found_within bytes forms f is in omega arith

-- the leading byte of a character of several bytes
lead_is : (b : ℕ) (rest : List ℕ) → 0xC2 ≤ b → b ≤ 0xF4 → is_lead (b ∷ rest) ≡ true
lead_is b rest low high = grind (arith, nat_tests)

-- what an incomplete character tells: without one the bytes are not of it alone, or do not begin
-- one
abbrev IsTold : ℕ → ℕ → Decoded → Type 0
IsTold n b d = d.char ≡ None → d.size ≡ n → 0xC2 ≤ b → b ≤ 0xF4 → ⊥

-- bytes that tell their first character tell it whatever follows
char_told : (n m b c d e c' d' e' : ℕ) → 0 < n → n ≤ m → (1 < n → c' ≡ c) → (2 < n → d' ≡ d)
    → (3 < n → e' ≡ e) → IsTold n b (decoded_by n b c d e)
    → decoded_by m b c' d' e' ≡ decoded_by n b c d e
char_told n m b c d e c' d' e' some longer second_c third_d fourth_e told = by-shape n b c d e
    (λ h. absurd (omega arith))
    (λ h. value-1 m b c' d' e' (omega arith, h.1) ∙ sym h.2)
    (λ h. value-2 m b c' d' e' (omega arith, h.1, h.2) ∙ sym h.3)
    (λ h. value-3 m b c' d' e' (omega arith, h.1) ∙ sym h.2)
    (λ h. absurd (told (ap (λ p. p.char) h.4) (ap (λ p. p.size) h.4 ∙ omega arith) h.1 h.2))
    (λ h.
    let c_is = second_c (omega arith) in
    value-5 m b c' d' e' (omega arith, h.1, h.2, ap (second b) c_is ∙ h.3) ∙ sym h.4)
    (λ h.
    let c_is = second_c (omega arith) in
    value-6 m b c' d' e' (omega arith, h.1, h.2, ap (second b) c_is ∙ h.3)
    ∙ ap (λ x. good (code_of_2 b x) 2) c_is ∙ sym h.4)
    (λ h. absurd (told (ap (λ p. p.char) h.5) (ap (λ p. p.size) h.5
    ∙ omega arith) (omega arith) h.2))
    (λ h.
    let c_is = second_c (omega arith) in
    let d_is = third_d (omega arith) in
    value-8 m b c' d' e' (omega arith, h.1, h.2, ap (second b) c_is ∙ h.3, ap continues d_is ∙ h.4)
    ∙ sym h.5)
    (λ h.
    let c_is = second_c (omega arith) in
    let d_is = third_d (omega arith) in
    value-9 m b c' d' e' (omega arith, h.1, h.2, ap (second b) c_is ∙ h.3, ap continues d_is ∙ h.4)
    ∙ ap (λ x. good (code_of_3 b x d') 3) c_is ∙ ap (λ x. good (code_of_3 b c x) 3) d_is ∙ sym h.5)
    (λ h. absurd (told (ap (λ p. p.char) h.6) (ap (λ p. p.size) h.6
    ∙ omega arith) (omega arith) h.2))
    (λ h.
    let c_is = second_c (omega arith) in
    let d_is = third_d (omega arith) in
    let e_is = fourth_e (omega arith) in
    value-11 m b c' d' e' (
      omega arith,
      h.1,
      h.2,
      ap (second b) c_is ∙ h.3,
      ap continues d_is ∙ h.4,
      ap continues e_is ∙ h.5,
    ) ∙ sym h.6)
    (λ h.
    let c_is = second_c (omega arith) in
    let d_is = third_d (omega arith) in
    let e_is = fourth_e (omega arith) in
    value-12 m b c' d' e' (
      omega arith,
      h.1,
      h.2,
      ap (second b) c_is ∙ h.3,
      ap continues d_is ∙ h.4,
      ap continues e_is ∙ h.5,
    )
    ∙ ap (λ x. good (code_of_4 b x d' e') 4) c_is ∙ ap (λ x. good (code_of_4 b c x e') 4) d_is
    ∙ ap (λ x. good (code_of_4 b c d x) 4) e_is ∙ sym h.6)

told_by : (b : ℕ) (rest : List ℕ) → is_in_char (b ∷ rest) ≡ false
    → IsTold (length (b ∷ rest)) b (decoded (b ∷ rest))
told_by b rest outside none whole low high =
    false≢true (sym outside ∙ and_from (is_lead (b ∷ rest) && is_none (decoded (b ∷ rest)).char)
    ((decoded (b ∷ rest)).size == length (b ∷ rest))
    (and_from (is_lead (b ∷ rest)) (is_none (decoded (b ∷ rest)).char) (lead_is b rest low high)
    (ap is_none none))
    (eq-eqb (decoded (b ∷ rest)).size (length (b ∷ rest)) whole))

char_same : (b : ℕ) (rest t : List ℕ) → is_in_char (b ∷ rest) ≡ false
    → decoded ((b ∷ rest) ++ t) ≡ decoded (b ∷ rest)
char_same b rest t outside =
    let bytes = b ∷ rest in
    let long = length-append bytes t in
    char_told (length bytes) (length (bytes ++ t)) b (slice_index bytes 1) (slice_index bytes 2)
    (slice_index bytes 3) (slice_index (bytes ++ t) 1) (slice_index (bytes ++ t) 2)
    (slice_index (bytes ++ t) 3) (omega arith) (omega arith)
    (λ more. get_or_append_left bytes t 0 1 more)
    (λ more. get_or_append_left bytes t 0 2 more)
    (λ more. get_or_append_left bytes t 0 3 more)
    (told_by b rest outside)

-- bytes that are not open tell their first key
pub first_told : (bytes t : List ℕ) → is_open bytes ≡ false → first_key (bytes ++ t)
    ≡ first_key bytes
first_told [] t told = absurd (false≢true (sym told))
first_told (b ∷ rest) t told =
    let parts = or_parts (is_in_form (b ∷ rest)) (is_in_char (b ∷ rest)) told in
    ap (λ f. form_or f (one_char ((b ∷ rest) ++ t))) (form_same (b ∷ rest) t parts.0)
    ∙ ap (λ d. form_or (form_at (b ∷ rest)) (char_piece d)) (char_same b rest t parts.1)
  where
    char_piece : Decoded → Piece Key
    char_piece d = record { value = char_key (or_replacement d.char); more = d.size - 1 }

-- four bytes are not open
char_short : (b : ℕ) (rest : List ℕ) → is_in_char (b ∷ rest) ≡ true → length (b ∷ rest) ≤ 3
char_short b rest inside =
    let bytes = b ∷ rest in
    let parts = and_parts (is_lead bytes && is_none (decoded bytes).char)
    ((decoded bytes).size == length bytes) inside in
    let none = (and_parts (is_lead bytes) (is_none (decoded bytes).char) parts.0).1 in
    let whole : (decoded bytes).size ≡ length bytes = grind (arith, nat_tests, parts.1) in
    short_bad (length bytes) b (slice_index bytes 1) (slice_index bytes 2)
    (slice_index bytes 3) none whole
  where
    short_bad : (n b c d e : ℕ) → is_none (decoded_by n b c d e).char ≡ true
        → (decoded_by n b c d e).size ≡ n → n ≤ 3
    short_bad n b c d e none whole = by-shape n b c d e
        (λ h. omega (arith, ap (λ p. p.size) h.1))
        (λ h. omega (arith, ap (λ p. p.size) h.2))
        (λ h. omega (arith, ap (λ p. p.size) h.3))
        (λ h. omega (arith, ap (λ p. p.size) h.2))
        (λ h. omega (arith, ap (λ p. p.size) h.4))
        (λ h. omega (arith, ap (λ p. p.size) h.4))
        (λ h. omega (arith, ap (λ p. p.size) h.4))
        (λ h. omega (arith, ap (λ p. p.size) h.5))
        (λ h. omega (arith, ap (λ p. p.size) h.5))
        (λ h. omega (arith, ap (λ p. p.size) h.5))
        (λ h. omega (arith, ap (λ p. p.size) h.6))
        (λ h. omega (arith, ap (λ p. p.size) h.6))
        (λ h. absurd (false≢true (sym (ap (λ p. is_none p.char) h.6) ∙ none)))

pub open_short : (bytes : List ℕ) → is_open bytes ≡ true → length bytes ≤ 3
open_short [] open_is = omega arith
open_short (b ∷ rest) open_is = ⊎_elim (form_short (b ∷ rest)) (char_short b rest)
    (or_cases (is_in_form (b ∷ rest)) (is_in_char (b ∷ rest)) open_is)
