-- How bytes are read in and outside double quotes, and written in them.
use Rattle.std.proofs.Common.{◌≡◌, ℕ, ◌+◌, ◌<◌, ◌≤◌, ◌==◌, ◌||◌, ◌/◌, ltb, Bool, true, false, not}
use Rattle.std.proofs.Common.{cond, List, [], ◌∷◌, ◌++◌, map, Some, refl, sym, ap, ◌∙◌, arith}
use Rattle.std.proofs.Common.{subst, append_assoc, if◌then◌else◌}
use Rattle.std.specs.List.{flat_map, list_all}
use Rattle.std.proofs.lemmas.Bool.Decides.{nat_tests}
use Rattle.std.proofs.lemmas.Bool.{and_parts}
use Rattle.std.specs.Str.{IsAscii, IsUtf8, encode_utf8_all}
use Rattle.std.proofs.lemmas.Grind.{flat_map-append}
use Rattle.std.proofs.lemmas.List.{append-nil}
use Rattle.std.proofs.lemmas.Str.{IsUtf8-append, IsUtf8-encode, IsUtf8-from_ascii, encode_ascii}
use Rattle.std.proofs.lemmas.Str.Ascii.{IsAscii-push, IsAscii-nil}
use lib.Utf8.{encode, next, scalar, scalars}
use Rattle.rc_lang_words.specs.declared.sign.Role.TheVariants.{Plain, InQuotes, Literal}
use Rattle.rc_lang_words.specs.declared.sign.Sign.{Sign}
use Rattle.rc_lang_words.specs.declared.state.State.{State}
use Rattle.rc_lang_words.specs.declared.state.Quoting.TheVariants as quoting
use Rattle.rc_lang_words.specs.declared.state.Escape.TheVariants.{Absent}
use Rattle.rc_lang_words.specs.Laws.{escape, needs_no_escape}
use Rattle.rc_lang_words.specs.Signs.{sign, signs_from, state, plain_step, double_step}

-- a byte that stands for itself outside quotes
abbrev pub is_bare : ℕ → Bool
is_bare b = not (b == 32 || b == 9 || b == 10 || b == 59 || b == 35 || b == 39 || b == 34 || b ==
    92)

abbrev pub plain_sign : ℕ → Sign
plain_sign b = sign 1 (Plain b)

abbrev pub quoted_sign : ℕ → Sign
quoted_sign b = sign 1 (InQuotes b)

abbrev pub plain_state : State
plain_state = state 1 quoting.Plain Absent

abbrev pub double_state : State
double_state = state 1 quoting.Double Absent

not_true : (b : Bool) → not b ≡ true → b ≡ false
not_true true e = cc
not_true false e = refl

or_parts : (a b : Bool) → (a || b) ≡ false → (a ≡ false) × (b ≡ false)
or_parts true b e = cc
or_parts false b e = (refl, e)

bare_step : (b : ℕ) → is_bare b ≡ true → plain_step 1 b ≡ (Some (Plain b), plain_state)
bare_step b bare =
    let p7 = or_parts _ (b == 92) (not_true _ bare) in
    let p6 = or_parts _ (b == 34) p7.0 in
    let p5 = or_parts _ (b == 39) p6.0 in
    let p4 = or_parts _ (b == 35) p5.0 in
    let p3 = or_parts _ (b == 59) p4.0 in
    let p2 = or_parts _ (b == 10) p3.0 in
    rw (p2.0, p2.1, p3.1, p4.1, p5.1, p6.1, p7.1) refl

quoted_step : (b : ℕ) → needs_no_escape b ≡ true
    → double_step 1 b ≡ (Some (InQuotes b), double_state)
quoted_step b free =
    let p3 = or_parts _ (b == 92) (not_true _ free) in
    let p2 = or_parts _ (b == 36) p3.0 in
    let p1 = or_parts (b == 10) (b == 34) p2.0 in
    rw (p1.1, p1.0, p3.1) refl

-- bytes that stand for themselves outside quotes
pub bare_signs : (s rest : List ℕ) → list_all is_bare s ≡ true
    → signs_from plain_state (s ++ rest) ≡ map plain_sign s ++ signs_from plain_state rest
bare_signs [] rest all = refl
bare_signs (b ∷ s) rest all =
    let parts = and_parts (is_bare b) (list_all is_bare s) all in
    rw (bare_step b parts.0) (ap (λ l. plain_sign b ∷ l) (bare_signs s rest parts.1))

-- bytes that stand for themselves in double quotes
pub quoted_signs : (s rest : List ℕ) → list_all needs_no_escape s ≡ true
    → signs_from double_state (s ++ rest) ≡ map quoted_sign s ++ signs_from double_state rest
quoted_signs [] rest all = refl
quoted_signs (b ∷ s) rest all =
    let parts = and_parts (needs_no_escape b) (list_all needs_no_escape s) all in
    rw (quoted_step b parts.0) (ap (λ l. quoted_sign b ∷ l) (quoted_signs s rest parts.1))

-- a byte as it is read where it was written in double quotes
abbrev pub escaped_sign : ℕ → Sign
escaped_sign b = if needs_no_escape b then quoted_sign b else sign 1 (Literal b)

special_sign : (b : ℕ) (x : List ℕ) (n : ℕ) → (b == n) ≡ true
    → signs_from double_state (escape n ++ x) ≡ escaped_sign n ∷ signs_from double_state x
    → signs_from double_state (escape b ++ x) ≡ escaped_sign b ∷ signs_from double_state x
special_sign b x n same at =
    let is : n ≡ b = grind (arith, nat_tests) in
    subst (λ (m : ℕ). signs_from double_state (escape m ++ x)
    ≡ escaped_sign m ∷ signs_from double_state x) is at

free_sign : (b : ℕ) (x : List ℕ) → (b == 10) ≡ false → (b == 34) ≡ false → (b == 36) ≡ false
    → (b == 92) ≡ false
    → signs_from double_state (escape b ++ x) ≡ escaped_sign b ∷ signs_from double_state x
free_sign b x e10 e34 e36 e92 =
    let free : needs_no_escape b ≡ true = rw (e10, e34, e36, e92) refl in
    let alone : escape b ≡ b ∷ [] = rw (e10, e34, e36, e92) refl in
    let one : signs_from double_state (b ∷ x)
    ≡ quoted_sign b ∷ signs_from double_state x = rw (quoted_step b free) refl in
    let is : quoted_sign b ≡ escaped_sign b =
    sym (ap (λ t. if t then quoted_sign b else sign 1 (Literal b)) free) in
    ap (λ l. signs_from double_state (l ++ x)) alone ∙ one
    ∙ ap (λ f. f ∷ signs_from double_state x) is

escape_sign_at : (b : ℕ) (x : List ℕ) (t10 t34 t36 t92 : Bool)
    → (b == 10) ≡ t10 → (b == 34) ≡ t34 → (b == 36) ≡ t36 → (b == 92) ≡ t92
    → signs_from double_state (escape b ++ x) ≡ escaped_sign b ∷ signs_from double_state x
escape_sign_at b x true t34 t36 t92 e10 e34 e36 e92 = special_sign b x 10 e10 refl
escape_sign_at b x false true t36 t92 e10 e34 e36 e92 = special_sign b x 34 e34 refl
escape_sign_at b x false false true t92 e10 e34 e36 e92 = special_sign b x 36 e36 refl
escape_sign_at b x false false false true e10 e34 e36 e92 = special_sign b x 92 e92 refl
escape_sign_at b x false false false false e10 e34 e36 e92 = free_sign b x e10 e34 e36 e92

-- bytes that were written in double quotes
pub escaped_signs : (s rest : List ℕ)
    → signs_from double_state (flat_map escape s ++ rest)
    ≡ map escaped_sign s ++ signs_from double_state rest
escaped_signs [] rest = refl
escaped_signs (b ∷ s) rest =
    ap (signs_from double_state) (append_assoc (escape b) (flat_map escape s) rest)
    ∙ escape_sign_at b (flat_map escape s ++ rest) (b == 10) (b == 34) (b == 36)
    (b == 92) refl refl refl refl
    ∙ ap (λ l. escaped_sign b ∷ l) (escaped_signs s rest)

-- the bytes are past ASCII
abbrev AreHigh : List ℕ → Type 0
AreHigh [] = Unit {0}
AreHigh (b ∷ s) = (128 ≤ b) × AreHigh s

escape_high : (b : ℕ) → 128 ≤ b → escape b ≡ b ∷ []
escape_high b high = grind (arith, nat_tests)

escape_all_high : (s : List ℕ) → AreHigh s → flat_map escape s ≡ s
escape_all_high [] high = refl
escape_all_high (b ∷ s) high =
    ap (λ l. l ++ flat_map escape s) (escape_high b high.0)
    ∙ ap (λ l. b ∷ l) (escape_all_high s high.1)

escape_choice : (b : Bool) (s t : List ℕ) → flat_map escape s ≡ s → flat_map escape t ≡ t
    → flat_map escape (cond b s t) ≡ cond b s t
escape_choice true s t one other = one
escape_choice false s t one other = other

high_encode : (c : ℕ) → ltb c 128 ≡ false → flat_map escape (encode c) ≡ encode c
unfolding encode
high_encode c past =
    let two = escape_all_high ((192 + c / 64) ∷ next c ∷ []) (omega arith, (omega arith, tt)) in
    let three = escape_all_high ((224 + c / 4096) ∷ next (c / 64) ∷ next c ∷ [])
    (omega arith, (omega arith, (omega arith, tt))) in
    let four = escape_all_high ((240 + c / 262144) ∷ next (c / 4096) ∷ next (c / 64) ∷ next c ∷ [])
    (omega arith, (omega arith, (omega arith, (omega arith, tt)))) in
    rw past (escape_choice (ltb c 2048) _ _ two (escape_choice (ltb c 65536) _ _ three four))

ascii_two : (a b : ℕ) → a < 128 → b < 128 → IsAscii (a ∷ b ∷ [])
ascii_two a b low lower = IsAscii-push (a ∷ []) b (IsAscii-push [] a IsAscii-nil low) lower

ascii_at : (b : ℕ) → b < 128 → (t u : Bool)
    → IsAscii (if t then 92 ∷ 110 ∷ [] else (if u then 92 ∷ b ∷ [] else b ∷ []))
ascii_at b small true u = ascii_two 92 110 (omega arith) (omega arith)
ascii_at b small false true = ascii_two 92 b (omega arith) small
ascii_at b small false false = IsAscii-push [] b IsAscii-nil small

escape_ascii : (b : ℕ) → b < 128 → IsAscii (escape b)
escape_ascii b small = ascii_at b small (b == 10) (b == 34 || b == 36 || b == 92)

-- what is written in quotes for UTF-8 is UTF-8
escape_char : (c : ℕ) → scalar c ≡ true → (t : Bool) → ltb c 128 ≡ t
    → IsUtf8 (flat_map escape (encode c))
escape_char c is true small =
    let low : c < 128 = grind (arith, nat_tests) in
    let alone : flat_map escape (encode c) ≡ escape c =
    ap (flat_map escape) (encode_ascii c low) ∙ append-nil (escape c) in
    subst IsUtf8 (sym alone) (IsUtf8-from_ascii (escape c) (escape_ascii c low))
escape_char c is false past = subst IsUtf8 (sym (high_encode c past)) (IsUtf8-encode c is)

escaped_chars : (cs : List ℕ) → scalars cs ≡ true → IsUtf8 (flat_map escape (encode_utf8_all cs))
escaped_chars [] all = IsUtf8-from_ascii [] IsAscii-nil
escaped_chars (c ∷ cs) all =
    let both = and_parts (scalar c) (scalars cs) all in
    subst IsUtf8 (sym (flat_map-append escape (encode c) (encode_utf8_all cs)))
    (IsUtf8-append (flat_map escape (encode c)) (flat_map escape (encode_utf8_all cs))
    (escape_char c both.0 (ltb c 128) refl) (escaped_chars cs both.1))

pub escaped_utf8 : (s : List ℕ) → IsUtf8 s → IsUtf8 (flat_map escape s)
escaped_utf8 s utf8 = subst (λ t. IsUtf8 (flat_map escape t)) utf8.1.1
    (escaped_chars utf8.0 utf8.1.0)
