-- The laws of keys, names and bindings.
use Rattle.std.proofs.Common.{◌≡◌, ◌≢◌, ℕ, ◌<◌, ◌-◌, Bool, true, false, cond, ◌==◌, List, [], ◌∷◌}
use Rattle.std.proofs.Common.{Some, None, refl, sym, ap, ◌∙◌, subst, ⊎_elim, arith, find, length}
use Rattle.std.proofs.Common.{drop}
use Rattle.std.specs.Prelude.{encode_utf8, if◌then◌else◌, option_map, slice_index}
use Rattle.std.specs.List.{list_all}
use Rattle.std.proofs.Math.Seq.{drop-length}
use Rattle.std.proofs.Math.Bool.{and-false}
use Rattle.std.proofs.lemmas.Bool.{and_left, and_parts, cases_Bool, eqb-true, false_from_ne_true}
use Rattle.std.proofs.lemmas.Bool.{false≢true}
use Rattle.std.proofs.lemmas.List.{append-nil}
use Rattle.std.proofs.lemmas.Str.{length-encode, len_utf8_bounds}
use Rattle.bstr.specs.Utf8.{Decoded, decoded, good, or_replacement}
use Rattle.bstr.proofs.lemmas.EncodeLemmas.{decoded-encode}
use Rattle.bstr.proofs.lemmas.PieceLemmas.{value-1}
use Rattle.keymap.specs.Bindings.{action_of, binding, bound}
use Rattle.keymap.specs.Keys.{same_keys}
use Rattle.keymap.specs.Laws.{BoundCounts, CallIsRead, CharsAreRead, ClosedTells, FormsAreRead}
use Rattle.keymap.specs.Laws.{NamesAreRead}
use Rattle.keymap.specs.Laws.{FunctionIsFound, OthersStay, TextIsFirst}
use Rattle.keymap.specs.Pieces.{Piece, char_key, one_char}
use Rattle.keymap.specs.Stream.{Sent, begins, first_key, form_at, form_or, forms, keys_of}
use Rattle.keymap.specs.declared.function.Function.TheVariants.{NextUndeleted}
use Rattle.keymap.specs.declared.key.Key.{Key}
use Rattle.keymap.specs.declared.key.Key.TheVariants.{Char}
use Rattle.keymap.proofs.FunctionLemmas.{own_name}
use Rattle.keymap.proofs.KeyLemmas.{same_keys_is, same_keys_own}
use Rattle.keymap.proofs.PiecesLemmas.{pieces_step}
use Rattle.keymap.proofs.StreamLemmas.{first_told}

pub forms_are_read : FormsAreRead
forms_are_read = refl

pub names_are_read : NamesAreRead
names_are_read = refl

pub call_is_read : CallIsRead
call_is_read NextUndeleted = refl
call_is_read _ = refl

pub function_is_found : FunctionIsFound
function_is_found f = own_name f

pub closed_tells : ClosedTells
closed_tells bytes more closed = first_told bytes more closed

pub text_is_first : TextIsFirst
text_is_first key text waiting = refl

pub bound_counts : BoundCounts
bound_counts [] keys action =
    ap (λ b. option_map (λ c. c.action) (cond b (Some (binding keys action)) None))
    (same_keys_own keys)
bound_counts (b ∷ bindings) keys action = ⊎_elim
    (λ is.
    ap (λ t. action_of (if t then binding b.keys action ∷ bindings else b ∷ bound bindings keys
    action) keys) is
    ∙ ap (λ t. option_map (λ c. c.action) (cond t (Some (binding b.keys action))
    (find (λ c. same_keys keys c.keys) bindings))) is)
    (λ apart.
    ap (λ t. action_of (if t then binding b.keys action ∷ bindings else b ∷ bound bindings keys
    action) keys) apart
    ∙ ap (λ t. option_map (λ c. c.action) (cond t (Some b)
    (find (λ c. same_keys keys c.keys) (bound bindings keys action)))) apart
    ∙ bound_counts bindings keys action)
    (cases_Bool (same_keys keys b.keys))

-- other keys are not those of an equal sequence
other_keys : (keys others own : List Key) → same_keys keys others ≡ false → same_keys keys own
    ≡ true
    → same_keys others own ≡ false
other_keys keys others own apart is = false_from_ne_true (same_keys others own) (λ same.
    let both : keys ≡ others = same_keys_is keys own is ∙ sym (same_keys_is others own same) in
    false≢true (sym apart ∙ subst (λ k. same_keys keys k ≡ true) both (same_keys_own keys)))

pub others_stay : OthersStay
others_stay [] keys others action apart =
    let no = other_keys keys others keys apart (same_keys_own keys) in
    ap (λ b. option_map (λ c. c.action) (cond b (Some (binding keys action)) None)) no
others_stay (b ∷ bindings) keys others action apart = ⊎_elim
    (λ is.
    let no = other_keys keys others b.keys apart is in
    ap (λ t. action_of (if t then binding b.keys action ∷ bindings else b ∷ bound bindings keys
    action) others) is
    ∙ ap (λ t. option_map (λ c. c.action) (cond t (Some (binding b.keys action))
    (find (λ c. same_keys others c.keys) bindings))) no
    ∙ sym (ap (λ t. option_map (λ c. c.action) (cond t (Some b)
    (find (λ c. same_keys others c.keys) bindings))) no))
    (λ other.
    ap (λ t. action_of (if t then binding b.keys action ∷ bindings else b ∷ bound bindings keys
    action) others) other
    ∙ elim (same_keys others b.keys) as (λ t. option_map (λ c. c.action) (cond t (Some b)
    (find (λ c. same_keys others c.keys) (bound bindings keys action)))
    ≡ option_map (λ c. c.action) (cond t (Some b) (find (λ c. same_keys others c.keys) bindings)))
    [ true ↦ refl | false ↦ others_stay bindings keys others action apart ])
    (cases_Bool (same_keys keys b.keys))

-- a text that begins with ESC
abbrev is_escape : List ℕ → Bool
is_escape [] = false
is_escape (x ∷ text) = x == 27

escape_apart : (b : ℕ) (rest front : List ℕ) → b == 27 ≡ false → is_escape front ≡ true
    → begins (b ∷ rest) front ≡ false
escape_apart b rest [] apart escape = absurd (false≢true escape)
escape_apart b rest (x ∷ front) apart escape =
    and_left (b == x) (begins rest front)
    (ap (λ y. b == y) (eqb-true x 27 escape) ∙ apart)

-- no form stands at the front of another byte
no_form : (b : ℕ) (rest : List ℕ) (fs : List Sent) → b == 27 ≡ false
    → list_all (λ f. is_escape f.text) fs ≡ true → find (λ f. begins (b ∷ rest) f.text) fs ≡ None
no_form b rest [] apart all = refl
no_form b rest (f ∷ fs) apart all =
    let parts = and_parts (is_escape f.text) (list_all (λ g. is_escape g.text) fs) all in
    ap (λ t. cond t (Some f) (find (λ g. begins (b ∷ rest) g.text) fs))
    (escape_apart b rest f.text apart parts.0)
    ∙ no_form b rest fs apart parts.1

-- a form of several bytes
abbrev is_long : List ℕ → Bool
is_long [] = false
is_long (x ∷ []) = false
is_long (x ∷ y ∷ text) = true

long_apart : (b : ℕ) (front : List ℕ) → is_long front ≡ true → begins (b ∷ []) front ≡ false
long_apart b [] long = absurd (false≢true long)
long_apart b (x ∷ []) long = absurd (false≢true long)
long_apart b (x ∷ y ∷ front) long = and-false (b == x)

-- nor of one byte alone
no_form_of_one : (b : ℕ) (fs : List Sent) → list_all (λ f. is_long f.text) fs ≡ true
    → find (λ f. begins (b ∷ []) f.text) fs ≡ None
no_form_of_one b [] all = refl
no_form_of_one b (f ∷ fs) all =
    let parts = and_parts (is_long f.text) (list_all (λ g. is_long g.text) fs) all in
    ap (λ t. cond t (Some f) (find (λ g. begins (b ∷ []) g.text) fs)) (long_apart b f.text parts.0)
    ∙ no_form_of_one b fs parts.1

char_alone : (b : ℕ) (rest : List ℕ) (c : ℕ) → decoded (b ∷ rest) ≡ good c (length (b ∷ rest))
    → form_at (b ∷ rest) ≡ None
char_alone b rest c is = ⊎_elim
    (λ escape.
    let own : b ≡ 27 = eqb-true b 27 escape in
    let one : decoded (b ∷ rest) ≡ good b 1 =
    value-1 (length (b ∷ rest)) b (slice_index (b ∷ rest) 1) (slice_index (b ∷ rest) 2)
    (slice_index (b ∷ rest) 3) (omega arith, omega arith) in
    let short : length (b ∷ rest) ≡ 1 = sym (ap (λ d. d.size) is) ∙ ap (λ d. d.size) one in
    single b rest (omega arith))
    (λ apart. no_form b rest forms apart refl)
    (cases_Bool (b == 27))
  where
    single : (b : ℕ) (rest : List ℕ) → length rest ≡ 0 → form_at (b ∷ rest) ≡ None
    single b [] none = no_form_of_one b forms refl
    single b (x ∷ rest) none = absurd (omega arith)

char_read : (s : List ℕ) (c : ℕ) → 0 < length s → decoded s ≡ good c (length s) → c ≢ 10
    → keys_of s ≡ Char c ∷ []
char_read [] c some is plain = absurd (omega arith)
char_read (b ∷ rest) c some is plain =
    let first : first_key (b ∷ rest) ≡ record { value = char_key c; more = length (b ∷ rest) - 1 } =
    ap (λ f. form_or f (one_char (b ∷ rest))) (char_alone b rest c is) ∙ ap piece_of is in
    let other : c == 10 ≡ false = false_from_ne_true (c == 10) (λ same. plain
    (eqb-true c 10 same)) in
    let own : char_key c ≡ Char c = ap (λ t. if t then Char 13 else Char c) other in
    let all : length (b ∷ rest) - 1 ≡ length rest = omega arith in
    pieces_step first_key (b ∷ rest) some
    ∙ ap (λ p. p.value ∷ keys_of (drop p.more rest)) first
    ∙ ap (λ k. k ∷ keys_of (drop (length (b ∷ rest) - 1) rest)) own
    ∙ ap (λ n. Char c ∷ keys_of (drop n rest)) all
    ∙ ap (λ l. Char c ∷ keys_of l) (drop-length rest)
  where
    piece_of : Decoded → Piece Key
    piece_of d = record { value = char_key (or_replacement d.char); more = d.size - 1 }

pub chars_are_read : CharsAreRead
chars_are_read c is plain =
    let bounds = len_utf8_bounds c in
    let some : 0 < length (encode_utf8 c) = omega (arith, length-encode c) in
    char_read (encode_utf8 c) c some
    (ap decoded (sym (append-nil (encode_utf8 c))) ∙ decoded-encode c [] is) plain
