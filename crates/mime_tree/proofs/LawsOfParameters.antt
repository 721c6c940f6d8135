-- A parameter that is written in quotes is read back.
use Rattle.std.proofs.Common.{◌≡◌, ℕ, ◌<◌, ◌==◌, ◌&&◌, ◌||◌, Bool, true, false, not, nat_lt, List}
use Rattle.std.proofs.Common.{[], ◌∷◌, ◌++◌, length, take, drop, Some, None, option_map, refl, ap}
use Rattle.std.proofs.Common.{◌∙◌, arith}
use Rattle.std.specs.Prelude.{if◌then◌else◌}
use Rattle.std.specs.List.{find, list_all}
use Rattle.std.specs.Str.{str_eq_ignore_ascii_case, str_to_ascii_lowercase}
use Rattle.std.proofs.lemmas.Bool.{and_parts, or_parts}
use Rattle.std.proofs.lemmas.Bool.Decides.{nat_tests}
use Rattle.std.proofs.lemmas.List.{take_at, drop_at}
use Rattle.mail_base.specs.Blanks.{is_blank, without_blanks}
use Rattle.mail_base.specs.Fronts.{◌>>=◌, behind}
use Rattle.mail_base.specs.Tokens.{is_token_byte, token_len}
use Rattle.mail_base.proofs.FrontsLemmas.{bytes_eq_same}
use Rattle.mail_base.proofs.RoundPlaces.{prefix_stop}
use Rattle.mail_base.specs.Written.{escaped}
use Rattle.mime_tree.specs.Laws.{is_token, WrittenParameterIsRead}
use Rattle.mime_tree.specs.Parameter.{PlainParameter, PlainValue, named_value, parameter_at}
use Rattle.mime_tree.specs.Parameter.{parameters_from, parameters_with, quoted_value, value_of}
use Rattle.mime_tree.specs.Parameter.{with_byte, is_named}

-- what a quoted string holds, and nothing behind it
abbrev read : List ℕ → PlainValue
read value = record { bytes = value; rest = [] }

quoted_value_is : (value : List ℕ)
    → quoted_value false (escaped value ++ 34 ∷ []) ≡ Some (read value)
quoted_value_is [] = refl
quoted_value_is (b ∷ value) = by_test (b == 34 || b == 92) refl (quoted_value_is value)
  where
    by_test : (t : Bool) → (b == 34 || b == 92) ≡ t
        → quoted_value false (escaped value ++ 34 ∷ []) ≡ Some (read value)
        → quoted_value false ((if t then 92 ∷ b ∷ escaped value else b ∷ escaped value) ++ 34 ∷ [])
        ≡ Some (read (b ∷ value))
    by_test true is more = ap (option_map (with_byte b)) more
    by_test false is more =
        let other = or_parts (b == 34) (b == 92) is in
        rw (other.0, other.1) (ap (option_map (with_byte b)) more)

twice_not : (s : List ℕ) → list_all is_token_byte s ≡ true
    → list_all (λ b. not (not (is_token_byte b))) s ≡ true
twice_not [] all = refl
twice_not (b ∷ s) all =
    let both = and_parts (is_token_byte b) (list_all is_token_byte s) all in
    rw both.0 (twice_not s both.1)

token_len_is : (name rest : List ℕ) → list_all is_token_byte name ≡ true
    → token_len (name ++ 61 ∷ rest) ≡ length name
token_len_is name rest all =
    prefix_stop (λ b. not (not (is_token_byte b))) name 61 rest (twice_not name all) refl

all_token : (name : List ℕ) → is_token name ≡ true → list_all is_token_byte name ≡ true
all_token [] e = absurd (cc)
all_token (b ∷ name) e = e

some_token : (name : List ℕ) → is_token name ≡ true → (length name == 0) ≡ false
some_token [] e = absurd (cc)
some_token (b ∷ name) e = let some : 0 < length (b ∷ name) = omega arith in grind (arith, nat_tests)

token_solid : (b : ℕ) → nat_lt 32 b ≡ true → is_blank b ≡ false
token_solid b above = grind (arith, nat_tests)

token_stays : (name rest : List ℕ) → is_token name ≡ true
    → without_blanks (name ++ rest) ≡ name ++ rest
token_stays [] rest e = absurd (cc)
token_stays (b ∷ name) rest e =
    let first = (and_parts (is_token_byte b) (list_all is_token_byte name) e).0 in
    let outer = (and_parts (nat_lt 32 b && nat_lt b 127) _ first).0 in
    let above = (and_parts (nat_lt 32 b) (nat_lt b 127) outer).0 in
    rw (token_solid b above) refl

parameter_is : (name value : List ℕ) → is_token name ≡ true
    → parameter_at (name ++ 61 ∷ 34 ∷ (escaped value ++ 34 ∷ []))
    ≡ Some (record { name = name; value = read value })
parameter_is name value e =
    let tail = 34 ∷ (escaped value ++ 34 ∷ []) in
    let s = name ++ 61 ∷ tail in
    let len = token_len_is name tail (all_token name e) in
    let at : take (length name) s ≡ name = take_at name (61 ∷ tail) (length name) refl in
    let back : drop (length name) s ≡ 61 ∷ tail = drop_at name (61 ∷ tail) (length name) refl in
    ap (λ n. behind 61 (without_blanks (drop n s)) >>= (λ rest. if n == 0 then None
    else named_value (take n s) (without_blanks rest))) len
    ∙ ap (λ l. behind 61 (without_blanks l) >>= (λ rest. if length name == 0 then None
    else named_value (take (length name) s) (without_blanks rest))) back
    ∙ ap (λ t. if t then None else named_value (take (length name) s) tail) (some_token name e)
    ∙ ap (λ n. named_value n tail) at
    ∙ ap (option_map (λ (v : PlainValue). record { name = name; value = v }))
    (quoted_value_is value)

pub written_parameter_is_read : WrittenParameterIsRead
written_parameter_is_read name value e =
    let text = name ++ 61 ∷ 34 ∷ (escaped value ++ 34 ∷ []) in
    let found : PlainParameter = record { name = name; value = read value } in
    let more = parameters_from (length (32 ∷ text)) in
    let same : str_eq_ignore_ascii_case name name ≡ true =
    bytes_eq_same (str_to_ascii_lowercase name) in
    ap (λ s. value_of name (parameters_with more (32 ∷ text) (parameter_at s)))
    (token_stays name _ e)
    ∙ ap (λ o. value_of name (parameters_with more (32 ∷ text) o)) (parameter_is name value e)
    ∙ ap (λ t. option_map (λ (p : PlainParameter). p.value.bytes)
    (if t then Some found else find (is_named name)
    (more []))) same
