-- Commands of one line whose characters are known are read back.
use Rattle.std.proofs.Common.{◌≡◌, ℕ, Bool, true, false, not, List, [], ◌∷◌, ◌++◌, map, Option}
use Rattle.std.proofs.Common.{Some, None, option_to_list, refl, sym, ap, ◌∙◌, append_assoc, arith}
use Rattle.std.proofs.Common.{if◌then◌else◌}
use Rattle.std.proofs.lemmas.Bool.Decides.{nat_tests}
use Rattle.std.specs.List.{filter_map, list_all, flat_map, cons_option}
use Rattle.std.specs.Str.{IsUtf8}
use Rattle.std.proofs.lemmas.Bool.{and_parts}
use Rattle.std.proofs.lemmas.List.{append-nil}
use Rattle.std.proofs.lemmas.Str.{IsUtf8-append, IsUtf8-from_ascii, IsUtf8-from_is_utf8}
use Rattle.std.proofs.lemmas.Str.Ascii.{IsAscii-push, IsAscii-nil}
use Rattle.rc_lang_words.specs.declared.sign.Role.TheVariants.{Quote, Literal}
use Rattle.rc_lang_words.specs.declared.sign.Sign.{Sign}
use Rattle.rc_lang_words.specs.Laws.{QuotedIsRead, escape, needs_no_escape, one_line, quoted_word}
use Rattle.rc_lang_words.specs.Signs.{byte_of, is_active, is_blank, is_end, sign, signs_of}
use Rattle.rc_lang_words.specs.Words.{command_line, commands_from, ended_word}
use Rattle.rc_lang_words.specs.Words.{line_of, pieces_of, text_of, with_text}
use Rattle.rc_lang_words.specs.Words.{words_from}
use Rattle.rc_lang_words.proofs.QuotingLemmas.{escaped_sign, escaped_signs, escaped_utf8}
use Rattle.rc_lang_words.proofs.QuotingLemmas.{quoted_sign}
use Rattle.mail_base.proofs.ShownLemmas.{shown_utf8}
use Rattle.rc_lang_words.proofs.WordLemmas.{pieces_of_byte, with_text_append}

abbrev pub is_no_end : Sign → Bool
is_no_end s = not (is_end s)

abbrev pub is_no_blank : Sign → Bool
is_no_blank s = not (is_blank s)

-- the character begins no variable
abbrev pub is_no_start : Sign → Bool
is_no_start s = not (is_active 36 s)

not_false : (b : Bool) → not b ≡ true → b ≡ false
not_false true e = cc
not_false false e = refl

-- without an end all is one command
pub one_command : (so_far s : List Sign) → list_all is_no_end s ≡ true
    → commands_from so_far s ≡ record { signs = so_far ++ s; is_open = false } ∷ []
one_command so_far [] all = ap (λ l. record { signs = l; is_open = false } ∷ []) (sym
    (append-nil so_far))
one_command so_far (x ∷ s) all =
    let parts = and_parts (is_no_end x) (list_all is_no_end s) all in
    rw (not_false _ parts.0)
    (one_command (so_far ++ x ∷ []) s parts.1
    ∙ ap (λ l. record { signs = l; is_open = false } ∷ []) (append_assoc so_far (x ∷ []) s))

-- without a blank all is one word
pub one_word : (so_far s : List Sign) → list_all is_no_blank s ≡ true
    → words_from so_far s ≡ ended_word (so_far ++ s)
one_word so_far [] all = ap ended_word (sym (append-nil so_far))
one_word so_far (x ∷ s) all =
    let parts = and_parts (is_no_blank x) (list_all is_no_blank s) all in
    rw (not_false _ parts.0)
    (one_word (so_far ++ x ∷ []) s parts.1 ∙ ap ended_word (append_assoc so_far (x ∷ []) s))

text_of_cons : (o : Option ℕ) (t : List ℕ) → cons_option o t ≡ option_to_list o ++ t
text_of_cons None t = refl
text_of_cons (Some b) t = refl

-- without a `$` that counts a word is its text
pub text_word : (s : List Sign) → list_all is_no_start s ≡ true
    → pieces_of s ≡ with_text (text_of s) []
text_word [] all = refl
text_word (x ∷ s) all =
    let parts = and_parts (is_no_start x) (list_all is_no_start s) all in
    pieces_of_byte x s (rw (not_false _ parts.0) refl)
    ∙ ap (with_text (option_to_list (byte_of x))) (text_word s parts.1)
    ∙ sym (with_text_append (option_to_list (byte_of x)) (text_of s) [])
    ∙ ap (λ t. with_text t []) (sym (text_of_cons (byte_of x) (text_of s)))

-- bytes that were read are their characters' text
pub text_of_bytes : (f : ℕ → Sign) → ((b : ℕ) → byte_of (f b) ≡ Some b)
    → (s : List ℕ) (rest : List Sign)
    → text_of (map f s ++ rest) ≡ s ++ text_of rest
text_of_bytes f gives [] rest = refl
text_of_bytes f gives (b ∷ s) rest =
    ap (λ o. cons_option o (text_of (map f s ++ rest))) (gives b)
    ∙ ap (λ l. b ∷ l) (text_of_bytes f gives s rest)

pub all_signs : (p : Sign → Bool) (f : ℕ → Sign) → ((b : ℕ) → p (f b) ≡ true)
    → (s : List ℕ) (rest : List Sign)
    → list_all p rest ≡ true → list_all p (map f s ++ rest) ≡ true
all_signs p f passes [] rest all = all
all_signs p f passes (b ∷ s) rest all = rw (passes b) (all_signs p f passes s rest all)

abbrev pub quote : Sign
quote = sign 1 Quote

escaped_passes : (p : Sign → Bool) → ((b : ℕ) → p (quoted_sign b) ≡ true) → ((b : ℕ)
    → p (sign 1 (Literal b)) ≡ true)
    → (b : ℕ) → p (escaped_sign b) ≡ true
escaped_passes p free special b =
    elim (needs_no_escape b) as (λ t. p (if t then quoted_sign b else sign 1 (Literal b)) ≡ true)
    [ true ↦ free b | false ↦ special b ]

no_variable_at : (b : ℕ) (t : Bool) → needs_no_escape b ≡ t
    → is_no_start (if t then quoted_sign b else sign 1 (Literal b)) ≡ true
no_variable_at b true free = grind (arith, nat_tests)
no_variable_at b false special = refl

escaped_sign_byte : (b : ℕ) → byte_of (escaped_sign b) ≡ Some b
escaped_sign_byte b =
    elim (needs_no_escape b) as (λ t. byte_of (if t then quoted_sign b else sign 1 (Literal b))
    ≡ Some b)
    [ true ↦ refl | false ↦ refl ]

abbrev pub one_quote : List ℕ
one_quote = 34 ∷ []

pub quote_utf8 : IsUtf8 one_quote
quote_utf8 = IsUtf8-from_ascii one_quote (IsAscii-push [] 34 IsAscii-nil (omega arith))

quoted_utf8 : (w : List ℕ) → IsUtf8 w → IsUtf8 (quoted_word w)
quoted_utf8 w utf8 =
    IsUtf8-append one_quote (flat_map escape w ++ one_quote) quote_utf8
    (IsUtf8-append (flat_map escape w) one_quote (escaped_utf8 w utf8) quote_utf8)

-- a line of one word without a variable
line_read : (s : List Sign) (w : List ℕ) → list_all is_no_end (quote ∷ s) ≡ true
    → list_all is_no_blank (quote ∷ s) ≡ true → list_all is_no_start (quote ∷ s) ≡ true
    → text_of s ≡ w → filter_map command_line (commands_from [] (quote ∷ s))
    ≡ one_line (with_text w [] ∷ [])
line_read s w ends blanks actives text =
    ap (filter_map command_line) (one_command [] (quote ∷ s) ends)
    ∙ ap (λ ws. cons_option (line_of false ws) []) (one_word [] (quote ∷ s) blanks)
    ∙ ap (λ p. one_line (p ∷ [])) (text_word (quote ∷ s) actives)
    ∙ ap (λ t. one_line (with_text t [] ∷ [])) text

pub quoted_is_read : QuotedIsRead
quoted_is_read w utf8 =
    let s = map escaped_sign w ++ quote ∷ [] in
    ap (λ t. filter_map command_line (commands_from [] (signs_of t)))
    (shown_utf8 (quoted_word w) (quoted_utf8 w (IsUtf8-from_is_utf8 w utf8)))
    ∙ ap (λ l. filter_map command_line (commands_from [] (quote ∷ l))) (escaped_signs w one_quote)
    ∙ line_read s w
    (all_signs is_no_end escaped_sign (escaped_passes is_no_end (λ b. refl) (λ b. refl)) w
    (quote ∷ []) refl)
    (all_signs is_no_blank escaped_sign (escaped_passes is_no_blank (λ b. refl) (λ b. refl)) w
    (quote ∷ []) refl)
    (all_signs is_no_start escaped_sign (λ b. no_variable_at b (needs_no_escape b) refl) w
    (quote ∷ []) refl)
    (text_of_bytes escaped_sign escaped_sign_byte w (quote ∷ []) ∙ append-nil w)
