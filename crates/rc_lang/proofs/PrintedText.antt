-- What a query prints of a text is read back behind `set`.
use Rattle.std.proofs.Common.{◌≡◌, ℕ, ◌==◌, ◌<◌, ltb, Bool, true, not, List, []}
use Rattle.std.proofs.Common.{◌∷◌, ◌++◌, map, refl, ap, ◌∙◌, arith, append_assoc}
use Rattle.std.specs.Prelude.{codes}
use Rattle.std.specs.List.{filter_map, list_all}
use Rattle.std.specs.Str.{IsUtf8}
use Rattle.std.proofs.lemmas.Bool.{and_parts}
use Rattle.std.proofs.lemmas.Bool.Decides.{nat_tests}
use Rattle.std.proofs.lemmas.List.{append-nil}
use Rattle.std.proofs.lemmas.Str.{IsUtf8-append, IsUtf8-from_ascii, IsUtf8-from_is_utf8}
use Rattle.std.proofs.lemmas.Str.Ascii.{IsAscii-push, IsAscii-nil}
use Rattle.rc_lang_words.specs.declared.sign.Role.TheVariants.{Blank}
use Rattle.rc_lang_words.specs.declared.sign.Sign.{Sign}
use Rattle.rc_lang.specs.Laws.{PrintedIsRead}
use Rattle.rc_lang_words.specs.Laws.{needs_no_escape, one_line}
use Rattle.rc_lang_words.specs.Signs.{sign, signs_of}
use Rattle.rc_lang.specs.Values.{Text as TextValue, printed_line}
use Rattle.rc_lang.specs.Variables.{row_of}
use Rattle.rc_lang_words.specs.Words.{command_line, commands_from}
use Rattle.rc_lang_words.specs.Words.{joined_words, lines_of, pieces_of}
use Rattle.rc_lang_words.specs.Words.{text_of, with_text, words_from}
use Rattle.rc_lang.proofs.OwnRows.{is_good_name, own_ascii, own_good}
use Rattle.rc_lang_words.proofs.QuotingLemmas.{bare_signs, is_bare, plain_sign}
use Rattle.rc_lang_words.proofs.QuotingLemmas.{quoted_sign, quoted_signs}
use Rattle.rc_lang_words.proofs.ReadBack.{all_signs, is_no_blank, is_no_end, is_no_start}
use Rattle.rc_lang_words.proofs.ReadBack.{one_command, one_quote, one_word, quote, quote_utf8}
use Rattle.rc_lang_words.proofs.ReadBack.{text_of_bytes, text_word}
use Rattle.mail_base.proofs.ShownLemmas.{shown_utf8}

signs_where : (p : Sign → Bool) (f : ℕ → Sign) (q : ℕ → Bool) → ((b : ℕ) → q b ≡ true
    → p (f b) ≡ true) → (s : List ℕ)
    (rest : List Sign) → list_all q s ≡ true → list_all p rest ≡ true
    → list_all p (map f s ++ rest) ≡ true
signs_where p f q passes [] rest all more = more
signs_where p f q passes (b ∷ s) rest all more =
    let parts = and_parts (q b) (list_all q s) all in
    rw (passes b parts.0) (signs_where p f q passes s rest parts.1 more)

no_start : (b : ℕ) → needs_no_escape b ≡ true → is_no_start (quoted_sign b) ≡ true
no_start b free = grind (arith, nat_tests)

abbrev set_word : List Sign
set_word = plain_sign 115 ∷ plain_sign 101 ∷ plain_sign 116 ∷ []

-- the characters of a text in quotes behind its name
abbrev value_signs : List ℕ → List Sign
value_signs t = plain_sign 61 ∷ quote ∷ (map quoted_sign t ++ quote ∷ [])

abbrev assigned_signs : List ℕ → List ℕ → List Sign
assigned_signs name t = map plain_sign name ++ value_signs t

abbrev set_signs : List ℕ → List ℕ → List Sign
set_signs name t = set_word ++ sign 1 Blank ∷ assigned_signs name t

regrouped : (name t : List ℕ) → printed_line name (TextValue t) ≡ name ++ 61 ∷ 34 ∷ (t ++ one_quote)
regrouped name t =
    append_assoc ((name ++ 61 ∷ []) ++ one_quote) t one_quote
    ∙ append_assoc (name ++ 61 ∷ []) one_quote (t ++ one_quote)
    ∙ append_assoc name (61 ∷ []) (34 ∷ (t ++ one_quote))

-- the characters of the whole line
signs_read : (name t : List ℕ) → list_all is_bare name ≡ true → list_all needs_no_escape t ≡ true
    → signs_of (codes "set " ++ printed_line name (TextValue t)) ≡ set_signs name t
signs_read name t bare free =
    ap (λ p. signs_of (codes "set " ++ p)) (regrouped name t)
    ∙ ap (λ l. set_word ++ sign 1 Blank ∷ l) (bare_signs name (61 ∷ 34 ∷ (t ++ one_quote)) bare)
    ∙ ap (λ l. set_word ++ sign 1 Blank ∷ (map plain_sign name ++ plain_sign 61 ∷ quote ∷ l))
    (quoted_signs t one_quote free)

passes_all : (p : Sign → Bool) (name t : List ℕ) → ((b : ℕ) → p (plain_sign b) ≡ true)
    → ((b : ℕ) → p (quoted_sign b) ≡ true)
    → p quote ≡ true → list_all p (assigned_signs name t) ≡ true
passes_all p name t bare free ends =
    all_signs p plain_sign bare name (value_signs t)
    (rw (bare 61, ends) (all_signs p quoted_sign free t (quote ∷ []) (rw ends refl)))

-- the two words
words_read : (b : ℕ) (name t : List ℕ)
    → joined_words (words_from [] (set_signs (b ∷ name) t)) ≡ set_word ∷ assigned_signs (b ∷ name) t
    ∷ []
words_read b name t =
    ap (λ ws. joined_words (set_word ∷ ws))
    (one_word [] (assigned_signs (b ∷ name) t)
    (passes_all is_no_blank (b ∷ name) t (λ x. refl) (λ x. refl) refl))

text_read : (name t : List ℕ) → text_of (assigned_signs name t) ≡ name ++ 61 ∷ t
text_read name t =
    text_of_bytes plain_sign (λ b. refl) name (value_signs t)
    ∙ ap (λ l. name ++ 61 ∷ l) (text_of_bytes quoted_sign (λ b. refl) t (quote ∷ []) ∙ append-nil t)

pieces_read : (name t : List ℕ) → list_all (λ x. not (x == 36)) name ≡ true
    → list_all needs_no_escape t ≡ true
    → pieces_of (assigned_signs name t) ≡ with_text (name ++ 61 ∷ t) []
pieces_read name t no_dollar free =
    text_word (assigned_signs name t)
    (signs_where is_no_start plain_sign (λ x. not (x == 36)) (λ b e. e) name
    (value_signs t) no_dollar
    (signs_where is_no_start quoted_sign needs_no_escape no_start t (quote ∷ []) free refl))
    ∙ ap (λ w. with_text w []) (text_read name t)

line_read : (name t : List ℕ) → is_good_name name ≡ true → list_all needs_no_escape t ≡ true
    → filter_map command_line (commands_from [] (signs_of (codes "set " ++ printed_line name
    (TextValue t))))
    ≡ one_line (with_text (codes "set") [] ∷ with_text (name ++ 61 ∷ t) [] ∷ [])
line_read [] t good free = cc
line_read (b ∷ name) t good free =
    let parts =
    and_parts (list_all is_bare (b ∷ name)) (list_all (λ x. not (x == 36)) (b ∷ name)) good in
    ap (λ s. filter_map command_line (commands_from [] s)) (signs_read (b ∷ name) t parts.0 free)
    ∙ ap (filter_map command_line)
    (one_command [] (set_signs (b ∷ name) t)
    (passes_all is_no_end (b ∷ name) t (λ x. refl) (λ x. refl) refl))
    ∙ ap (λ ws. one_line (map pieces_of ws)) (words_read b name t)
    ∙ ap (λ p. one_line (with_text (codes "set") [] ∷ p ∷ []))
    (pieces_read (b ∷ name) t parts.1 free)

ascii_utf8 : (s : List ℕ) → list_all (λ b. ltb b 128) s ≡ true → IsUtf8 s
ascii_utf8 [] all = IsUtf8-from_ascii [] IsAscii-nil
ascii_utf8 (b ∷ s) all =
    let parts = and_parts (ltb b 128) (list_all (λ b. ltb b 128) s) all in
    let small : b < 128 = grind (arith, nat_tests) in
    IsUtf8-append (b ∷ []) s (IsUtf8-from_ascii (b ∷ []) (IsAscii-push [] b IsAscii-nil small))
    (ascii_utf8 s parts.1)

printed_utf8 : (name t : List ℕ) → IsUtf8 name → IsUtf8 t → IsUtf8 (printed_line name (TextValue t))
printed_utf8 name t is_name is_text =
    IsUtf8-append (((name ++ 61 ∷ []) ++ one_quote) ++ t) one_quote
    (IsUtf8-append ((name ++ 61 ∷ []) ++ one_quote) t
    (IsUtf8-append (name ++ 61 ∷ []) one_quote (IsUtf8-append name (61 ∷ []) is_name (ascii_utf8
    (61 ∷ []) refl)) quote_utf8)
    is_text)
    quote_utf8

pub printed_is_read : PrintedIsRead
printed_is_read v t utf8 free =
    let name = (row_of v).name in
    let is_text = printed_utf8 name t (ascii_utf8 name (own_ascii v))
    (IsUtf8-from_is_utf8 t utf8) in
    ap (λ p. lines_of (codes "set " ++ p)) (shown_utf8 (printed_line name (TextValue t)) is_text)
    ∙ ap (λ l. filter_map command_line (commands_from [] (signs_of l)))
    (shown_utf8 (codes "set " ++ printed_line name (TextValue t))
    (IsUtf8-append (codes "set ") (printed_line name (TextValue t)) (ascii_utf8
    (codes "set ") refl) is_text))
    ∙ line_read name t (own_good v) free
