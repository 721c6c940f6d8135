-- What is cleaned is a text that a draft may hold.
use Rattle.std.proofs.Common.{◌≡◌, ℕ, zero, suc, ◌<◌, ◌≤◌, Bool, true, false, List, [], ◌∷◌}
use Rattle.std.proofs.Common.{◌++◌, length, map, drop, replicate, Option, Some, None, refl, sym, ap}
use Rattle.std.proofs.Common.{subst, ◌∙◌, arith}
use Rattle.std.specs.Prelude.{encode_utf8, if◌then◌else◌}
use Rattle.std.specs.List.{flat_map, list_all}
use Rattle.std.specs.Str.{IsUtf8, is_utf8}
use Rattle.std.proofs.Common.{length-drop}
use Rattle.std.proofs.lemmas.Bool.{and_from, and_parts}
use Rattle.std.proofs.lemmas.List.Folds.{list_all-append}
use Rattle.std.proofs.lemmas.Str.{IsUtf8-append, IsUtf8-encode, IsUtf8-from_is_utf8, IsUtf8-nil}
use Rattle.std.proofs.lemmas.Str.{encode_ascii, is_utf8-from_IsUtf8}
use Rattle.bstr.specs.Utf8.{decoded}
use Rattle.bstr.proofs.lemmas.PieceLemmas.{piece-bounds, pieces-nil, pieces-step}
use Rattle.bstr.proofs.lemmas.SoundLemmas.{SpellsChar-decoded}
use Rattle.mail_base.specs.Shown.{shown, utf8_text}
use Rattle.mail_base.specs.Written.{is_line_byte}
use Rattle.drafts.specs.Clean.{clean, on_line}
use Rattle.drafts.specs.PlainDraft.{is_text}

-- one text behind another is one
pub text_append : (s t : List ℕ) → is_text s ≡ true → is_text t ≡ true → is_text (s ++ t) ≡ true
text_append s t first second =
    let p = and_parts (is_utf8 s) (list_all is_line_byte s) first in
    let q = and_parts (is_utf8 t) (list_all is_line_byte t) second in
    and_from (is_utf8 (s ++ t)) (list_all is_line_byte (s ++ t))
    (is_utf8-from_IsUtf8 (s ++ t)
    (IsUtf8-append s t (IsUtf8-from_is_utf8 s p.0) (IsUtf8-from_is_utf8 t q.0)))
    (list_all-append is_line_byte s t
    ∙ and_from (list_all is_line_byte s) (list_all is_line_byte t) p.1 q.1)

empty_text : is_text [] ≡ true
empty_text = and_from (is_utf8 []) true (is_utf8-from_IsUtf8 [] IsUtf8-nil) refl

marks_text : (n : ℕ) → is_text (replicate n 63) ≡ true
marks_text zero = empty_text
marks_text (suc n) =
    let mark : IsUtf8 (63 ∷ []) =
    subst IsUtf8 (encode_ascii 63 (omega arith)) (IsUtf8-encode 63 refl) in
    text_append (63 ∷ []) (replicate n 63)
    (and_from (is_utf8 (63 ∷ [])) true (is_utf8-from_IsUtf8 (63 ∷ []) mark) refl)
    (marks_text n)

shown_nil : utf8_text [] ≡ []
unfolding utf8_text
shown_nil = ap (flat_map (λ p. shown p.char p.size)) pieces-nil

shown_step : (s : List ℕ) → 0 < length s
    → utf8_text s ≡ shown (decoded s).char (decoded s).size
    ++ utf8_text (drop (decoded s).size s)
unfolding utf8_text
shown_step s some = ap (flat_map (λ p. shown p.char p.size)) (pieces-step s some)

-- a suffix of bytes of lines
lines_left : (n : ℕ) (s : List ℕ) → list_all is_line_byte s ≡ true
    → list_all is_line_byte (drop n s) ≡ true
lines_left zero s all = all
lines_left (suc n) [] all = refl
lines_left (suc n) (b ∷ s) all =
    let both = and_parts (is_line_byte b) (list_all is_line_byte s) all in lines_left n s both.1

-- a piece is shown on one line
piece_text : (s : List ℕ) (o : Option ℕ) → (decoded s).char ≡ o → list_all is_line_byte s ≡ true
    → is_text (shown o (decoded s).size) ≡ true
piece_text s None is all = marks_text (decoded s).size
piece_text s (Some c) is all =
    let spells = SpellsChar-decoded s c is in
    let first = encode_utf8 c in
    let both = and_parts (list_all is_line_byte first)
    (list_all is_line_byte (drop (decoded s).size s))
    (sym (list_all-append is_line_byte first (drop (decoded s).size s))
    ∙ ap (list_all is_line_byte) (sym spells.bytes) ∙ all) in
    and_from (is_utf8 first) (list_all is_line_byte first)
    (is_utf8-from_IsUtf8 first (IsUtf8-encode c spells.scalar)) both.0

shown_text : (n : ℕ) (s : List ℕ) → length s ≤ n → list_all is_line_byte s ≡ true
    → is_text (utf8_text s) ≡ true
shown_text n [] small all = ap is_text shown_nil ∙ empty_text
shown_text zero (b ∷ s) small all = absurd (omega arith)
shown_text (suc n) (b ∷ s) small all =
    let l = b ∷ s in
    let bounds = piece-bounds l (omega arith) in
    let size = (decoded l).size in
    ap is_text (shown_step l (omega arith))
    ∙ text_append (shown (decoded l).char size) (utf8_text (drop size l))
    (piece_text l (decoded l).char refl all)
    (shown_text n (drop size l) (omega (arith, bounds.0, length-drop size l))
    (lines_left size l all))

on_line_is : (b : ℕ) → is_line_byte (on_line b) ≡ true
on_line_is b = by_test (is_line_byte b) refl
  where
    by_test : (p : Bool) → is_line_byte b ≡ p → is_line_byte (if p then b else 32) ≡ true
    by_test true is = is
    by_test false is = refl

on_lines : (s : List ℕ) → list_all is_line_byte (map on_line s) ≡ true
on_lines [] = refl
on_lines (b ∷ s) =
    and_from (is_line_byte (on_line b)) (list_all is_line_byte (map on_line s)) (on_line_is b)
    (on_lines s)

-- bytes that are cleaned are a text
pub clean_text : (s : List ℕ) → is_text (clean s) ≡ true
clean_text s = shown_text (length (map on_line s)) (map on_line s) (omega arith) (on_lines s)
