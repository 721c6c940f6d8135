-- How bytes are shown as UTF-8, run by run.
use Rattle.std.proofs.Common.{◌≡◌, ℕ, ◌+◌, ◌<◌, ◌≤◌, List, [], ◌∷◌, ◌++◌, length, take, drop}
use Rattle.std.proofs.Common.{replicate, None, true, refl, sym, ap, ◌∙◌, arith, append_assoc}
use Rattle.std.proofs.Common.{length-append}
use Rattle.std.specs.Prelude.{encode_utf8}
use Rattle.std.specs.List.{flat_map}
use Rattle.std.specs.Str.{IsUtf8, byte, encode_utf8_all}
use Rattle.std.proofs.lemmas.Bool.{and_parts}
use Rattle.std.proofs.lemmas.List.{append-nil, drop-drop, drop_at, replicate-append-replicate}
use Rattle.std.proofs.lemmas.List.{take-append-drop}
use Rattle.std.proofs.lemmas.Str.{length-encode, len_utf8_bounds}
use lib.Utf8.{scalar, scalars}
use Rattle.bstr.specs.Utf8.{Decoded, decoded, good}
use Rattle.bstr.proofs.lemmas.EncodeLemmas.{decoded-encode}
use Rattle.bstr.proofs.lemmas.PieceLemmas.{piece-bounds, pieces-nil, pieces-step}
use Rattle.mail_base.specs.Shown.{shown, utf8_text}

pub utf8_text-nil : utf8_text [] ≡ []
unfolding utf8_text
utf8_text-nil = ap (flat_map (λ p. shown p.char p.size)) pieces-nil

utf8_text-step : (bytes : List ℕ) → 0 < length bytes
    → utf8_text bytes ≡ shown (decoded bytes).char (decoded bytes).size
    ++ utf8_text (drop (decoded bytes).size bytes)
unfolding utf8_text
utf8_text-step bytes some = ap (flat_map (λ p. shown p.char p.size)) (pieces-step bytes some)

encoded_some : (c : ℕ) → 0 < length (encode_utf8 c)
encoded_some c = let bounds = len_utf8_bounds c in omega (arith, length-encode c)

front_chars : (cs rest : List ℕ) → scalars cs ≡ true
    → utf8_text (encode_utf8_all cs ++ rest) ≡ encode_utf8_all cs ++ utf8_text rest
front_chars [] rest all = refl
front_chars (c ∷ cs) rest all =
    let both = and_parts (scalar c) (scalars cs) all in
    let first = encode_utf8 c in
    let later = encode_utf8_all cs ++ rest in
    let some : 0 < length (first ++ later) =
    omega (arith, encoded_some c, length-append first later) in
    let read : decoded (first ++ later) ≡ good c (length first) = decoded-encode c later both.0 in
    let rest_is : drop (decoded (first ++ later)).size (first ++ later) ≡ later =
    drop_at first later _ (sym (ap (λ (p : Decoded). p.size) read)) in
    ap utf8_text (append_assoc first (encode_utf8_all cs) rest)
    ∙ utf8_text-step (first ++ later) some
    ∙ ap (λ (p : Decoded). shown p.char p.size
    ++ utf8_text (drop (decoded (first ++ later)).size (first ++ later)))
    read
    ∙ ap (λ t. first ++ utf8_text t) rest_is
    ∙ ap (λ t. first ++ t) (front_chars cs rest both.1)
    ∙ sym (append_assoc first (encode_utf8_all cs) (utf8_text rest))

-- UTF-8 at the front is shown as it is
pub utf8_text_front : (front rest : List ℕ) → IsUtf8 front
    → utf8_text (front ++ rest) ≡ front ++ utf8_text rest
utf8_text_front front rest utf8 =
    ap (λ f. utf8_text (f ++ rest)) (sym utf8.1.1)
    ∙ front_chars utf8.0 rest utf8.1.0
    ∙ ap (λ f. f ++ utf8_text rest) utf8.1.1

-- UTF-8 is shown as it is
pub shown_utf8 : (s : List ℕ) → IsUtf8 s → utf8_text s ≡ s
shown_utf8 s utf8 =
    ap utf8_text (sym (append-nil s)) ∙ utf8_text_front s [] utf8 ∙ ap (λ t. s ++ t) utf8_text-nil
    ∙ append-nil s

-- a piece lies in its bytes
pub piece_within : (bytes : List ℕ) → (decoded bytes).size ≤ length bytes
piece_within [] = omega arith
piece_within (b ∷ rest) = let bounds = piece-bounds (b ∷ rest) (omega arith) in bounds.2

-- and has a byte where one is there
pub piece_some : (bytes : List ℕ) → 0 < length bytes → 0 < (decoded bytes).size
piece_some bytes some = let bounds = piece-bounds bytes some in omega (arith, bounds.0)

-- a `?` for each byte of a piece that is no character
pub utf8_text_piece : (bytes : List ℕ) (size : ℕ) → size ≡ (decoded bytes).size
    → (decoded bytes).char ≡ None
    → utf8_text bytes ≡ replicate size (byte "?") ++ utf8_text (drop size bytes)
utf8_text_piece [] size is none = ap (λ n. replicate n (byte "?") ++ utf8_text (drop n [])) (sym is)
utf8_text_piece (b ∷ rest) size is none =
    let bytes = b ∷ rest in
    utf8_text-step bytes (omega arith)
    ∙ ap (λ o. shown o (decoded bytes).size ++ utf8_text (drop (decoded bytes).size bytes)) none
    ∙ ap (λ n. replicate n (byte "?") ++ utf8_text (drop n bytes)) (sym is)

-- malformed bytes behind malformed bytes
pub utf8_text_marks : (bytes : List ℕ) (len more : ℕ)
    → utf8_text bytes ≡ replicate len (byte "?") ++ utf8_text (drop len bytes)
    → utf8_text (drop len bytes) ≡ replicate more (byte "?")
    ++ utf8_text (drop more (drop len bytes))
    → utf8_text bytes ≡ replicate (len + more) (byte "?") ++ utf8_text (drop (len + more) bytes)
utf8_text_marks bytes len more first next =
    first
    ∙ ap (λ t. replicate len (byte "?") ++ t) next
    ∙ sym (append_assoc (replicate len (byte "?")) (replicate more (byte "?"))
    (utf8_text (drop more (drop len bytes))))
    ∙ ap (λ l. l ++ utf8_text (drop more (drop len bytes)))
    (replicate-append-replicate len more (byte "?"))
    ∙ ap (λ l. replicate (len + more) (byte "?") ++ utf8_text l) (drop-drop more len bytes)

-- text, the malformed bytes behind it, and the rest
pub utf8_text_run : (bytes : List ℕ) (len more : ℕ) → IsUtf8 (take len bytes)
    → utf8_text (drop len bytes) ≡ replicate more (byte "?")
    ++ utf8_text (drop more (drop len bytes))
    → utf8_text bytes ≡ take len bytes
    ++ (replicate more (byte "?") ++ utf8_text (drop more (drop len bytes)))
utf8_text_run bytes len more utf8 next =
    ap utf8_text (sym (take-append-drop len bytes))
    ∙ utf8_text_front (take len bytes) (drop len bytes) utf8
    ∙ ap (λ t. take len bytes ++ t) next

-- without bytes nothing is shown
pub utf8_text_none : (bytes : List ℕ) → length bytes ≡ 0 → utf8_text bytes ≡ []
utf8_text_none [] none = utf8_text-nil
utf8_text_none (b ∷ rest) none = absurd (omega arith)
