-- Text without encoded words, and UTF-8, show as they are.
use Rattle.std.proofs.Common.{◌≡◌, ℕ, ◌==◌, ◌&&◌, Bool, true, false, List, [], ◌∷◌, length}
use Rattle.std.proofs.Common.{Option, Some, None, option_map, refl, ap, ◌∙◌}
use Rattle.std.specs.Prelude.{is_some}
use Rattle.std.proofs.lemmas.Str.{IsUtf8-from_is_utf8}
use Rattle.std.proofs.lemmas.Bool.{or_parts}
use Rattle.mail_base.specs.Fronts.{behind}
use Rattle.mail_base.proofs.ShownLemmas.{shown_utf8}
use Rattle.headers.specs.Decode.{first_word, found_at, with_text}
use Rattle.headers.specs.EncodedWord.{encoded_word, written_word}
use Rattle.headers_laws.specs.Laws.{has_mark, PlainTextStays, Utf8Stays}
use Rattle.headers.proofs.DecodeLemmas.{decoded_from-absent}

none_of : (o : Option (List ℕ)) → is_some o ≡ false → o ≡ None
none_of None e = refl
none_of (Some s) e = cc

not_written : (b : ℕ) (rest : List ℕ) (t : Bool) → (b == 61) ≡ t
    → (t && is_some (behind 63 rest)) ≡ false
    → written_word (b ∷ rest) ≡ None
not_written b rest true is none = rw (is, none_of (behind 63 rest) none) refl
not_written b rest false is none = rw is refl

no_word : (b : ℕ) (rest : List ℕ) → (b == 61 && is_some (behind 63 rest)) ≡ false
    → encoded_word (b ∷ rest) ≡ None
no_word b rest none = rw (not_written b rest (b == 61) refl none) refl

no_word_found : (s : List ℕ) → has_mark s ≡ false → first_word s ≡ None
no_word_found [] none = refl
no_word_found (b ∷ rest) none =
    ap (λ o. found_at b o (first_word rest))
    (no_word b rest (or_parts (b == 61 && is_some (behind 63 rest)) (has_mark rest) none).0)
    ∙ ap (option_map (with_text (b ∷ [])))
    (no_word_found rest (or_parts (b == 61 && is_some (behind 63 rest)) (has_mark rest) none).1)

pub plain_text_stays : PlainTextStays
plain_text_stays s none = decoded_from-absent (length s) false s (no_word_found s none)

pub utf8_stays : Utf8Stays
utf8_stays s utf8 = shown_utf8 s (IsUtf8-from_is_utf8 s utf8)
