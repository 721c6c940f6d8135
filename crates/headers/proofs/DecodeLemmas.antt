-- How encoded words are found in a text, and how the text is decoded around them.
use Rattle.std.proofs.Common.{◌≡◌, ℕ, zero, suc, ◌+◌, ◌<◌, ◌≤◌, ◌==◌, Bool, true, false, List, []}
use Rattle.std.proofs.Common.{◌∷◌, ◌++◌, length, take, drop, Option, Some, None, option_map, refl}
use Rattle.std.proofs.Common.{sym, ap, ◌∙◌, arith, append_assoc}
use Rattle.std.proofs.lemmas.Bool.{false_from_ne_true}
use Rattle.std.proofs.lemmas.List.{drop-drop, append-nil}
use Rattle.std.proofs.Math.Seq.{take-add}
use Rattle.std.specs.List.{slice_index}
use Rattle.std.specs.Prelude.{IfNone, IfSome}
use Rattle.memchr.specs.Find.{IsFirstByte, is_byte}
use Rattle.mail_base.specs.Shown.{utf8_text}
use Rattle.headers.specs.Decode.{PlainFoundWord, first_word, found_at, with_text, text_before}
use Rattle.headers.specs.Decode.{decoded_from}
use Rattle.headers.specs.EncodedWord.{PlainDecodedWord, encoded_word}

with_text-none : (o : Option PlainFoundWord) → option_map (with_text []) o ≡ o
with_text-none None = refl
with_text-none (Some f) = refl

with_text-twice : (a b : List ℕ) (o : Option PlainFoundWord)
    → option_map (with_text a) (option_map (with_text b) o) ≡ option_map (with_text (a ++ b)) o
with_text-twice a b None = refl
with_text-twice a b (Some f) =
    ap (λ (s : List ℕ). Some (record f { before = s })) (sym (append_assoc a b f.before))

-- no encoded word begins with another byte than `=`
encoded_word-other : (b : ℕ) (rest : List ℕ) → (b == 61) ≡ false → encoded_word (b ∷ rest) ≡ None
encoded_word-other b rest other = rw other refl

-- the first word of a text that begins so is the first of what follows
first_word-other : (b : ℕ) (rest : List ℕ) → (b == 61) ≡ false
    → first_word (b ∷ rest) ≡ option_map (with_text (b ∷ [])) (first_word rest)
first_word-other b rest other =
    ap (λ o. found_at b o (first_word rest)) (encoded_word-other b rest other)

-- the first word is looked for behind the places without `=`
pub first_word-skip : (k : ℕ) (s : List ℕ) → k ≤ length s
    → ((j : ℕ) → j < k → (slice_index s j == 61) ≡ false)
    → first_word s ≡ option_map (with_text (take k s)) (first_word (drop k s))
first_word-skip zero s within others = sym (with_text-none (first_word s))
first_word-skip (suc k) [] within others = absurd (omega arith)
first_word-skip (suc k) (b ∷ rest) within others =
    first_word-other b rest (others 0 (omega arith))
    ∙ ap (option_map (with_text (b ∷ [])))
    (first_word-skip k rest (omega arith) (λ j below. others (suc j) (omega arith)))
    ∙ with_text-twice (b ∷ []) (take k rest) (first_word (drop k rest))

-- a text of which no byte is `=` has no encoded word
pub first_word-absent : (s : List ℕ) → ((j : ℕ) → j < length s → (slice_index s j == 61) ≡ false)
    → first_word s ≡ None
first_word-absent [] others = refl
first_word-absent (b ∷ rest) others =
    first_word-other b rest (others 0 (omega arith))
    ∙ ap (option_map (with_text (b ∷ [])))
    (first_word-absent rest (λ j below. others (suc j) (omega arith)))

-- the first word of a text is looked for from the place on
abbrev pub LooksFrom : List ℕ → ℕ → Type 0
LooksFrom s at = option_map (with_text (take at s)) (first_word (drop at s)) ≡ first_word s

pub looks_further : (s : List ℕ) (at k : ℕ) → LooksFrom s at
    → first_word (drop at s)
    ≡ option_map (with_text (take k (drop at s))) (first_word (drop k (drop at s)))
    → LooksFrom s (at + k)
looks_further s at k looks further =
    ap (λ (front : List ℕ). option_map (with_text front) (first_word (drop (at + k) s)))
    (take-add at k s)
    ∙ ap (λ (rest : List ℕ). option_map (with_text (take at s ++ take k (drop at s)))
    (first_word rest))
    (sym (drop-drop k at s))
    ∙ sym (with_text-twice (take at s) (take k (drop at s)) (first_word (drop k (drop at s))))
    ∙ ap (option_map (with_text (take at s))) (sym further)
    ∙ looks

found_here : (s : List ℕ) (w : PlainDecodedWord) → encoded_word s ≡ Some w
    → first_word s ≡ Some (record { before = []; text = w.text; rest = w.rest })
found_here [] w found = cc
found_here (b ∷ rest) w found = ap (λ o. found_at b o (first_word rest)) found

not_here : (s : List ℕ) → encoded_word s ≡ None
    → first_word s ≡ option_map (with_text (take 1 s)) (first_word (drop 1 s))
not_here [] none = refl
not_here (b ∷ rest) none = ap (λ o. found_at b o (first_word rest)) none

-- the word at the place is the first one
pub found_at_place : (s : List ℕ) (at : ℕ) (w : PlainDecodedWord) → LooksFrom s at
    → encoded_word (drop at s) ≡ Some w
    → first_word s ≡ Some (record { before = take at s; text = w.text; rest = w.rest })
found_at_place s at w looks found =
    sym looks
    ∙ ap (option_map (with_text (take at s))) (found_here (drop at s) w found)
    ∙ ap (λ (front : List ℕ). Some (record { before = front; text = w.text; rest = w.rest }))
    (append-nil (take at s))

-- where no word begins, it is looked for behind the place
pub looks_behind : (s : List ℕ) (at : ℕ) → LooksFrom s at → encoded_word (drop at s) ≡ None
    → LooksFrom s (at + 1)
looks_behind s at looks none = looks_further s at 1 looks (not_here (drop at s) none)

pub found_nowhere : (s : List ℕ) (at : ℕ) → LooksFrom s at → first_word (drop at s) ≡ None
    → first_word s ≡ None
found_nowhere s at looks none = sym looks ∙ ap (option_map (with_text (take at s))) none

-- what decoding leaves to do behind a word that was found
pub decoded_from-found : (n : ℕ) (after_word : Bool) (s : List ℕ) (f : PlainFoundWord)
    → length s ≤ n → length f.rest < length s
    → first_word s ≡ Some f → (m : ℕ) × (length f.rest ≤ m)
    × (decoded_from n after_word s ≡ text_before after_word f.before ++ f.text
    ++ decoded_from m true f.rest)
decoded_from-found zero after_word s f long shorter found = absurd (omega arith)
decoded_from-found (suc m) after_word s f long shorter found = (m, omega arith, rw found refl)

-- a text without encoded words
pub decoded_from-absent : (n : ℕ) (after_word : Bool) (s : List ℕ) → first_word s ≡ None
    → decoded_from n after_word s ≡ utf8_text s
decoded_from-absent zero after_word s absent = refl
decoded_from-absent (suc m) after_word s absent = rw absent refl

-- what the first `=` says of the first word
pub first_word-byte : (s : List ℕ) (r : Option ℕ) → IsFirstByte (is_byte 61) s r
    → IfNone r (first_word s ≡ None)
    × IfSome r (λ k. first_word s ≡ option_map (with_text (take k s)) (first_word (drop k s)))
first_word-byte s None nowhere = (
  first_word-absent s
      (λ j below. false_from_ne_true (slice_index s j == 61) (nowhere j (omega arith) below)),
  tt,
)
first_word-byte s (Some k) first = (
  tt,
  first_word-skip k s (omega (arith, first.0.high))
      (λ j below. false_from_ne_true (slice_index s j == 61)
      (first.0.before j (omega arith) below)),
)
