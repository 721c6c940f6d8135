-- Text with its encoded words decoded (RFC 2047, section 6).
use Rattle.std.specs.Prelude.{◌&&◌, ℕ, zero, suc, Bool, true, false, List, [], ◌∷◌, ◌++◌, Option}
use Rattle.std.specs.Prelude.{Some, None, option_map, length, if◌then◌else◌}
use Rattle.mail_base.specs.Blanks.{is_all_blank}
use Rattle.mail_base.specs.Shown.{utf8_text}
use Rattle.headers.specs.EncodedWord.{PlainDecodedWord, encoded_word, plain_decoded_word}
use Rattle.headers.specs.declared.decode.FoundWord.{FoundWord}

-- the first encoded word of a text, with the text before and behind it
pub record PlainFoundWord : Type 0 where
  pub before : List ℕ
  pub text : List ℕ
  pub rest : List ℕ

-- with more text before the word
abbrev pub with_text : List ℕ → PlainFoundWord → PlainFoundWord
with_text front f = record f { before = front ++ f.before }

-- the encoded word here, or else the first one behind the byte
abbrev pub found_at : ℕ → Option PlainDecodedWord → Option PlainFoundWord → Option PlainFoundWord
found_at b (Some word) later = Some (record { before = []; text = word.text; rest = word.rest })
found_at b None later = option_map (with_text (b ∷ [])) later

-- the first encoded word of a text, with what stands before it
abbrev pub first_word : List ℕ → Option PlainFoundWord
first_word [] = None
first_word (b ∷ rest) = found_at b (encoded_word (b ∷ rest)) (first_word rest)

-- a text before an encoded word; white space between two of them is dropped (section 6.2)
abbrev pub text_before : Bool → List ℕ → List ℕ
text_before after_word s = if after_word && is_all_blank s then [] else utf8_text s

-- the text before an encoded word, the word and what the rest gives; or a text without encoded
-- words
abbrev pub decoded_around : (List ℕ → List ℕ) → Bool → List ℕ → Option PlainFoundWord → List ℕ
decoded_around more after_word s None = utf8_text s
decoded_around more after_word s (Some f) = text_before after_word f.before ++ f.text ++ more f.rest

-- a text with its encoded words decoded; the number is at least its length
abbrev pub decoded_from : ℕ → Bool → List ℕ → List ℕ
decoded_from zero after_word s = utf8_text s
decoded_from (suc n) after_word s = decoded_around (decoded_from n true) after_word s (first_word s)

-- unfolded text with its encoded words decoded
abbrev pub decoded_words : List ℕ → List ℕ
decoded_words s = decoded_from (length s) false s

-- a found word as contracts see it
abbrev pub plain_found_word : FoundWord → PlainFoundWord
plain_found_word f = record {
  before = f.before.now;
  text = (plain_decoded_word f.word).text;
  rest = f.word.rest.now;
}
