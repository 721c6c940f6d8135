-- Encoded words, as they are written and decoded (RFC 2047, section 2).
use Rattle.std.specs.Prelude.{◌==◌, ◌&&◌, ℕ, Bool, not, nat_le, List, [], ◌∷◌, Option, Some, None}
use Rattle.std.specs.Prelude.{take, drop, if◌then◌else◌}
use Rattle.std.specs.List.{position_or_len}
use Rattle.std.specs.Str.{byte}
use Rattle.mail_base.specs.Fronts.{◌>>=◌, behind}
use Rattle.headers.specs.Charset.{charset_of, text_in}
use Rattle.headers.specs.Encoding.{encoding_of, bytes_of}
use Rattle.headers.specs.declared.encoding.Encoding.{Encoding}
use Rattle.headers.specs.declared.encoded_word.WrittenWord.{WrittenWord}
use Rattle.headers.specs.declared.encoded_word.DecodedWord.{DecodedWord}

-- printable US-ASCII but `?`
abbrev pub is_word_byte : ℕ → Bool
is_word_byte b = nat_le 33 b && nat_le b 126 && not (b == byte "?")

-- how many such bytes stand at the front
abbrev pub word_len : List ℕ → ℕ
word_len s = position_or_len (λ b. not (is_word_byte b)) s

-- a byte and what follows it
abbrev pub first_byte : List ℕ → Option (ℕ × List ℕ)
first_byte [] = None
first_byte (b ∷ rest) = Some (b, rest)

-- an encoded word as it is written, and the text behind it
pub record PlainWrittenWord : Type 0 where
  pub charset : List ℕ
  pub encoding : Encoding
  pub text : List ℕ
  pub rest : List ℕ

-- `?`, the letter of an encoding, `?`, a text and `?=`
abbrev pub written_behind : List ℕ → List ℕ → Option PlainWrittenWord
written_behind charset s = do
  a ← behind (byte "?") s
  letter ← first_byte a
  encoding ← encoding_of letter.0
  b ← behind (byte "?") letter.1
  c ← behind (byte "?") (drop (word_len b) b)
  rest ← behind (byte "=") c
  Some (record { charset = charset; encoding = encoding; text = take (word_len b) b; rest = rest })

-- `=?`, the name of a charset, and what follows it
abbrev pub written_word : List ℕ → Option PlainWrittenWord
written_word s = do
  a ← behind (byte "=") s
  b ← behind (byte "?") a
  if word_len b == 0 then None else written_behind (take (word_len b) b) (drop (word_len b) b)

-- an encoded word as it is shown, and the text behind it
pub record PlainDecodedWord : Type 0 where
  pub text : List ℕ
  pub rest : List ℕ

-- the encoded word with which a text begins
abbrev pub encoded_word : List ℕ → Option PlainDecodedWord
encoded_word s = do
  word ← written_word s
  bytes ← bytes_of word.encoding word.text
  Some (record { text = text_in (charset_of word.charset) bytes; rest = word.rest })

-- an encoded word as it is written
abbrev pub plain_written_word : WrittenWord → PlainWrittenWord
plain_written_word w =
    record { charset = w.charset.now; encoding = w.encoding; text = w.text.now; rest = w.rest.now }

-- an encoded word with its text decoded
abbrev pub plain_decoded_word : DecodedWord → PlainDecodedWord
plain_decoded_word w = record { text = text_in w.charset w.bytes.items; rest = w.rest.now }
