-- Bytes shown as UTF-8, with a `?` in place of each malformed byte.
use Rattle.std.specs.Prelude.{ℕ, List, Option, Some, None, replicate, encode_utf8}
use Rattle.std.specs.List.{flat_map}
use Rattle.std.specs.Str.{byte}
use Rattle.bstr.specs.Utf8.{pieces}

-- a character, or a `?` for each byte of a piece that is none
abbrev pub shown : Option ℕ → ℕ → List ℕ
shown (Some c) size = encode_utf8 c
shown None size = replicate size (byte "?")

-- UTF-8 with a `?` in place of each malformed byte
unfoldable pub utf8_text : List ℕ → List ℕ
utf8_text bytes = flat_map (λ p. shown p.char p.size) (pieces bytes)
