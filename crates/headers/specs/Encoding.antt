-- The encodings of encoded words (RFC 2047, section 4).
use Rattle.std.specs.Prelude.{◌==◌, ◌||◌, ℕ, zero, suc, List, [], ◌∷◌, Option, Some, None}
use Rattle.std.specs.Prelude.{option_map, if◌then◌else◌}
use Rattle.std.specs.Str.{byte}
use Rattle.mail_base.specs.Base64Text.{base64_bytes}
use Rattle.mail_base.specs.Fronts.{◌>>=◌}
use Rattle.mail_base.specs.Hex.{hex_byte}
use Rattle.headers.specs.declared.encoding.Encoding.{Encoding}
use Rattle.headers.specs.declared.encoding.Encoding.TheVariants.{Base64, Quoted}

-- the encoding that a letter names, in either case (section 4)
abbrev pub encoding_of : ℕ → Option Encoding
encoding_of b =
    if b == byte "B" || b == byte "b" then Some Base64
    else (if b == byte "Q" || b == byte "q" then Some Quoted else None)

-- the byte that a text of the "Q" encoding begins with, and what follows it (section 4.2)
abbrev pub quoted_byte : ℕ → List ℕ → Option (ℕ × List ℕ)
quoted_byte b rest =
    if b == byte "_" then Some (byte " ", rest)
    else (if b == byte "=" then hex_byte rest else Some (b, rest))

-- the bytes of a text of the "Q" encoding, whose first so many bytes are digits of a byte already
-- read
abbrev pub quoted_from : ℕ → List ℕ → Option (List ℕ)
quoted_from skip [] = Some []
quoted_from (suc n) (b ∷ rest) = quoted_from n rest
quoted_from zero (b ∷ rest) = do
  first ← quoted_byte b rest
  option_map (λ more. first.0 ∷ more) (quoted_from (if b == byte "=" then 2 else 0) rest)

-- the bytes of a text
abbrev pub bytes_of : Encoding → List ℕ → Option (List ℕ)
bytes_of Base64 text = base64_bytes text
bytes_of Quoted text = quoted_from 0 text
