-- Bytes shown as UTF-8 by the charset that they are in (RFC 2047, section 2).
use Rattle.std.specs.Prelude.{ℕ, nat_lt, List, map, if◌then◌else◌, codes}
use Rattle.std.specs.Str.{byte, encode_utf8_all, str_eq_ignore_ascii_case}
use Rattle.mail_base.specs.Shown.{utf8_text}
use Rattle.headers.specs.declared.charset.Charset.{Charset}
use Rattle.headers.specs.declared.charset.Charset.TheVariants.{Ascii, Utf8, Latin1}

-- the charset of a name; all others are shown as US-ASCII is
abbrev pub charset_of : List ℕ → Charset
charset_of name =
    if str_eq_ignore_ascii_case name (codes "utf-8") then Utf8
    else (if str_eq_ignore_ascii_case name (codes "iso-8859-1") then Latin1 else Ascii)

-- US-ASCII with a `?` in place of each byte past it
abbrev pub ascii_text : List ℕ → List ℕ
ascii_text bytes = map (λ b. if nat_lt b 128 then b else byte "?") bytes

-- bytes of a charset as UTF-8; a byte of ISO-8859-1 is the number of its character
abbrev pub text_in : Charset → List ℕ → List ℕ
text_in Ascii bytes = ascii_text bytes
text_in Utf8 bytes = utf8_text bytes
text_in Latin1 bytes = encode_utf8_all bytes
