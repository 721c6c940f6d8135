-- Bodies in base64 (RFC 2045, section 6.8).
use Rattle.std.specs.Prelude.{◌==◌, ◌||◌, ℕ, Bool, not, List, filter, unwrap_or}
use Rattle.std.specs.Str.{byte}
use Rattle.mail_base.specs.Base64Text.{base64_bytes}
use Rattle.mail_base.specs.Blanks.{is_blank}

-- not white space
abbrev pub is_solid : ℕ → Bool
is_solid b = not (is_blank b || b == byte "\n" || b == byte "\r")

-- base64 without its white space; what does not decode stays as written (section 6.8)
abbrev pub from_base64 : List ℕ → List ℕ
from_base64 text = unwrap_or (base64_bytes (filter is_solid text)) text
