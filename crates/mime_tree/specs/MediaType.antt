-- The type with which the value of a Content-Type begins (RFC 2045, section 5.1).
use Rattle.std.specs.Prelude.{◌+◌, ◌==◌, ◌||◌, ℕ, List, Option, Some, None, take, drop}
use Rattle.std.specs.Prelude.{if◌then◌else◌}
use Rattle.std.specs.Str.{byte}
use Rattle.mail_base.specs.Fronts.{◌>>=◌, behind}
use Rattle.mail_base.specs.Tokens.{token_len}

-- the `type/subtype` with which a text begins, where its subtype follows the slash
abbrev pub media_type_at : ℕ → List ℕ → List ℕ → Option (List ℕ)
media_type_at len subtype s =
    if len == 0 || token_len subtype == 0 then None else Some (take (len + 1 + token_len subtype) s)

-- the `type/subtype` with which a text begins: two tokens with a slash between them
abbrev pub media_type : List ℕ → Option (List ℕ)
media_type s = do
  subtype ← behind (byte "/") (drop (token_len s) s)
  media_type_at (token_len s) subtype s
