-- Tokens of a structured field (RFC 2045, section 5.1).
use Rattle.std.specs.Prelude.{◌==◌, ◌&&◌, ℕ, Bool, not, nat_lt, List, codes}
use Rattle.std.specs.List.{list_any, position_or_len}
use Rattle.std.specs.Str.{byte}

-- the special characters, which stand in no token
abbrev pub is_special : ℕ → Bool
is_special b = list_any (λ s. s == b) (codes "()<>@,;:\\\"/[]?=")

-- printable US-ASCII but the space and the special characters
abbrev pub is_token_byte : ℕ → Bool
is_token_byte b = nat_lt (byte " ") b && nat_lt b 127 && not (is_special b)

-- how many bytes of a token stand at the front
abbrev pub token_len : List ℕ → ℕ
token_len s = position_or_len (λ b. not (is_token_byte b)) s
