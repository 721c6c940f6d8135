-- Subjects without what replies put before them (RFC 5322, section 3.6.5).
use Rattle.std.specs.Prelude.{◌==◌, ◌&&◌, ℕ, zero, suc, Bool, not, List, ◌∷◌, length, drop, Option}
use Rattle.std.specs.Prelude.{Some, None, unwrap_or, is_some, if◌then◌else◌}
use Rattle.std.specs.Char.{is_ascii_digit, to_ascii_lowercase}
use Rattle.std.specs.List.{position_or_len}
use Rattle.std.specs.Option.{option_or}
use Rattle.std.specs.Str.{byte}
use Rattle.mail_base.specs.Blanks.{without_blanks}
use Rattle.mail_base.specs.Fronts.{◌>>=◌, behind}

-- what follows two letters, which may be of either case
abbrev pub behind_letters : ℕ → ℕ → List ℕ → Option (List ℕ)
behind_letters x y (a ∷ b ∷ rest) =
    if to_ascii_lowercase a == x && to_ascii_lowercase b == y then Some rest else None
behind_letters x y _ = None

-- how many digits stand at the front
abbrev pub digits_len : List ℕ → ℕ
digits_len s = position_or_len (λ b. not (is_ascii_digit b)) s

-- what follows a number in square brackets
abbrev pub behind_number : List ℕ → Option (List ℕ)
behind_number s = do
  a ← behind (byte "[") s
  if digits_len a == 0 then None else behind (byte "]") (drop (digits_len a) a)

-- what follows `re`, which a number may follow
abbrev pub behind_re : List ℕ → Option (List ℕ)
behind_re s = do
  a ← behind_letters (byte "r") (byte "e") s
  Some (unwrap_or (behind_number a) a)

-- what follows `re` or `aw`, with which replies begin
abbrev pub behind_reply : List ℕ → Option (List ℕ)
behind_reply s = option_or (behind_re s) (behind_letters (byte "a") (byte "w") s)

-- what follows a reply prefix, a colon and blanks
abbrev pub behind_prefix : List ℕ → Option (List ℕ)
behind_prefix s = do
  a ← behind_reply s
  b ← behind (byte ":") a
  Some (without_blanks b)

-- what is left of a subject behind its first prefix, if it has one
abbrev pub base_behind : (List ℕ → List ℕ) → List ℕ → Option (List ℕ) → List ℕ
base_behind more s None = s
base_behind more s (Some rest) = more rest

-- a subject without its prefixes; the number is at least its length
abbrev pub base_from : ℕ → List ℕ → List ℕ
base_from zero s = s
base_from (suc n) s = base_behind (base_from n) s (behind_prefix s)

-- a subject without its reply prefixes
abbrev pub base_of : List ℕ → List ℕ
base_of s = base_from (length s) s

-- the subject begins with a reply prefix
abbrev pub has_prefix : List ℕ → Bool
has_prefix s = is_some (behind_prefix s)
