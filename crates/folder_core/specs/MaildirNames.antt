-- Names of the files of a Maildir (maildir(5)): a base, and behind the last `:2,` the letters.
use Rattle.std.specs.Prelude.{◌==◌, ◌+◌, ◌-◌, ◌*◌, ◌||◌, ℕ, Bool, false, min, List, [], ◌∷◌, length}
use Rattle.std.specs.Prelude.{take, codes, Option, Some, None, if◌then◌else◌}
use Rattle.std.specs.Char.{is_ascii_digit}
use Rattle.std.specs.List.{list_any}
use Rattle.std.specs.Option.{option_or}
use Rattle.std.specs.Str.{byte}
use Rattle.mail_base.specs.Fronts.{behind_text}
use Rattle.mail_base.specs.declared.flags.Flags.{Flags}

-- what parts the base from the letters
abbrev pub mark : List ℕ
mark = codes ":2,"

-- what stands behind the last mark
abbrev pub last_letters : List ℕ → Option (List ℕ)
last_letters [] = None
last_letters (b ∷ rest) = option_or (last_letters rest) (behind_text mark (b ∷ rest))

-- the base, and the letters behind its mark
abbrev pub split_at_mark : List ℕ → Option (List ℕ) → List ℕ × List ℕ
split_at_mark name None = (name, [])
split_at_mark name (Some letters) = (take (length name - length letters - 3) name, letters)

-- the base is what stands before the last mark, or the whole name
abbrev pub split_name : List ℕ → List ℕ × List ℕ
split_name name = split_at_mark name (last_letters name)

-- a letter is one of these
abbrev pub has_letter : List ℕ → ℕ → Bool
has_letter letters letter = list_any (λ b. b == letter) letters

-- draft, flagged, passed, replied, seen and trashed by their letters; a name in `cur` is aged
abbrev pub flags_of : Bool → List ℕ → Flags
flags_of in_cur letters = record {
  seen = has_letter letters (byte "S");
  aged = in_cur || has_letter letters (byte "S");
  replied = has_letter letters (byte "R");
  flagged = has_letter letters (byte "F");
  passed = has_letter letters (byte "P");
  draft = has_letter letters (byte "D");
  trashed = has_letter letters (byte "T");
}

-- a name begins with a full stop
abbrev pub begins_dot : List ℕ → Bool
begins_dot [] = false
begins_dot (b ∷ rest) = b == byte "."

-- the number that the digits at the front write behind a number so far
abbrev pub number_behind : ℕ → List ℕ → ℕ
number_behind so_far [] = so_far
number_behind so_far (b ∷ rest) =
    if is_ascii_digit b then number_behind (so_far * 10 + (b - 48)) rest else so_far

-- the greatest order
abbrev pub last_order : ℕ
last_order = 18446744073709551615

-- the number of the digits with which the base begins
abbrev pub order_of : List ℕ → ℕ
order_of base = min (number_behind 0 base) last_order
