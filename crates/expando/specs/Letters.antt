-- The letter of a field, with the format of a date in brackets where it has one.
use Rattle.std.specs.Prelude.{◌==◌, ◌&&◌, ℕ, Bool, true, false, List, [], ◌∷◌, Option, Some, None}
use Rattle.std.specs.Prelude.{codes, if◌then◌else◌}
use Rattle.std.specs.List.{list_any}
use Rattle.std.specs.Str.{byte}
use Rattle.mail_base.specs.Fronts.{◌>>=◌}
use Rattle.mail_base.specs.Places.{split_once}
use Rattle.expando.specs.declared.letter.Letter.{Letter}

-- a letter with what stands in its brackets
abbrev pub letter : ℕ → List ℕ → Letter (List ℕ)
letter sign inner = record { sign = sign; inner = inner }

-- the same with its format of a date held in another way
abbrev pub letter_map : {I J : Type 0} → (I → J) → Letter I → Letter J
letter_map f l = record { sign = l.sign; inner = f l.inner }

-- the letters that a percent sign may stand before in the format of a date
abbrev pub is_date_letter : ℕ → Bool
is_date_letter b = list_any (λ l. l == b) (codes "aAbBdeHjmMSyY%")

-- each percent sign stands before such a letter; the first byte stands behind one where `open`
-- holds
abbrev pub is_date_text : Bool → List ℕ → Bool
is_date_text false [] = true
is_date_text true [] = false
is_date_text false (b ∷ rest) = is_date_text (b == byte "%") rest
is_date_text true (b ∷ rest) = is_date_letter b && is_date_text false rest

-- a format of a date up to the bracket that closes it
abbrev pub date_at : ℕ → ℕ → List ℕ → Option (Letter (List ℕ) × List ℕ)
date_at b bracket text = do
  parts ← split_once bracket text
  (if is_date_text false parts.0 then Some (letter b parts.0, parts.1) else None)

-- a letter, with its format of a date behind a bracket
abbrev pub letter_behind : ℕ → List ℕ → Option (Letter (List ℕ) × List ℕ)
letter_behind b rest =
    if b == byte "{" then date_at b (byte "}") rest
    else (if b == byte "[" then date_at b (byte "]") rest else Some (letter b [], rest))

-- the letter at the front, which is one of these
abbrev pub letter_at : List ℕ → List ℕ → Option (Letter (List ℕ) × List ℕ)
letter_at letters [] = None
letter_at letters (b ∷ rest) =
    if list_any (λ l. l == b) letters then letter_behind b rest else None
