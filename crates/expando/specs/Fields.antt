-- A field of a line: a letter, and the columns that its text takes.
use Rattle.std.specs.Prelude.{◌==◌, ℕ, Bool, true, false, List, [], ◌∷◌, Option, Some, option_map}
use Rattle.std.specs.Prelude.{if◌then◌else◌}
use Rattle.std.specs.Str.{byte}
use Rattle.mail_base.specs.Fronts.{◌>>=◌}
use Rattle.expando.specs.Letters.{letter_at, letter_map}
use Rattle.expando.specs.Numbers.{digits_at, no_limit, number_of, width_of}
use Rattle.expando.specs.declared.field.Field.{Field}

-- the same with its format of a date held in another way
abbrev pub field_map : {I J : Type 0} → (I → J) → Field I → Field J
field_map f d = record {
  letter = letter_map f d.letter;
  left = d.left;
  width = d.width;
  limit = d.limit;
}

-- whether the text stands to the left of its columns, and what follows
abbrev pub side_at : List ℕ → Bool × List ℕ
side_at [] = (false, [])
side_at (b ∷ rest) = if b == byte "-" then (true, rest) else (false, b ∷ rest)

-- the least columns, and what follows
abbrev pub width_at : List ℕ → Option (ℕ × List ℕ)
width_at text = option_map (λ n. (n, (digits_at text).1)) (width_of (digits_at text).0)

-- the limit behind a full stop, and what follows it
abbrev pub limit_behind : List ℕ → Option (ℕ × List ℕ)
limit_behind text = option_map (λ n. (n, (digits_at text).1)) (number_of (digits_at text).0)

-- the most columns, and what follows
abbrev pub limit_at : List ℕ → Option (ℕ × List ℕ)
limit_at [] = Some (no_limit, [])
limit_at (b ∷ rest) = if b == byte "." then limit_behind rest else Some (no_limit, b ∷ rest)

-- the field behind a percent sign, with one of these letters, and what follows
abbrev pub field_at : List ℕ → List ℕ → Option (Field (List ℕ) × List ℕ)
field_at letters text = do
  width ← width_at (side_at text).1
  limit ← limit_at width.1
  found ← letter_at letters limit.1
  Some (
    record {
      letter = found.0;
      left = (side_at text).0;
      width = width.0;
      limit = limit.0;
    },
    found.1,
  )
