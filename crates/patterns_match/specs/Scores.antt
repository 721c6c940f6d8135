-- Scores of messages.
use Rattle.std.specs.Prelude.{◌≡◌, ◌+ℤ◌, ◌&&◌, ℕ, ℤ, pos, negsuc, neg_ℤ, Bool, not, int_le, nat_le}
use Rattle.std.specs.Prelude.{List, [], ◌∷◌, Option, Some, None, Result, Err, IfErr}
use Rattle.std.specs.Prelude.{if◌then◌else◌}
use Rattle.people.specs.People.{PlainPeople}
use Rattle.patterns_match.specs.Leaves.{may_score}
use Rattle.patterns_match.specs.Listings.{Message}
use Rattle.patterns_match.specs.Pattern.{pattern_tree}
use Rattle.patterns_match.specs.Satisfies.{satisfies}
use Rattle.patterns_match.specs.Trees.{Tree}
use Rattle.patterns_match.specs.declared.pattern.Pattern.{Pattern}
use Rattle.patterns_match.specs.declared.score_error.ScoreError.{ScoreError}
use Rattle.patterns_match.specs.declared.score_error.ScoreError.TheVariants.{NotHere, OutOfRange}
use Rattle.patterns_match.specs.declared.score_error.ScoreError.TheVariants.{TooMany, NoMemory}

-- What the messages that satisfy a pattern score, where days are counted by an offset from UTC. The
-- last one ends the sum, and its value stands in place of it.
pub record PlainEntry : Type 0 where
  pub tree : Tree
  pub offset : ℤ
  pub value : ℤ
  pub last : Bool

-- what a pattern scores
abbrev pub plain_entry : Pattern → ℤ → Bool → PlainEntry
plain_entry pattern value last = record {
  tree = pattern_tree pattern;
  offset = pattern.offset;
  value = value;
  last = last;
}

-- the sum and that of the entries that count
abbrev pub total : (PlainEntry → Bool) → ℤ → List PlainEntry → ℤ
total counts sum [] = sum
total counts sum (e ∷ entries) =
    if counts e
    then (if e.last then e.value else total counts (sum +ℤ e.value) entries)
    else total counts sum entries

-- the entry counts for the message at a place
abbrev pub counts : PlainPeople → List Message → ℕ → PlainEntry → Bool
counts people listing place e = satisfies people e.offset listing e.tree place

-- a negative number is 0
abbrev pub not_negative : ℤ → ℕ
not_negative (pos n) = n
not_negative (negsuc n) = 0

-- the score of the message at a place
abbrev pub score : PlainPeople → List Message → List PlainEntry → ℕ → ℕ
score people listing entries place =
    not_negative (total (counts people listing place) (pos 0) entries)

-- a value that an entry may have
abbrev pub in_range : ℤ → Bool
in_range value = int_le (neg_ℤ (pos 1_000_000)) value && int_le value (pos 1_000_000)

-- why an entry is refused where there are so many, the first that holds
abbrev pub refusal : Tree → ℤ → ℕ → Option ScoreError
refusal tree value many =
    if not (may_score tree) then Some NotHere
    else (if not (in_range value) then Some OutOfRange
    else (if nat_le 4_096 many then Some TooMany
    else None))

-- the refusal comes where there is one, and else an error is for memory
abbrev pub Answers : {T : Type 0} → Result T ScoreError → Option ScoreError → Type 0
Answers result (Some error) = result ≡ Err error
Answers result None = IfErr result (λ error. error ≡ NoMemory)
