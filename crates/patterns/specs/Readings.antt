-- What reading the text of a pattern answers, and what it leaves of the verdicts.
use Rattle.std.specs.Prelude.{◌≡◌, ℕ, ℤ, List, [], Option, Some, None, Result, Ok, Err, IsOk}
use Rattle.std.specs.Prelude.{OnErr}
use Rattle.std.specs.Prelude.{if◌then◌else◌}
use Rattle.std.specs.List.{list_all}
use Rattle.jiff_core.specs.Date.{epoch_day}
use Rattle.jiff_core.specs.declared.civil.date.Date.{Date}
use Rattle.people.specs.Judged.{PlainJudged}
use Rattle.patterns.specs.Exprs.{asked, exprs, tree_map}
use Rattle.patterns.specs.Causes.{Judges, Keeps, is_good_on}
use Rattle.patterns.specs.Dates.{days_of}
use Rattle.patterns_match.specs.Days.{day_number}
use Rattle.patterns.specs.Faults.{Reading, Empty, UnknownLetter, Unbalanced, BadRange, BadDate}
use Rattle.patterns.specs.Faults.{TooDeep, reading_map}
use Rattle.patterns.specs.Patterns.{pattern_of}
use Rattle.patterns_match.specs.Trees.{Tree}
use Rattle.patterns.specs.declared.pattern_error.PatternError.{PatternError}
use Rattle.patterns.specs.declared.pattern_error.PatternError.TheVariants as error

-- the expressions of a pattern, where the text is one
abbrev pub exprs_read : Reading Tree → List (List ℕ)
exprs_read (Ok tree) = exprs tree
exprs_read (Err fault) = []

-- The error comes where the text has this fault. Its form counts before its expressions.
abbrev pub IsErrorOf : Reading Tree → PatternError → Type 0
IsErrorOf expected error.Empty = expected ≡ Err Empty
IsErrorOf expected (error.UnknownLetter place) = expected ≡ Err (UnknownLetter place)
IsErrorOf expected (error.Unbalanced place) = expected ≡ Err (Unbalanced place)
IsErrorOf expected (error.BadRange place) = expected ≡ Err (BadRange place)
IsErrorOf expected (error.BadDate place) = expected ≡ Err (BadDate place)
IsErrorOf expected error.TooDeep = expected ≡ Err TooDeep
IsErrorOf expected error.RegexSyntax = IsOk expected
IsErrorOf expected error.RegexSize = IsOk expected
IsErrorOf expected error.NoMemory = Unit {0}

-- the pattern that is expected, or its fault; or an expression or memory is in the way
abbrev pub IsAnswer : {T : Type 0} → (T → Tree) → Reading Tree → Result T PatternError → Type 0
IsAnswer view expected (Ok pattern) = reading_map (tree_map asked) expected ≡ Ok (view pattern)
IsAnswer view expected (Err error) = IsErrorOf expected error

-- the pattern that a text is, where each of its expressions was found good
abbrev pub reading_by : List PlainJudged → Reading Tree → Option Tree
reading_by list (Ok tree) =
    if list_all (is_good_on list) (exprs tree) then Some (tree_map asked tree) else None
reading_by list (Err fault) = None

-- what is answered is that pattern, or that there is none; want of memory tells neither
abbrev pub IsReading : {T : Type 0} → (T → Tree) → Option Tree → Result T PatternError → Type 0
IsReading view reading (Ok pattern) = reading ≡ Some (view pattern)
IsReading view reading (Err error.Empty) = reading ≡ None
IsReading view reading (Err (error.UnknownLetter place)) = reading ≡ None
IsReading view reading (Err (error.Unbalanced place)) = reading ≡ None
IsReading view reading (Err (error.BadRange place)) = reading ≡ None
IsReading view reading (Err (error.BadDate place)) = reading ≡ None
IsReading view reading (Err error.RegexSyntax) = reading ≡ None
IsReading view reading (Err error.RegexSize) = reading ≡ None
IsReading view reading (Err error.TooDeep) = reading ≡ None
IsReading view reading (Err error.NoMemory) = Unit {0}

-- what is answered where this pattern or fault is expected
pub record IsRead {T : Type 0} (view : T → Tree) (expected : Reading Tree)
    (result : Result T PatternError) (old new : List PlainJudged) (before after : ℕ)
    : Type 0 where
  pub answer : IsAnswer view expected result
  pub judges : Judges (exprs_read expected) result old new before after
  -- where the form is at fault nobody is asked
  pub unasked : OnErr expected ((new ≡ old) × (after ≡ before))
  -- so it is by each list that keeps the verdicts
  pub later : (list : List PlainJudged) → Keeps new list
      → IsReading view (reading_by list expected) result

-- the text is read on the day of a moment
pub record ReadsPattern {T : Type 0} (view : T → Tree) (text : List ℕ) (moment offset : ℤ)
    (result : Result T PatternError) (old new : List PlainJudged) (before after : ℕ)
    : Type 0 where
  pub today : Date
  pub is_today : epoch_day today ≡ day_number moment offset
  pub read : IsRead view (pattern_of (days_of today) text) result old new before after
