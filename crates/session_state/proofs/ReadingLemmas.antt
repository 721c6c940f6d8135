-- A text that was read as a pattern reads so by every later list of verdicts.
use Rattle.std.proofs.Common.{◌≡◌, ◌∙◌, ℕ, ℤ, List, Option, None, ap, subst, sym, false}
use Rattle.std.specs.Prelude.{Result, Err}
use Rattle.jiff_core.specs.declared.civil.date.Date.{Date}
use Rattle.patterns.specs.Causes.{Keeps}
use Rattle.patterns.specs.Dates.{days_of}
use Rattle.patterns.specs.Patterns.{pattern_of}
use Rattle.patterns.specs.Readings.{IsReading, ReadsPattern, reading_by}
use Rattle.patterns.specs.declared.pattern_error.PatternError.{PatternError}
use Rattle.patterns.specs.declared.pattern_error.PatternError.TheVariants as error
use Rattle.patterns_match.specs.Pattern.{pattern_tree}
use Rattle.patterns_match.specs.Trees.{Tree}
use Rattle.patterns_match.specs.declared.pattern.Pattern.{Pattern}
use Rattle.people.specs.Judged.{PlainJudged}
use Rattle.session_state.specs.Days.{is_memory}
use Rattle.session_state.specs.Days.{date_on, reading}
use Rattle.session_state.proofs.DateLemmas.{date_on_day}

pub reads_as : (text : List ℕ) (moment offset : ℤ) (result : Result Pattern PatternError)
    (old new : List PlainJudged) (before after : ℕ)
    → ReadsPattern pattern_tree text moment offset result old new before after
    → (later : List PlainJudged) → Keeps new later
    → IsReading pattern_tree (reading later moment offset text) result
unfolding reading
reads_as text moment offset result old new before after reads later keeps =
    subst (λ (day : Date). IsReading pattern_tree
    (reading_by later (pattern_of (days_of day) text)) result)
    (sym (date_on_day reads.today) ∙ ap date_on reads.is_today) (reads.read.later later keeps)

-- an error that is no want of memory tells that there is no pattern
pub no_reading : (r : Option Tree) (e : PatternError) → IsReading pattern_tree r (Err e)
    → is_memory e ≡ false → r ≡ None
no_reading r error.Empty is other = is
no_reading r (error.UnknownLetter place) is other = is
no_reading r (error.Unbalanced place) is other = is
no_reading r (error.BadRange place) is other = is
no_reading r (error.BadDate place) is other = is
no_reading r error.RegexSyntax is other = is
no_reading r error.RegexSize is other = is
no_reading r error.TooDeep is other = is
no_reading r error.NoMemory is other = absurd (cc)
