-- Verdicts on texts, each given once.
use Rattle.std.specs.Prelude.{◌≡◌, ◌≤◌, ◌||◌, ◌++◌, ℕ, Bool, true, false, List, [], ◌∷◌, Option}
use Rattle.std.specs.Prelude.{Some, None, Result, Ok, Err}
use Rattle.std.specs.Prelude.{◌⊎◌, find, is_some, option_map, IfSome, IsErrOf, OnOk}
use Rattle.std.specs.Prelude.{if◌then◌else◌}
use Rattle.std.specs.Str.{bytes_eq}
use Rattle.mail_base.specs.Faults.{Rose}
use Rattle.people.specs.Cause.{is_caused, is_readable}
use Rattle.people.specs.Expr.{is_literal}
use Rattle.people.specs.declared.error.ExprError.{ExprError}
use Rattle.people.specs.declared.error.ExprError.TheVariants as error
use Rattle.people.specs.declared.judged.Judged.{Judged}
use Rattle.people.specs.declared.judged.Verdict.{Verdict}
use Rattle.people.specs.declared.judged.Verdict.TheVariants.{Good, Syntax, Size}

-- a text with its verdict, and the counts of refusals before and after it was given
pub record PlainJudged : Type 0 where
  pub text : List ℕ
  pub verdict : Verdict
  pub before : ℕ
  pub after : ℕ

-- a text that was judged, without the room of its text
abbrev pub plain_judged : Judged → PlainJudged
plain_judged j = record {
  text = j.text.items;
  verdict = j.verdict;
  before = j.before;
  after = j.after;
}

-- what was judged with a text
abbrev pub judged_of : List PlainJudged → List ℕ → Option PlainJudged
judged_of list text = find (λ j. bytes_eq j.text text) list

-- no text stands there twice
abbrev pub AreDistinct : List PlainJudged → Type 0
AreDistinct [] = Unit {0}
AreDistinct (j ∷ list) = (judged_of list j.text ≡ None) × AreDistinct list

-- the verdict on a text, if it was judged; a literal is good and is never judged
abbrev pub verdict_on : List PlainJudged → List ℕ → Option Verdict
verdict_on list text =
    if is_literal text then Some Good else option_map (λ j. j.verdict) (judged_of list text)

-- the verdict that an answer tells; want of memory tells none
abbrev pub verdict_of : {T : Type 0} → Result T ExprError → Option Verdict
verdict_of (Ok x) = Some Good
verdict_of (Err error.Syntax) = Some Syntax
verdict_of (Err error.Size) = Some Size
verdict_of (Err error.NoMemory) = None

-- the list with a text that was judged so, unless it was judged before, or there is no verdict
abbrev pub with_verdict : List PlainJudged → List ℕ → Option Verdict → ℕ → ℕ → List PlainJudged
with_verdict list text None before after = list
with_verdict list text (Some verdict) before after =
    if is_some (verdict_on list text) then list
    else list ++ record { text = text; verdict = verdict; before = before; after = after } ∷ []

-- a verdict that is there, and is not good
abbrev pub is_refused : Option Verdict → Bool
is_refused None = false
is_refused (Some Good) = false
is_refused (Some Syntax) = true
is_refused (Some Size) = true

-- nobody has to be asked for an answer: the text is a literal, or was refused
abbrev pub is_answered : List PlainJudged → List ℕ → Bool
is_answered list text = is_literal text || is_refused (verdict_on list text)

-- what was the cause of a verdict when it was given
abbrev pub HasCause : List ℕ → Verdict → Type 0
HasCause text verdict = (before : ℕ) × (after : ℕ) × (is_caused verdict text before after ≡ true)

-- a verdict that was kept has its cause in its text, or in its counts: one of size was given where
-- refusals rose
abbrev pub IsCaused : PlainJudged → Type 0
IsCaused j = is_caused j.verdict j.text j.before j.after ≡ true

-- What a reading of a text answers and leaves, by the verdicts before it and the counts of
-- refusals round it.
pub record Reads {T : Type 0} (text : List ℕ) (result : Result T ExprError)
    (old new : List PlainJudged) (before after : ℕ)
    : Type 0 where
  -- the answer is the verdict, which stays
  pub verdict : IfSome (verdict_of result) (λ v. verdict_on new text ≡ Some v)
  pub judged : new ≡ with_verdict old text (verdict_of result) before after
  pub asks : is_answered old text ≡ true → after ≡ before
  pub later : before ≤ after
  -- the causes
  pub ok : OnOk result (is_literal text || is_readable text ≡ true)
  pub syntax_cause : IsErrOf result error.Syntax → is_readable text ≡ false
  pub size_cause : IsErrOf result error.Size → (verdict_on old text ≡ Some Size) ⊎ Rose before after
