-- What becomes of the expressions of a pattern, by the verdicts on them.
use Rattle.std.specs.Prelude.{◌≡◌, ◌≤◌, ◌⊎◌, ◌||◌, ◌++◌, ℕ, Bool, true, false, List, [], ◌∷◌}
use Rattle.std.specs.Prelude.{Option, Some, Result, OnOk, IsErrOf}
use Rattle.std.specs.List.{list_all}
use Rattle.mail_base.specs.Faults.{Rose}
use Rattle.people.specs.Cause.{is_readable}
use Rattle.people.specs.Expr.{is_literal}
use Rattle.people.specs.Judged.{PlainJudged, is_answered, verdict_on, with_verdict}
use Rattle.people.specs.declared.judged.Verdict.{Verdict}
use Rattle.people.specs.declared.judged.Verdict.TheVariants.{Good, Syntax, Size}
use Rattle.patterns.specs.Exprs.{exprs_in}
use Rattle.patterns_match.specs.Trees.{Leaf}
use Rattle.patterns_match.specs.declared.operation.Operation.{Operation}
use Rattle.patterns.specs.declared.pattern_error.PatternError.{PatternError}
use Rattle.patterns.specs.declared.pattern_error.PatternError.TheVariants as error

-- it is so of one of them
abbrev pub SomeOf : {X : Type 0} → (X → Type 0) → List X → Type 0
SomeOf P [] = ⊥
SomeOf P (x ∷ xs) = P x ⊎ SomeOf P xs

-- nothing stands in the way of searching for a text
abbrev pub is_good : List ℕ → Bool
is_good text = is_literal text || is_readable text

-- the verdict is there, and is good
abbrev pub is_found_good : Option Verdict → Bool
is_found_good (Some Good) = true
is_found_good _ = false

-- a text was found good
abbrev pub is_good_on : List PlainJudged → List ℕ → Bool
is_good_on list text = is_found_good (verdict_on list text)

-- each verdict of a list stays in a later one
pub record Keeps (old new : List PlainJudged) : Type 0 where
  pub stays : (text : List ℕ) (v : Verdict) → verdict_on old text ≡ Some v
      → verdict_on new text ≡ Some v

-- what the reading of a text as an expression told, and the count of refusals behind it
pub record Told : Type 0 where
  pub verdict : Option Verdict
  pub after : ℕ

-- A text is told that by these verdicts and this count of refusals: of one that is known nobody is
-- asked unless it was good, and it is too large where it was so or a refusal was counted.
pub record IsTold (list : List PlainJudged) (text : List ℕ) (before : ℕ) (told : Told)
    : Type 0 where
  pub later : before ≤ told.after
  pub asks : is_answered list text ≡ true → told.after ≡ before
  pub size : told.verdict ≡ Some Size
      → (verdict_on list text ≡ Some Size) ⊎ Rose before told.after

-- Texts were read in order, the first by these verdicts and this count: each verdict that is new
-- stands with the counts round its reading behind those before it.
abbrev pub AreRead : List (List ℕ) → List PlainJudged → List PlainJudged → ℕ → ℕ → Type 0
AreRead [] old new before after = (new ≡ old) × (after ≡ before)
AreRead (text ∷ texts) old new before after =
    (told : Told) × IsTold old text before told
    × AreRead texts (with_verdict old text told.verdict before told.after) new told.after after

-- the first of some texts were read, and the rest was not
pub record ReadsFront (texts : List (List ℕ)) (old new : List PlainJudged) (before after : ℕ)
    : Type 0 where
  pub front : List (List ℕ)
  pub rest : List (List ℕ)
  pub parts : front ++ rest ≡ texts
  pub read : AreRead front old new before after

-- What reading expressions answers and leaves, by the verdicts before it and the counts of
-- refusals round it.
pub record Judges {T : Type 0} (texts : List (List ℕ)) (result : Result T PatternError)
    (old new : List PlainJudged) (before after : ℕ)
    : Type 0 where
  -- all of them were read where there is a pattern, and else a front
  pub reads : ReadsFront texts old new before after
  pub all : OnOk result (reads.rest ≡ [])
  pub keeps : Keeps old new
  pub sizes : OnOk result ((text : List ℕ) → verdict_on new text ≡ Some Size
      → verdict_on old text ≡ Some Size)
  pub later : before ≤ after
  -- the causes
  pub good : OnOk result (list_all is_good texts ≡ true)
  pub syntax : IsErrOf result error.RegexSyntax → SomeOf (λ t. is_readable t ≡ false) texts
  pub size : IsErrOf result error.RegexSize
      → SomeOf (λ t. verdict_on old t ≡ Some Size) texts ⊎ Rose before after
  -- the verdicts that the answer tells
  pub found : OnOk result (list_all (is_good_on new) texts ≡ true)
  pub lost_syntax : IsErrOf result error.RegexSyntax
      → SomeOf (λ t. verdict_on new t ≡ Some Syntax) texts
  pub lost_size : IsErrOf result error.RegexSize
      → SomeOf (λ t. verdict_on new t ≡ Some Size) texts

-- For the code alone: the same where operations are left, so far without an error.
pub record Halfway (all left : List (Operation Leaf)) (old new : List PlainJudged)
    (before after : ℕ)
    : Type 0 where
  pub front : List (List ℕ)
  pub parts : front ++ exprs_in left ≡ exprs_in all
  pub read : AreRead front old new before after
  pub keeps : Keeps old new
  pub sizes : (text : List ℕ) → verdict_on new text ≡ Some Size → verdict_on old text ≡ Some Size
  pub later : before ≤ after
  pub good : list_all is_good (exprs_in left) ≡ list_all is_good (exprs_in all)
  pub syntax : SomeOf (λ t. is_readable t ≡ false) (exprs_in left)
      → SomeOf (λ t. is_readable t ≡ false) (exprs_in all)
  pub found : (list : List PlainJudged) → Keeps new list
      → list_all (is_good_on list) (exprs_in left) ≡ true
      → list_all (is_good_on list) (exprs_in all) ≡ true
  pub lost : (list : List PlainJudged) (v : Verdict)
      → SomeOf (λ t. verdict_on list t ≡ Some v) (exprs_in left)
      → SomeOf (λ t. verdict_on list t ≡ Some v) (exprs_in all)
