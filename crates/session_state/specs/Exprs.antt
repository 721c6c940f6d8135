-- Expressions that commands name.
use Rattle.std.specs.Prelude.{ℕ, List, Result, Ok, Err, if◌then◌else◌}
use Rattle.mail_base.specs.Shown.{utf8_text}
use Rattle.patterns.specs.Causes.{is_good_on}
use Rattle.people.specs.Judged.{PlainJudged}
use Rattle.rc_lang.specs.Settings.{fault_of}
use Rattle.rc_lang_words.specs.Faults.{Fault}
use Rattle.rc_lang_words.specs.declared.fault.RcFault.TheVariants.{BadExpression}

-- the expression that a text is by these verdicts; or the word in which it stands is at fault
unfoldable pub expr_of : List PlainJudged → List ℕ → List ℕ → Result (List ℕ) Fault
expr_of verdicts text word =
    if is_good_on verdicts (utf8_text text) then Ok (utf8_text text)
    else Err (fault_of BadExpression word)

-- For the code alone.

-- Verdicts that are lent, of any kind. A function that has expressions judged has this premise, by
-- which it is proved of every builder.
abbrev pub IsLent : List PlainJudged → Type 0
IsLent verdicts = Unit {0}
