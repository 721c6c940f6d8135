-- The patterns of hooks for messages (Mutt's manual, "message-hook", "save-hook").
use Rattle.std.specs.Prelude.{ℕ, List, Option, Some, None, Result, Ok, Err}
use Rattle.hook_requests.specs.HookWords.{PlainHookWords}
use Rattle.hook_requests.specs.PatternHooks.{with_pattern}
use Rattle.hook_requests.specs.declared.pattern_hook.HookTable.{HookTable}
use Rattle.hooks.specs.Hooks.{PlainHooks}
use Rattle.patterns.specs.Hooks.{hook_pattern}
use Rattle.patterns_match.specs.Pattern.{PlainPattern}
use Rattle.people.specs.Judged.{PlainJudged}
use Rattle.rc_lang.specs.Settings.{fault_of}
use Rattle.rc_lang_words.specs.Faults.{Fault}
use Rattle.rc_lang_words.specs.declared.fault.RcFault.TheVariants.{BadPattern}
use Rattle.session_state.specs.Days.{reading_of}
use Rattle.session_state.specs.declared.instant.Instant.{Instant}

-- the text that is read as a pattern, if it is one; or the word is at fault
abbrev pub pattern_if : PlainHookWords → Option PlainPattern → Result (List ℕ) Fault
pattern_if hook None = Err (fault_of BadPattern hook.word)
pattern_if hook (Some pattern) = Ok (hook_pattern hook.text)

-- the same at a moment, by these verdicts
unfoldable pub pattern_in : Instant → List PlainJudged → PlainHookWords → Result (List ℕ) Fault
pattern_in time verdicts hook =
    pattern_if hook (reading_of verdicts time (hook_pattern hook.text))

-- the hooks with one of a pattern, unless that is at fault
abbrev pub with_pattern_by : HookTable → PlainHookWords → PlainHooks → Result (List ℕ) Fault
    → Result PlainHooks Fault
with_pattern_by table hook hooks (Ok pattern) = Ok (with_pattern table hook pattern hooks)
with_pattern_by table hook hooks (Err fault) = Err fault

-- the hooks with the one that these words give at a moment, or their fault
abbrev pub with_pattern_hook : Instant → List PlainJudged → HookTable → PlainHookWords
    → PlainHooks → Result PlainHooks Fault
with_pattern_hook time verdicts table hook hooks =
    with_pattern_by table hook hooks (pattern_in time verdicts hook)
