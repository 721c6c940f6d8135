-- What `message-hook` and `save-hook` ask for (Mutt's manual, "message-hook", "save-hook").
use Rattle.std.specs.Prelude.{ℕ, List}
use Rattle.hooks.specs.Hooks.{PlainHooks, PlainPatternHook, pattern_hook, with_message, with_save}
use Rattle.hook_requests.specs.HookWords.{PlainHookWords}
use Rattle.hook_requests.specs.Words.{joined}
use Rattle.hook_requests.specs.declared.pattern_hook.HookTable.{HookTable}
use Rattle.hook_requests.specs.declared.pattern_hook.HookTable.TheVariants.{Messages, Saves}

-- one more hook of a list
abbrev pub with_hook : HookTable → PlainPatternHook → PlainHooks → PlainHooks
with_hook Messages hook hooks = with_message hook hooks
with_hook Saves hook hooks = with_save hook hooks

-- the hooks with the one of a pattern that these words give
abbrev pub with_pattern : HookTable → PlainHookWords → List ℕ → PlainHooks → PlainHooks
with_pattern table hook pattern hooks =
    with_hook table (pattern_hook hook.negated pattern (joined hook.rest)) hooks
