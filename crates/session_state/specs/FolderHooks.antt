-- What `folder-hook` asks for (Mutt's manual, "folder-hook").
use Rattle.std.specs.Prelude.{ℕ, List, Result, Ok, Err}
use Rattle.hook_requests.specs.HookWords.{PlainHookWords}
use Rattle.hook_requests.specs.Places.{CommandPlace}
use Rattle.hook_requests.specs.Words.{joined}
use Rattle.hooks.specs.Hooks.{PlainCommand, PlainHooks, folder_hook, with_folder}
use Rattle.people.specs.Judged.{PlainJudged}
use Rattle.rc_lang_words.specs.Faults.{Fault}
use Rattle.session_state.specs.Exprs.{expr_of}

-- the command of a hook, which keeps the place where it was given
abbrev pub command_of : CommandPlace → PlainHookWords → PlainCommand
command_of place hook =
    record { command = joined hook.rest; file = place.file; line = place.line }

-- the hooks with one of an expression, unless that is at fault
abbrev pub with_expr : CommandPlace → PlainHookWords → Result (List ℕ) Fault → PlainHooks
    → Result PlainHooks Fault
with_expr place hook (Ok expr) hooks =
    Ok (with_folder (folder_hook hook.negated expr (command_of place hook)) hooks)
with_expr place hook (Err fault) hooks = Err fault

-- the hooks with the one that these words give at a place, or their fault
abbrev pub with_folder_hook : List PlainJudged → CommandPlace → PlainHookWords → PlainHooks
    → Result PlainHooks Fault
with_folder_hook verdicts place hook hooks =
    with_expr place hook (expr_of verdicts hook.text hook.word) hooks
